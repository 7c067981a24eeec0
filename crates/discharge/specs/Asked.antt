-- Cited by private clauses: queries, and what is said of one assumption.
use Rattle.std.specs.Prelude.{◌≡◌, ℕ, ◌<◌, length}
use Rattle.cocoon_num.specs.Tree.{AssumeDecl, Design}
use Rattle.cocoon_types.specs.Design.{widths_of}
use Rattle.bit_blast.specs.declared.blasting.BlastFault.{BlastFault}
use Rattle.bit_blast.specs.declared.blasting.BlastFault.TheVariants.{Clauses, NoMemory}
use Rattle.bv_terms.specs.Arenas.{term_at}
use Rattle.fun_instances.specs.OwnInputs.{HasInputsOf}
use Rattle.refinement.specs.Assumptions.{IsMet}
use Rattle.bv_terms.specs.WithRows.{Tables}
use Rattle.discharge.specs.Answering.{IsSpentOn, IsTooBig}
use Rattle.discharge.specs.Meeting.{IsFalseAt, OfTables}
use Rattle.discharge.specs.Queries.{CanBeAsked, assumption_query}
use Rattle.discharge.specs.declared.asking.Query.{Query}
use Rattle.discharge.specs.declared.meeting.Met.{Met}
use Rattle.discharge.specs.declared.meeting.Met.TheVariants.{Yes, Broken, SpentConflicts, Big}

-- ---- queries

-- the goal is the query of the assumption, and the inputs are its parameters
pub record IsQuery (d : Design) (a : AssumeDecl) (tables : Tables) (q : Query) : Type 0 where
  pub there : q.goal < length q.terms
  pub term : term_at q.terms q.goal ≡ assumption_query d a tables
  pub asked : CanBeAsked d a tables
  pub inputs : HasInputsOf (widths_of a.params) q.terms

-- ---- answers

-- what is said of the assumption of this number alone
abbrev pub Says : Design → Tables → (conflicts i : ℕ) → AssumeDecl → Met → Type 0
Says d tables conflicts i a Yes = OfTables d tables (λ defs. IsMet d defs a)
Says d tables conflicts i a (Broken n values) = (n ≡ i) × OfTables d tables (λ defs. IsFalseAt d defs a values)
Says d tables conflicts i a (SpentConflicts n vars log) = (n ≡ i) × IsSpentOn (assumption_query d a tables) conflicts vars log
Says d tables conflicts i a (Big n count) = (n ≡ i) × IsTooBig (assumption_query d a tables) count

-- what is said where the query has no list of clauses
abbrev pub Refuses : (i : ℕ) → BlastFault → Met → Type 0
Refuses i (Clauses count) met = met ≡ Big i count
Refuses i NoMemory met = ⊥
