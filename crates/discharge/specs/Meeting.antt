-- Cited by the clauses of `meets`: what it says of definitions. It follows the section "Assumptions" of docs/LANGUAGE.md.
use Rattle.std.specs.Prelude.{◌≡◌, ℕ, true, false, List, [], Some, All, slice_get, take}
use Rattle.cocoon_num.specs.Tree.{AssumeDecl, DefsText, Design}
use Rattle.cocoon_num.specs.Values.{truth}
use Rattle.cocoon_resolve.specs.Readers.{all_assumptions}
use Rattle.cocoon_types.specs.Tables.{Defs, defs_of}
use Rattle.cocoon_types.specs.Val.{Env, bind, context, value}
use Rattle.refinement.specs.Assumptions.{IsMet}
use Rattle.runtime_defs.specs.Stands.{Stands}
use Rattle.sound_types.specs.Defined.{HasDefinitions}
use Rattle.bv_terms.specs.WithRows.{Tables}

-- this holds of the definitions of each text for which the tables stand
abbrev pub OfTables : Design → Tables → (Defs → Type 0) → Type 0
OfTables d tables P = (es : DefsText) → HasDefinitions d es → Stands d tables (defs_of d es) → P (defs_of d es)

-- the assumption is false at these numbers, which fit its parameters
pub record IsFalseAt (d : Design) (defs : Defs) (a : AssumeDecl) (ns : List ℕ) : Type 0 where
  pub env : Env
  pub bound : bind a.params ns ≡ Some env
  pub is_false : value (context d defs) env [] a.body ≡ Some (truth false)

-- each assumption before the one of this number is true at every tuple
abbrev pub EarlierAreMet : Design → Tables → ℕ → Type 0
EarlierAreMet d tables i = OfTables d tables (λ defs. All (IsMet d defs) (take i (all_assumptions d)))

-- this is said of the assumption of a number, and those before it are met
pub record IsTold (d : Design) (tables : Tables) (i : ℕ) (says : AssumeDecl → Type 0) : Type 0 where
  pub assumption : AssumeDecl
  pub is : slice_get (all_assumptions d) i ≡ Some assumption
  pub said : says assumption
  pub earlier : EarlierAreMet d tables i
