-- Cited by the clauses of `query`, and by private clauses: a query in an arena of its own.
use Rattle.std.specs.Prelude.{◌≡◌, ℕ, ◌<◌, List, length}
use Rattle.std.specs.List.{AllByRecursion}
use Rattle.cocoon_num.specs.Tree.{Design}
use Rattle.cocoon_resolve.specs.Readers.{all_assumptions}
use Rattle.bit_blast.specs.Goals.{IsGoal}
use Rattle.bv_terms.specs.Arenas.{term_at}
use Rattle.bv_terms.specs.TermTrees.{IsTerm, Term}
use Rattle.bv_terms.specs.declared.node.Node.{Node}
use Rattle.cnf_core.specs.declared.certificates.Instance.{Instance}
use Rattle.expr_terms.specs.Variables.{Makes}
use Rattle.flat_goals.specs.Applied.{AreApplied}
use Rattle.fun_instances.specs.Taking.{NumbersFit, OfAssumption}
use Rattle.query_laws.specs.OwnNames.{input_count, inputs_of}
use Rattle.query_laws.specs.Queries.{asked, query}
use Rattle.queries.specs.declared.asking.OwnGoal.{OwnGoal}

abbrev pub HasTerm : List Node → Term → Type 0
HasTerm nodes t = (id : ℕ) × Makes nodes id t

-- the goal is the query of the formula with these instances. What is asked is a term of the arena, too; its applications are these
pub record IsQuery (d : Design) (level : ℕ) (formula : Term) (instances : List Instance) (q : OwnGoal) : Type 0 where
  pub there : q.goal < length q.terms
  pub term : term_at q.terms q.goal ≡ query d level formula instances
  pub goal_ : IsGoal (query d level formula instances)
  pub asked_ : IsTerm (asked d level formula instances)
  pub asked_there : HasTerm q.terms (asked d level formula instances)
  pub inputs : q.inputs ≡ inputs_of formula
  pub applied : AreApplied q.terms (asked d level formula instances) (input_count formula) q.applied

-- the instance is of an assumption of the design, at numbers that fit it
pub record IsOfAssumption (d : Design) (i : Instance) : Type 0 where
  pub there : i.number < length (all_assumptions d)
  pub fit : OfAssumption d i.number (λ a. NumbersFit a i.values)

abbrev pub AreOfAssumptions : Design → List Instance → Type 0
AreOfAssumptions d instances = AllByRecursion (IsOfAssumption d) instances
