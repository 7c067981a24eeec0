-- Cited by private clauses: goals with their applications, and tuples of their terms.
use Rattle.std.specs.Prelude.{◌≡◌, ℕ, ◌<◌, Bool, List, length, map, take, Vec}
use Rattle.std.specs.List.{AllByRecursion}
use Rattle.std.specs.declared.alloc.Global.{Global}
use Rattle.cocoon_num.specs.Tree.{AssumeDecl, Design}
use Rattle.bv_terms.specs.declared.node.Node.{Node}
use Rattle.bv_terms.specs.Arenas.{term_at}
use Rattle.bv_terms.specs.Walks.{AreNumbersOf, applications}
use Rattle.expr_terms.specs.Scopes.{Takes}
use Rattle.expr_terms.specs.Variables.{terms_at}
use Rattle.query_laws.specs.Over.{IsOver}
use Rattle.query_laws.specs.Tuples.{most_instances, tuples_of}
use Rattle.pattern_instances.specs.Found.{tuple_ids}
use Rattle.pattern_instances.specs.declared.instances.Goal.{Goal}

-- a term over the design, with its applications
pub record IsGoal (d : Design) (nodes : List Node) (g : Goal) : Type 0 where
  pub there : g.term < length nodes
  pub inputs : ℕ → ℕ → Bool
  pub over : IsOver d inputs (term_at nodes g.term)
  pub applications_ : AreNumbersOf nodes (applications (term_at nodes g.term)) g.applications.items

-- the first tuples of an assumption for a goal
pub record AreTuples (d : Design) (a : AssumeDecl) (nodes : List Node) (goal : ℕ) (tuples : List (Vec ℕ Global)) : Type 0 where
  pub takes : AllByRecursion (Takes nodes a.params) (tuple_ids tuples)
  pub are : map (terms_at nodes) (tuple_ids tuples) ≡ take most_instances (tuples_of d a (term_at nodes goal))
