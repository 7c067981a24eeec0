-- Cited by private clauses of `sizes`: the sizes of the first functions of a design, which are known.
use Rattle.std.specs.Prelude.{◌≡◌, ℕ, ◌≤◌, List, length, slice_get, Option, Some}
use Rattle.cocoon_num.specs.Tree.{FunctionDecl, Design}
use Rattle.cocoon_syntax.specs.TreeOf.{design_of}
use Rattle.cocoon_types.specs.Design.{functions}
use Rattle.expr_terms.specs.Sizes.{IsCount, body_nodes, call_nodes, functions_before}
use Rattle.expr_terms.specs.declared.sizes.Counting.{Counting}

-- the nodes of calls, by the functions whose sizes are known
abbrev pub calls_known : Counting → List ℕ → ℕ
calls_known c = call_nodes (functions_before (design_of c.checked.now) (length c.sizes.now))

-- these are the sizes of the first functions of a design
pub record KnowsFirst (d : Design) (sizes : List (Option ℕ)) : Type 0 where
  pub few : length sizes ≤ 128
  pub before : length sizes ≤ length (functions d)
  pub each_ : (k : ℕ) (g : FunctionDecl) (size : Option ℕ) → slice_get (functions d) k ≡ Some g → slice_get sizes k ≡ Some size
      → IsCount (body_nodes (call_nodes (functions_before d k)) g.body) size

abbrev pub KnowsSizes : Counting → Type 0
KnowsSizes c = KnowsFirst (design_of c.checked.now) c.sizes.now
