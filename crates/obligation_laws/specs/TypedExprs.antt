-- Cited by the clauses of the laws of this crate: types of expressions by cases on their trees,
-- where all that is called is declared before.
use Rattle.std.specs.Prelude.{◌≡◌, ℕ, ◌<◌, ◌^◌, true, List, [], ◌∷◌, Some, slice_get}
use Rattle.cocoon_num.specs.Sorts.{Sort, bits_sort, truth_sort, unary_sort, binary_sort, slice_sort}
use Rattle.cocoon_num.specs.Tree.{Expr, name, field, lit, true_or_false, call, unary, binary, slice, pick, Exprs, no_exprs, expr, FunctionDecl}
use Rattle.cocoon_types.specs.Design.{field_width, widths_of}
use Rattle.cocoon_types.specs.Typing.{Scope, result_sort, var_width}

-- the function is one of those before, and has this name
pub record IsBefore (s : Scope) (f : List ℕ) (g : FunctionDecl) : Type 0 where
  pub number : ℕ
  pub there : slice_get s.before number ≡ Some g
  pub name : f ≡ g.name.text

abbrev mutual
  -- the expression is of the type, its literals fit, and it calls functions that are declared before alone
  pub TypedAs : Scope → Sort → Expr → Type 0
  TypedAs s t (name at x) = (w : ℕ) × (var_width s x ≡ Some w) × (t ≡ bits_sort w)
  TypedAs s t (field at h f) =
      (w : ℕ) × (s.packet ≡ true) × (field_width s.design.headers h.text f.text ≡ Some w) × (t ≡ bits_sort w)
  TypedAs s t (lit at w n) = (n < 2 ^ w) × (t ≡ bits_sort w)
  TypedAs s t (true_or_false at b) = t ≡ truth_sort
  TypedAs s t (call at f es) =
      (g : FunctionDecl) × IsBefore s f.text g × TypedAll s (widths_of g.params) es × (t ≡ result_sort g.result)
  TypedAs s t (unary at op a) = (u : Sort) × TypedAs s u a × (unary_sort op u ≡ Some t)
  TypedAs s t (binary at op a b) = (u v : Sort) × TypedAs s u a × TypedAs s v b × (binary_sort op u v ≡ Some t)
  TypedAs s t (slice at a high low) = (u : Sort) × TypedAs s u a × (slice_sort u high low ≡ Some t)
  TypedAs s t (pick at c a b) = TypedAs s truth_sort c × TypedAs s t a × TypedAs s t b

  -- the expressions are numbers of these widths, as many
  pub TypedAll : Scope → List ℕ → Exprs → Type 0
  TypedAll s [] no_exprs = Unit {0}
  TypedAll s (w ∷ ws) (expr e es) = TypedAs s (bits_sort w) e × TypedAll s ws es
  TypedAll s _ _ = ⊥
