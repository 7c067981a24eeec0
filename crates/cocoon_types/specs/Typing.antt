-- What is in scope, and the types of expressions. It follows the section "Rules of a design" of docs/LANGUAGE.md.
-- Optional headers are absent.
use Rattle.std.specs.Prelude.{ℕ, ◌&&◌, Bool, true, false, List, [], ◌∷◌, ◌++◌, if◌then◌else◌, Option, Some, None, option_map, option_and_then}
use Rattle.cocoon_num.specs.Tree.{Name, Expr, name, field, lit, true_or_false, call, unary, binary, slice, pick, Exprs, no_exprs, expr, Param, ResultKind, of_width, of_truth, FunctionDecl, Design}
use Rattle.cocoon_num.specs.Names.{named}
use Rattle.cocoon_types.specs.Design.{functions, field_width, widths_of}
use Rattle.cocoon_num.specs.Sorts.{Sort, bits_sort, truth_sort, has_sort, unary_sort, binary_sort, slice_sort, pick_sort}
use Rattle.cocoon_num.specs.Values.{with_both, with_all}

-- What is in scope: the variables, the functions whose declarations end before it, and whether the packet is. The design
-- and the level are those in which it stands.
pub record Scope : Type 0 where
  pub design : Design
  pub vars : List Param
  pub before : List FunctionDecl
  pub level : ℕ
  pub packet : Bool

-- the scope with one more variable
abbrev pub with_var : Name → ℕ → Scope → Scope
with_var x width s = record s { vars = record { name = x; width = width } ∷ s.vars }

-- the scope with some parameters
abbrev pub with_vars : List Param → Scope → Scope
with_vars ps s = record s { vars = ps ++ s.vars }

-- the width of a variable that is in scope
abbrev pub var_width : Scope → List ℕ → Option ℕ
var_width s x = option_map (λ (p : Param). p.width) (named (λ (p : Param). p.name) x s.vars)

-- the function of this name, declared anywhere in the design
abbrev pub function_named : Scope → List ℕ → Option FunctionDecl
function_named s f = named (λ (d : FunctionDecl). d.name) f (functions s.design)

-- ---- types

-- the type of a function's result
abbrev pub result_sort : ResultKind → Sort
result_sort (of_width w) = bits_sort w
result_sort of_truth = truth_sort

-- the values are numbers of these widths, as many
abbrev pub args_fit : List ℕ → List (Option Sort) → Bool
args_fit [] [] = true
args_fit (w ∷ ws) (s ∷ ss) = has_sort (bits_sort w) s && args_fit ws ss
args_fit _ _ = false

-- the type of a call, where the function is found and its values fit
abbrev pub call_sort : Option FunctionDecl → List (Option Sort) → Option Sort
call_sort f ss =
    option_and_then (λ (d : FunctionDecl). if args_fit (widths_of d.params) ss then Some (result_sort d.result) else None) f

abbrev mutual
  -- the type of an expression, where it and all its parts have one; a field has one only where there is a packet
  pub sort_of : Scope → Expr → Option Sort
  sort_of s (name at x) = option_map bits_sort (var_width s x)
  sort_of s (field at h f) = if s.packet then option_map bits_sort (field_width s.design.headers h.text f.text) else None
  sort_of s (lit at w n) = Some (bits_sort w)
  sort_of s (true_or_false at b) = Some truth_sort
  sort_of s (call at f es) = call_sort (function_named s f.text) (sorts_of s es)
  sort_of s (unary at op a) = option_and_then (unary_sort op) (sort_of s a)
  sort_of s (binary at op a b) = with_both (binary_sort op) (sort_of s a) (sort_of s b)
  sort_of s (slice at a high low) = option_and_then (λ t. slice_sort t high low) (sort_of s a)
  sort_of s (pick at c a b) = with_all pick_sort (sort_of s c) (sort_of s a) (sort_of s b)

  -- the types of some expressions
  pub sorts_of : Scope → Exprs → List (Option Sort)
  sorts_of s no_exprs = []
  sorts_of s (expr e es) = sort_of s e ∷ sorts_of s es
