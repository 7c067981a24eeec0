-- Cited by the clauses of the evaluation: the values of functions, where those that are defined at run time have tables.
-- A function with a body is its body over the arguments, which sees the functions before it. It is `apply` of the
-- definitions, but that a function of a table has no value at numbers that do not fit its widths.
use Rattle.std.specs.Prelude.{ℕ, ◌≤◌, List, [], ◌∷◌, All, if◌then◌else◌, length, take, reverse, Option, Some, None, option_and_then}
use Rattle.cocoon_num.specs.Values.{Value}
use Rattle.cocoon_num.specs.FunTables.{looked}
use Rattle.cocoon_num.specs.Names.{same_name}
use Rattle.cocoon_num.specs.Tree.{ResultKind, FunctionDecl, HeaderDecl, Design}
use Rattle.cocoon_num.specs.declared.fun_table.FunTable.{FunTable}
use Rattle.cocoon_types.specs.Design.{functions, widths_of}
use Rattle.cocoon_types.specs.Val.{Context, value, bind}
pub use Rattle.runtime_defs.specs.Places.{all_fit_widths, AllDeclared, HasShape, MayHaveShape, result_value, table_at}

-- the value of a table at numbers that fit it
abbrev pub table_value : ResultKind → Option FunTable → List ℕ → Option Value
table_value kind None ns = None
table_value kind (Some t) ns = if all_fit_widths t.widths ns then Some (result_value kind (looked t ns)) else None

-- the value of a function at some numbers, by its table or by its body with the functions before it
abbrev pub called : (List ℕ → List ℕ → Option Value) → Option FunTable → FunctionDecl → List ℕ → Option Value
called before table d ns = elim d.body [
  | None ↦ table_value d.result table ns
  | Some e ↦ option_and_then (λ env. value (record { headers = []; apply = before }) env [] e) (bind d.params ns)
]

-- a function's value at some numbers: of the first of these of that name, which sees those after it
abbrev pub apply_by : List (Option FunTable) → List FunctionDecl → List ℕ → List ℕ → Option Value
apply_by tables [] f ns = None
apply_by tables (d ∷ earlier) f ns =
    if same_name f d.name.text then called (apply_by tables earlier) (table_at tables (length earlier)) d ns
    else apply_by tables earlier f ns

-- the first functions of a design, so many, the last first
abbrev pub earlier : Design → ℕ → List FunctionDecl
earlier design n = reverse (take n (functions design))

-- that of expressions which see the headers and the first functions
abbrev pub context_by : List HeaderDecl → List (Option FunTable) → Design → ℕ → Context
context_by headers tables design n = record { headers = headers; apply = apply_by tables (earlier design n) }

-- what the evaluation of an expression that sees the first functions asks: the widths of parameters are declared ones,
-- and each table is well shaped
pub record CanEvaluate (design : Design) (tables : List (Option FunTable)) (n : ℕ) : Type 0 where
  pub params : All (λ (d : FunctionDecl). AllDeclared (widths_of d.params)) (functions design)
  pub before : n ≤ length (functions design)
  pub shapes : All MayHaveShape tables
