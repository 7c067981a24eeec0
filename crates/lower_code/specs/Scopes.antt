-- Cited by the clauses of expressions, calls and blocks: in what they are lowered.
use Rattle.std.specs.Prelude.{◌≡◌, ℕ, Bool, ◌≤◌, List, [], ◌∷◌, length, reverse, slice_get, take, if◌then◌else◌, Option, Some, None}
use Rattle.cocoon_num.specs.Names.{same_name}
use Rattle.cocoon_num.specs.Tree.{Block, Expr, FunctionDecl, HeaderDecl, Design}
use Rattle.cocoon_syntax.specs.TreeOf.{design_of}
use Rattle.cocoon_types.specs.Design.{functions}
use Rattle.cocoon_num.specs.Values.{BinaryOp, implies}
use Rattle.p4_ir.specs.P4Tree.{P4Expr, p_binary}
use Rattle.lowering.specs.Lower.{Callees, Counts, Lowered, Variable, p_operation, after_args, by_table, callees, closed, lower_expr, variables_from}
use Rattle.lowering.specs.LowerBlock.{in_block}
use Rattle.lowering.specs.Counting.{call_count, closed_count, expr_count}
use Rattle.lower_code.specs.declared.functions.Scope.{Scope}

-- the first functions of a design, so many, the last first
abbrev pub functions_before : Design → ℕ → List FunctionDecl
functions_before d n = reverse (take n (functions d))

-- the number of the first of these of a name, where they are numbered down to 0
abbrev pub number_in : List FunctionDecl → List ℕ → Option ℕ
number_in [] f = None
number_in (d ∷ earlier) f = if same_name f d.name.text then Some (length earlier) else number_in earlier f

-- the design
abbrev pub design_in : Scope → Design
design_in s = design_of s.checked.now

-- the headers, the functions that are seen, and the port
abbrev pub callees_in : Scope → Callees
callees_in s = callees (design_in s).headers (functions_before (design_in s) s.before) s.port.now

-- the design has as many functions as are seen
abbrev pub SeesFunctions : Scope → Type 0
SeesFunctions s = s.before ≤ length (functions (design_in s))

-- a call of a function over those before it: of its table, or of its body
abbrev pub function_lowered : List HeaderDecl → List FunctionDecl → FunctionDecl → List P4Expr → Counts → Lowered
function_lowered headers earlier g es n =
    elim g.body [
      | None ↦ by_table g es n
      | Some e ↦ closed g es n (lower_expr (callees headers earlier []) (variables_from n.field g.params) (after_args g n) e)
    ]

-- a call of the function of this number, which sees those before it
abbrev pub function_in : Design → ℕ → FunctionDecl → List P4Expr → Counts → Lowered
function_in d number g es n = function_lowered d.headers (functions_before d number) g es n

-- the body of the function of this number
abbrev pub body_lowered : Design → ℕ → List Variable → Counts → Expr → Lowered
body_lowered d number vars n e = lower_expr (callees d.headers (functions_before d number) []) vars n e

-- it is the operator, or none where that is `implies`
abbrev pub IsOperator : BinaryOp → Option BinaryOp → Type 0
IsOperator op None = op ≡ implies
IsOperator op (Some x) = (x ≡ op) × ((a b : P4Expr) → p_operation op a b ≡ p_binary x a b)

-- a block uses the port by its name
abbrev pub uses_port : Scope → Block → Bool
uses_port s b = in_block s.port.now b

-- ---- counting

-- the functions before this one, the last first
abbrev pub functions_in : Scope → ℕ → List FunctionDecl
functions_in s number = functions_before (design_in s) number

-- what is counted of a call of a function that is seen
abbrev pub called_count : (part : ℕ) → Scope → List ℕ → ℕ
called_count part s f = call_count part (functions_in s s.before) f

-- that of a call of this function, which sees those before it
abbrev pub function_count : (part : ℕ) → Design → ℕ → FunctionDecl → ℕ
function_count part d number g =
    elim g.body [
      | None ↦ 1
      | Some e ↦ closed_count part (length g.params) (expr_count part (call_count part (functions_before d number)) e)
    ]

-- the counts that are kept of calls of functions, by their numbers, are theirs
abbrev pub KnowsCounts : (part : ℕ) → Design → List (Option ℕ) → Type 0
KnowsCounts part d known =
    (k n : ℕ) (g : FunctionDecl) → slice_get (functions d) k ≡ Some g → slice_get known k ≡ Some (Some n) → n ≡ function_count part d k g
