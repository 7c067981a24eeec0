-- Cited by the clauses of the evaluation: the values of expressions at one point of a run, and those of functions.
use Rattle.std.specs.Prelude.{ℕ, List, [], map, Option}
use Rattle.cocoon_num.specs.PacketForms.{FieldsFit}
use Rattle.cocoon_num.specs.Tree.{Expr, FunctionDecl, HeaderDecl}
use Rattle.cocoon_num.specs.Values.{Value}
use Rattle.cocoon_resolve.specs.Readers.{all_widths}
use Rattle.cocoon_syntax.specs.TreeOf.{design_of, exprs_of, header_of}
use Rattle.cocoon_types.specs.Val.{Context, value, numbers}
use Rattle.role_values.specs.Bound.{env_of}
use Rattle.role_values.specs.ByTables.{apply_by, called, CanEvaluate, context_by, earlier, table_at}
use Rattle.role_values.specs.DeclaredWidths.{AllDeclared}
use Rattle.role_values.specs.Flat.{packet_of}
use Rattle.role_values.specs.declared.bindings.Binding.{Binding}
use Rattle.role_values.specs.declared.evaluation.Scene.{Scene}
use Rattle.role_values.specs.declared.evaluation.State.{State}

-- the headers of a scene
abbrev pub headers_of : Scene → List HeaderDecl
headers_of s = map header_of s.headers.now

-- what its expressions are evaluated in
abbrev pub context_of : Scene → Context
context_of s = context_by (headers_of s) s.defs.now (design_of s.checked.now) s.before

-- its functions can be evaluated
abbrev pub SeesFunctions : Scene → Type 0
SeesFunctions s = CanEvaluate (design_of s.checked.now) s.defs.now s.before

-- the numbers of the fields fit its headers, whose widths are those of declarations
pub record HasPacket (s : Scene) (state : State) : Type 0 where
  pub widths : AllDeclared (all_widths (headers_of s))
  pub fits : FieldsFit (all_widths (headers_of s)) state.fields.items

-- the value of an expression, with these variables and fields
abbrev pub value_in : Scene → State → Expr → Option Value
value_in s state e = value (context_of s) (env_of state.variables.items) (packet_of (headers_of s) state.fields.items) e

-- the numbers of some expressions, likewise
abbrev pub all_values : Scene → State → List Expr → Option (List ℕ)
all_values s state es =
    numbers (context_of s) (env_of state.variables.items) (packet_of (headers_of s) state.fields.items) (exprs_of es)

-- the value of a function by its name, at some numbers
abbrev pub applied : Scene → List ℕ → List ℕ → Option Value
applied s f ns = apply_by s.defs.now (earlier (design_of s.checked.now) s.before) f ns

-- that of the function of a number
abbrev pub called_by : Scene → ℕ → FunctionDecl → List ℕ → Option Value
called_by s n g ns = called (apply_by s.defs.now (earlier (design_of s.checked.now) n)) (table_at s.defs.now n) g ns

-- that of its body, with these variables
abbrev pub body_value : Scene → ℕ → List Binding → Expr → Option Value
body_value s n bs e = value (context_by [] s.defs.now (design_of s.checked.now) n) (env_of bs) [] e
