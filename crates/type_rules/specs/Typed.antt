-- Cited by the clauses of the walk over expressions: the types of the definitions that those of the code stand for, and
-- the scope that tables and variables stand for.
use Rattle.std.specs.Prelude.{◌≡◌, ℕ, Bool, List, Option, None, option_map}
use Rattle.cocoon_num.specs.Tree.{Expr, Exprs, FunctionDecl, Param, Design, token_index}
use Rattle.cocoon_num.specs.Sorts as sorts
use Rattle.cocoon_num.specs.Values.{BinaryOp, concat, and_, or_, implies}
use Rattle.cocoon_types.specs.Noting.{Notes}
use Rattle.cocoon_types.specs.Rules.{wrong_width}
use Rattle.cocoon_types.specs.TypeRules.{all_typed, wrong_args}
use Rattle.cocoon_types.specs.Typing as typing
use Rattle.cocoon_types.specs.Typing.{Scope}
use Rattle.type_rules.specs.Tests.{fails_among}
use Rattle.type_rules.specs.declared.sort.Sort.{Sort}
use Rattle.type_rules.specs.declared.sort.Sort.TheVariants.{Bits, Truth}
use Rattle.type_rules.specs.declared.sort.Typed.{Typed}
use Rattle.type_rules.specs.declared.calls.Args.{Args}
use Rattle.type_rules.specs.declared.sort.Operands.{Operands}
use Rattle.type_rules.specs.declared.sort.Operands.TheVariants.{Numbers, Joined, Truths}

-- the type
abbrev pub sort_value : Sort → sorts.Sort
sort_value (Bits w) = sorts.bits_sort w
sort_value Truth = sorts.truth_sort

-- the type, if there is one
abbrev pub sort_of : Option Sort → Option sorts.Sort
sort_of found = option_map sort_value found

-- which operands an operator has
abbrev pub operands_of : BinaryOp → Operands
operands_of concat = Joined
operands_of and_ = Truths
operands_of or_ = Truths
operands_of implies = Truths
operands_of op = Numbers

-- of a scope what types do not depend on: the functions before it, and its level
abbrev pub Around : Type 0
Around = List FunctionDecl × ℕ

-- the scope with these variables
abbrev pub scope_of : Around → Design → List Param → (packet : Bool) → Scope
scope_of around d vars packet = record { design = d; vars = vars; before = around.0; level = around.1; packet = packet }

-- it is what is found of an expression
pub record IsTyped (t : Typed) (s : Scope) (e : Expr) : Type 0 where
  pub at : t.at ≡ token_index e
  pub sort : sort_of t.sort ≡ typing.sort_of s e

-- it is what is found of some values, one by one, for parameters of these widths
pub record AreArgs (a : Args) (s : Scope) (ws : List ℕ) (es : Exprs) : Type 0 where
  pub typed : a.typed ≡ all_typed s es
  pub wrong : Notes (fails_among wrong_width (wrong_args s ws es)) None a.wrong
