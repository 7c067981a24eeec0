-- Cited by private clauses of `kept` and of the evaluation: the values of calls that are kept.
use Rattle.std.specs.Prelude.{◌≡◌, ℕ, List, [], ◌∷◌, Option, Some, option_map, slice_get}
use Rattle.std.specs.BTreeMap.{get_by}
use Rattle.std.specs.Cmp.Lexicographic.{slice_cmp}
use Rattle.std.specs.Ordering.{nat_cmp}
use Rattle.cocoon_num.specs.Tree.{Design, FunctionDecl}
use Rattle.cocoon_num.specs.declared.fun_table.FunTable.{FunTable}
use Rattle.cocoon_syntax.specs.TreeOf.{design_of}
use Rattle.cocoon_types.specs.Design.{functions}
use Rattle.role_values.specs.ByTables.{apply_by, called, earlier, table_at}
use Rattle.role_values.specs.Meant.{meant}
use Rattle.role_values.specs.declared.evaluation.Scene.{Scene}
use Rattle.role_values.specs.declared.kept.KeptCalls.{KeptCalls}
use Rattle.role_values.specs.declared.value.Value.{Value}

-- what is kept under a key: the number of a function, and then the arguments
abbrev pub kept_at : KeptCalls → List ℕ → Option (Option Value)
kept_at calls key = get_by (λ k. slice_cmp nat_cmp key k.items) calls.values

-- the value of the call of a key
abbrev pub IsValueOf : Design → List (Option FunTable) → List ℕ → Option Value → Type 0
IsValueOf design tables [] v = Unit {0}
IsValueOf design tables (n ∷ ns) v =
    (g : FunctionDecl) → slice_get (functions design) n ≡ Some g
    → option_map meant v ≡ called (apply_by tables (earlier design n)) (table_at tables n) g ns

-- what is kept of each call is its value
pub record AreValues (design : Design) (tables : List (Option FunTable)) (calls : KeptCalls) : Type 0 where
  pub are : (key : List ℕ) (v : Option Value) → kept_at calls key ≡ Some v → IsValueOf design tables key v

-- the same, of the functions of a scene
abbrev pub KeepsValues : Scene → KeptCalls → Type 0
KeepsValues s calls = AreValues (design_of s.checked.now) s.defs.now calls
