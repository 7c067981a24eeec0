-- Cited by all laws of rows: that a log is one of a lowering of a design. Its tables hold functions of the design, over meta
-- fields that have the widths of the parameters and of the result, and all is numbered one after another.
use Rattle.std.specs.Prelude.{◌≡◌, ℕ, true, false, List, [], ◌∷◌, slice_get, Some}
use Rattle.cocoon_num.specs.Lists.{is_one_of}
use Rattle.cocoon_num.specs.Tree.{Param, FunctionDecl, Design}
use Rattle.cocoon_types.specs.DefsRules.{fork_calls, runtime_named}
use Rattle.cocoon_types.specs.Tables.{Defs}
use Rattle.p4_ir.specs.P4Tree.{P4Table}
use Rattle.lowering.specs.Agrees.{Filling}
use Rattle.lowering.specs.Log.{Placed, widths_in}
use Rattle.lowering.specs.Lower.{Made, a_field, a_table, a_group, params_before_last, kind_width}
use Rattle.runtime_defs.specs.Places.{Places}
use Rattle.lowering_correct.specs.Groups.{group_number}

-- the keys are meta fields of the widths of these parameters, where meta fields have these widths
abbrev pub KeysAre : (widths keys : List ℕ) → List Param → Type 0
KeysAre widths [] [] = Unit {0}
KeysAre widths (i ∷ keys) (p ∷ ps) = (slice_get widths i ≡ Some p.width) × KeysAre widths keys ps
KeysAre widths _ _ = ⊥

-- the table holds this run-time function, by all its parameters
pub record HoldsFunction (d : Design) (widths : List ℕ) (t : P4Table) (f : List ℕ) (ps : List Param) : Type 0 where
  pub function : FunctionDecl
  pub named : runtime_named d f ≡ Some function
  pub params : ps ≡ function.params
  pub ternary : t.exact ≡ false
  pub keys : KeysAre widths t.keys ps
  pub result : slice_get widths t.result ≡ Some (kind_width function.result)

-- the table holds the groups of this run-time function, which stands under a fork, by the parameters before the choice
pub record HoldsGroups (d : Design) (widths : List ℕ) (t : P4Table) (f : List ℕ) (ps : List Param) : Type 0 where
  pub function : FunctionDecl
  pub named : runtime_named d f ≡ Some function
  pub forked : is_one_of (fork_calls d) f ≡ true
  pub params : ps ≡ params_before_last function.params
  pub keys : KeysAre widths t.keys ps
  pub result : slice_get widths t.result ≡ Some 16

abbrev pub IsOf : Design → (widths : List ℕ) → Made → Type 0
IsOf d widths (a_field x i w) = Unit {0}
IsOf d widths (a_table t f ps) = HoldsFunction d widths t f ps
IsOf d widths (a_group t f ps) = HoldsGroups d widths t f ps

abbrev pub AllOf : Design → (widths : List ℕ) → List Made → Type 0
AllOf d widths [] = Unit {0}
AllOf d widths (m ∷ ms) = IsOf d widths m × AllOf d widths ms

-- the log of a program: the field `site` stands before what was made
pub record IsLogOf (d : Design) (made : List Made) : Type 0 where
  pub past_fields : ℕ
  pub past_tables : ℕ
  pub placed : Placed 1 0 made past_fields past_tables
  pub tables : AllOf d (8 ∷ widths_in made) made

-- ---- what rows are made from

-- these definitions, with the numbers of the groups of their tables
abbrev pub filling : Design → Places → Defs → Filling
filling d places defs = record { defs = defs; group = group_number d places }
