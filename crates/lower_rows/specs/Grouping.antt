-- Cited by private clauses of `table_groups`: the sets of members that are filled, row by row.
use Rattle.std.specs.Prelude.{◌≡◌, ℕ, zero, suc, Bool, List, [], ◌∷◌, map, if◌then◌else◌, Option, Some, None, Vec}
use Rattle.std.specs.BTreeSet.{BTreeSet}
use Rattle.std.specs.declared.alloc.Global.{Global}
use Rattle.cocoon_num.specs.declared.fun_table.FunRow.{FunRow}
use Rattle.lowering_correct.specs.Groups.{before_last, last_of, put_in}
use Rattle.lowering_correct.specs.Groups as spec
use Rattle.lower_rows.specs.FirstRows.{is_some_true, said_by}
use Rattle.lower_rows.specs.Numbered.{held_index}
use Rattle.lower_rows.specs.declared.args_table.ArgsTable.{ArgsTable}
use Rattle.lower_rows.specs.declared.first_rows.FirstRows.{FirstRows}
use Rattle.lower_rows.specs.declared.table_groups.Grouped.{Grouped}

-- the members of each set
abbrev pub keys_of : List (BTreeSet ℕ) → List (List ℕ)
keys_of sets = map (λ (s : BTreeSet ℕ). s.keys) sets

abbrev pub lists_of : List (Vec ℕ Global) → List (List ℕ)
lists_of vs = map (λ (v : Vec ℕ Global). v.items) vs

-- no member for a list
abbrev pub no_members : Vec ℕ Global → List ℕ
no_members v = []

-- a number more in the set of this index
abbrev pub put_at : ℕ → ℕ → List (List ℕ) → List (List ℕ)
put_at i x [] = []
put_at zero x (ks ∷ kss) = put_in x ks ∷ kss
put_at (suc i) x (ks ∷ kss) = ks ∷ put_at i x kss

abbrev pub with_choice : Option ℕ → Bool → ℕ → List (List ℕ) → List (List ℕ)
with_choice None b x kss = kss
with_choice (Some i) b x kss = if b then put_at i x kss else kss

-- whether the first row of these values is true
abbrev pub said_true : FirstRows → List ℕ → Bool
said_true t x = is_some_true (said_by t x)

-- the choice of the row is added to the set of its arguments
abbrev pub AddsChoice : ArgsTable → FirstRows → FunRow → List (BTreeSet ℕ) → List (BTreeSet ℕ) → Type 0
AddsChoice args first row old new =
    keys_of new ≡ with_choice (held_index args (before_last row.values)) (said_true first row.values) (last_of row.values) (keys_of old)

abbrev pub grouped_of : Grouped → spec.Grouped
grouped_of g = record { args = g.args.items; members = g.members.items }
