-- How many rows the groups of a function make.
use Rattle.std.proofs.Common.{◌≡◌, ℕ, suc, ◌+◌, Bool, true, false, List, [], ◌∷◌, map, length, cond, if◌then◌else◌, count_by, refl, sym, ap, ap₂, ◌∙◌}
use Rattle.std.proofs.lemmas.List.{append-nil, length-append}
use Rattle.std.proofs.lemmas.List.Sums.{sum_by-cons}
use Rattle.cocoon_num.specs.Names.{same_name}
use Rattle.p4_ir.specs.P4Tree.{KeyRow}
use Rattle.lowering_correct.specs.SwitchRows.{rows_from}
use Rattle.lower_rows.specs.AllGroups.{fork_group_of}
use Rattle.lower_rows.specs.AllRows.{rows_in}
use Rattle.lower_rows.specs.declared.groups.ForkGroup.{ForkGroup}

at-most-one : (b : Bool) (row : KeyRow) → length (if b then row ∷ [] else []) ≡ cond b 1 0
at-most-one true row = refl
at-most-one false row = refl

-- a row for each, whatever its masks and its number
group-rows : (masks : List ℕ) (k : ℕ) (gs : List ForkGroup) (f : List ℕ)
    → length (rows_from masks k (map fork_group_of gs) f) ≡ count_by (λ (g : ForkGroup). same_name f g.function.now) gs
group-rows masks k [] f = refl
group-rows masks k (g ∷ gs) f =
    let row : KeyRow = record { values = g.grouped.args.items; masks = masks; result = k } in
    length-append (if same_name f g.function.now then row ∷ [] else []) (rows_from masks (suc k) (map fork_group_of gs) f)
    ∙ ap₂ (λ m n. m + n) (at-most-one (same_name f g.function.now) row) (group-rows masks (suc k) gs f)
    ∙ sym (sum_by-cons (λ (h : ForkGroup). cond (same_name f h.function.now) 1 0) g gs)

-- in a table of their own
pub table-rows : (number : ℕ) (masks : List ℕ) (gs : List ForkGroup) (f : List ℕ)
    → length (rows_in (record { number = number; otherwise = 0; rows = rows_from masks 1 (map fork_group_of gs) f } ∷ []))
    ≡ count_by (λ (g : ForkGroup). same_name f g.function.now) gs
table-rows number masks gs f = ap length (append-nil (rows_from masks 1 (map fork_group_of gs) f)) ∙ group-rows masks 1 gs f
