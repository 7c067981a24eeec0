-- The definitions of a text have one table for each function.
use Rattle.std.proofs.Common.{◌≡◌, ◌≤◌, ◌<◌, ◌^◌, true, List, [], ◌∷◌, Option, Some, None, is_some, refl, sym, ap, ap₂, subst, ◌∙◌}
use Rattle.std.proofs.Math.Bridge.{le_prop}
use Rattle.std.specs.List.{AllZip}
use mathlib.Core.HLevel.{is_prop→PathP}
use Rattle.cocoon_num.specs.BitsOf.{value_of}
use Rattle.cocoon_num.specs.Tree.{Expr, FunctionDecl, DefsText}
use Rattle.cocoon_num.specs.declared.bits.Bits.{Bits}
use Rattle.cocoon_num.specs.declared.fun_table.FunRow.{FunRow}
use Rattle.cocoon_num.specs.declared.fun_table.FunTable.{FunTable}
use Rattle.cocoon_types.specs.Tables.{Row, Table, runtime_table}
use Rattle.runtime_defs.specs.Tabled.{IsPlace, IsRow, IsTable}

-- a number of a width is known by its value
one_number : (a b : Bits) → value_of a ≡ value_of b → a ≡ b
one_number a b h =
    let width : a.width ≡ b.width = cc in
    let value : a.value ≡ b.value = cc in
    λ i. record {
      width = width i;
      value = value i;
      wide = is_prop→PathP (λ j. 1 ≤ width j) (λ j. le_prop) a.wide b.wide i;
      narrow = is_prop→PathP (λ j. width j ≤ 128) (λ j. le_prop) a.narrow b.narrow i;
      fits = is_prop→PathP (λ j. value j < 2 ^ width j) (λ j. le_prop) a.fits b.fits i;
    }

same_row : (r : Row) (x y : FunRow) → IsRow r x → IsRow r y → x ≡ y
same_row r x y p q =
    let values : x.values ≡ y.values = p.values ∙ sym q.values in
    let masks : x.masks ≡ y.masks = p.masks ∙ sym q.masks in
    let result : x.result ≡ y.result = one_number x.result y.result (p.result ∙ sym q.result) in
    λ i. record { values = values i; masks = masks i; result = result i }

same_rows : (rs : List Row) (xs ys : List FunRow) → AllZip IsRow rs xs → AllZip IsRow rs ys → xs ≡ ys
same_rows [] [] [] p q = refl
same_rows [] [] (y ∷ ys) p q = absurd q
same_rows [] (x ∷ xs) ys p q = absurd p
same_rows (r ∷ rs) [] ys p q = absurd p
same_rows (r ∷ rs) (x ∷ xs) [] p q = absurd q
same_rows (r ∷ rs) (x ∷ xs) (y ∷ ys) p q = ap₂ (λ z zs. z ∷ zs) (same_row r x y p.0 q.0) (same_rows rs xs ys p.1 q.1)

same_table : (f : FunctionDecl) (t : Table) (x y : FunTable) → IsTable f t x → IsTable f t y → x ≡ y
same_table f t x y p q =
    let widths : x.widths ≡ y.widths = p.widths ∙ sym q.widths in
    let rows : x.rows ≡ y.rows = same_rows t.rows x.rows y.rows p.rows q.rows in
    let default : x.default ≡ y.default = one_number x.default y.default (p.default ∙ sym q.default) in
    λ i. record { widths = widths i; rows = rows i; default = default i }

-- a function with a body has no table in a text
no_table : (es : DefsText) (f : FunctionDecl) (b : Option Expr) → f.body ≡ b → is_some b ≡ true → (t : Table) → runtime_table es f ≡ Some t → ⊥
no_table es f None e h t r = absurd cc
no_table es f (Some x) e h t r = let none : runtime_table es f ≡ None = rw e refl in absurd cc

same_place : (es : DefsText) (f : FunctionDecl) (x y : Option FunTable) → IsPlace es f x → IsPlace es f y → x ≡ y
same_place es f None None p q = refl
same_place es f None (Some y) p q = absurd (no_table es f f.body refl p q.0 q.1)
same_place es f (Some x) None p q = absurd (no_table es f f.body refl q p.0 p.1)
same_place es f (Some x) (Some y) p q =
    let one : p.0 ≡ q.0 = cc (p.1, q.1) in
    ap Some (same_table f q.0 x y (subst (λ t. IsTable f t x) one p.2) q.2)

pub same_places : (es : DefsText) (fs : List FunctionDecl) (xs ys : List (Option FunTable)) → AllZip (IsPlace es) fs xs → AllZip (IsPlace es) fs ys → xs ≡ ys
same_places es [] [] [] p q = refl
same_places es [] [] (y ∷ ys) p q = absurd q
same_places es [] (x ∷ xs) ys p q = absurd p
same_places es (f ∷ fs) [] ys p q = absurd p
same_places es (f ∷ fs) (x ∷ xs) [] p q = absurd q
same_places es (f ∷ fs) (x ∷ xs) (y ∷ ys) p q = ap₂ (λ z zs. z ∷ zs) (same_place es f x y p.0 q.0) (same_places es fs xs ys p.1 q.1)
