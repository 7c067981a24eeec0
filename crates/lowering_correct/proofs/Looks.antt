-- The rows of a function's table give what the table gives.
use Rattle.std.proofs.Common.{◌≡◌, ℕ, suc, ◌^◌, ◌<◌, ◌==◌, ◌&&◌, bit_and, Bool, true, false, List, [], ◌∷◌, map, length, All, if◌then◌else◌, arith, refl, sym, ap, ap₂, subst, ◌∙◌}
use Rattle.std.specs.Int.Bits.{and_self}
use Rattle.std.proofs.lemmas.Bool.Decides.{nat_tests}
use Rattle.std.proofs.lemmas.List.Elements.{All-head, All-tail}
use Rattle.std.proofs.lemmas.Nat.{and_assoc}
use Rattle.cocoon_num.specs.FunTables.{looked, row_matches}
use Rattle.cocoon_num.specs.Rows.{values_match, first_match}
use Rattle.cocoon_num.specs.Tree.{ResultKind, of_width, of_truth}
use Rattle.cocoon_num.specs.Values.{truth, fits_width}
use Rattle.cocoon_num.specs.declared.bits.Bits.{Bits}
use Rattle.cocoon_num.specs.declared.fun_table.FunRow.{FunRow}
use Rattle.cocoon_num.specs.declared.fun_table.FunTable.{FunTable}
use Rattle.lowering.specs.Agrees.{code_of}
use Rattle.lowering_correct.specs.SwitchRows.{key_row, masked}
use Rattle.lowering_correct.proofs.Found.{both-true}
use Rattle.p4_ir.specs.Switch.{table_result}
use Rattle.runtime_defs.specs.Fitting.{FitsRow, result_width}
use Rattle.runtime_defs.specs.Places.{all_fit_widths, result_value}

-- ---- rows

masked-twice : (n m : ℕ) → bit_and (bit_and n m) m ≡ bit_and n m
masked-twice n m = and_assoc m n m ∙ ap (bit_and n) (and_self m)

-- values match as they do without the bits that are not compared
masked-match : (vs ms xs : List ℕ) → length vs ≡ length ms → values_match (masked vs ms) ms xs ≡ values_match vs ms xs
masked-match [] [] xs h = refl
masked-match [] (m ∷ ms) xs h = absurd cc
masked-match (v ∷ vs) [] xs h = absurd cc
masked-match (v ∷ vs) (m ∷ ms) [] h = refl
masked-match (v ∷ vs) (m ∷ ms) (x ∷ xs) h = ap₂ (λ a b. (bit_and x m == a) && b) (masked-twice v m) (masked-match vs ms xs (cc))

pub fit-length : (ws ns : List ℕ) → all_fit_widths ws ns ≡ true → length ns ≡ length ws
fit-length [] [] h = refl
fit-length [] (n ∷ ns) h = absurd cc
fit-length (w ∷ ws) [] h = absurd cc
fit-length (w ∷ ws) (n ∷ ns) h = ap suc (fit-length ws ns (both-true (fits_width w n) (all_fit_widths ws ns) h).1)

pub row-lengths : (ws : List ℕ) (r : ℕ) (row : FunRow) → FitsRow ws r row → length row.values ≡ length row.masks
row-lengths ws r row f = fit-length ws row.values f.values_fit ∙ sym (fit-length ws row.masks f.masks_fit)

one-row : (a b : Bool) (x y : Bits) (m : ℕ) → a ≡ b → m ≡ y.value → (if a then x.value else m) ≡ (if b then x else y).value
one-row true true x y m e h = refl
one-row true false x y m e h = absurd cc
one-row false true x y m e h = absurd cc
one-row false false x y m e h = h

pub rows-give : (ws ns : List ℕ) (r : ℕ) (rows : List FunRow) (d : Bits) → All (FitsRow ws r) rows
    → table_result (map key_row rows) d.value ns ≡ (first_match (row_matches ns) (λ (row : FunRow). row.result) rows d).value
rows-give ws ns r [] d f = refl
rows-give ws ns r (row ∷ rows) d f =
    one-row (values_match (masked row.values row.masks) row.masks ns) (row_matches ns row) row.result (first_match (row_matches ns) (λ (row : FunRow). row.result) rows d) (table_result (map key_row rows) d.value ns)
    (masked-match row.values row.masks ns (row-lengths ws r row (All-head (FitsRow ws r) row rows f)))
    (rows-give ws ns r rows d (All-tail (FitsRow ws r) row rows f))

either-width : (b : Bool) (x y : Bits) (r : ℕ) → x.width ≡ r → y.width ≡ r → (if b then x else y).width ≡ r
either-width true x y r h k = h
either-width false x y r h k = k

pub looked-width : (ws ns : List ℕ) (r : ℕ) (rows : List FunRow) (d : Bits) → All (FitsRow ws r) rows → d.width ≡ r
    → (first_match (row_matches ns) (λ (row : FunRow). row.result) rows d).width ≡ r
looked-width ws ns r [] d f h = h
looked-width ws ns r (row ∷ rows) d f h =
    either-width (row_matches ns row) row.result (first_match (row_matches ns) (λ (row : FunRow). row.result) rows d) r (All-head (FitsRow ws r) row rows f).result_is
    (looked-width ws ns r rows d (All-tail (FitsRow ws r) row rows f) h)

-- ---- results

one-bit : (v : ℕ) (b : Bool) → (v == 1) ≡ b → v < 2 ^ 1 → code_of (truth b) ≡ v
one-bit v true e h = sym (grind (arith, nat_tests, e))
one-bit v false e h = grind (arith, nat_tests, e, h)

-- a result as it is kept is its number
pub code-is : (kind : ResultKind) (b : Bits) → b.width ≡ result_width kind → code_of (result_value kind b) ≡ b.value
code-is (of_width w) b h = refl
code-is of_truth b h = one-bit b.value (b.value == 1) refl (subst (λ w. b.value < 2 ^ w) h b.fits)

-- the rows of a function's table give its value
pub table-gives : (t : FunTable) (kind : ResultKind) (ns : List ℕ) → All (FitsRow t.widths (result_width kind)) t.rows → t.default.width ≡ result_width kind
    → table_result (map key_row t.rows) t.default.value ns ≡ code_of (result_value kind (looked t ns))
table-gives t kind ns f h =
    rows-give t.widths ns (result_width kind) t.rows t.default f
    ∙ sym (code-is kind (looked t ns) (looked-width t.widths ns (result_width kind) t.rows t.default f h))
