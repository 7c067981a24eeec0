-- By tables that fit the design, functions have values of their types.
use Rattle.std.proofs.Common.{◌≡◌, ℕ, suc, ◌<◌, ◌^◌, List, [], ◌∷◌, ◌++◌, length, reverse, take, drop, All, Bool, true, false, Option, Some, None, if◌then◌else◌, option_and_then, refl, sym, ap, subst, ◌∙◌, arith}
use Rattle.std.specs.Prelude.{slice_get}
use Rattle.std.specs.List.{AllZip}
use Rattle.std.proofs.lemmas.Bool.{lt-ltb}
use Rattle.std.proofs.lemmas.List.{length-reverse, take_all, take-append-drop}
use Rattle.cocoon_num.specs.FunTables.{looked, row_matches}
use Rattle.cocoon_num.specs.PacketForms.{FieldsFit}
use Rattle.cocoon_num.specs.Rows.{first_match}
use Rattle.cocoon_num.specs.Tree.{ResultKind, of_width, of_truth, FunctionDecl, Design}
use Rattle.cocoon_num.specs.Values.{fits_width}
use Rattle.cocoon_num.specs.declared.bits.Bits.{Bits}
use Rattle.cocoon_num.specs.declared.fun_table.FunRow.{FunRow}
use Rattle.cocoon_num.specs.declared.fun_table.FunTable.{FunTable}
use Rattle.cocoon_types.specs.Design.{functions, widths_of}
use Rattle.cocoon_types.specs.Typing.{result_sort}
use Rattle.role_values.specs.ByTables.{all_fit_widths, apply_by, earlier, result_value, table_at, table_value}
use Rattle.runtime_defs.specs.Fitting.{FitsDesign, FitsPlace, FitsRow, result_width}
use Rattle.sound_types.specs.Defined.{HasTables}
use Rattle.sound_types.specs.Matching.{HasValue, IsOfSort}
use Rattle.sound_types.proofs.Declared.{names_differ, typed_bodies}
use Rattle.sound_types.proofs.Functions.{Applies, Given, GivenFits, HaveValues, first_typed, functions_value}
use Rattle.sound_types.proofs.Options.{true_both}

-- what stands at the place of an element
zip_at : {A B : Type 0} (R : A → B → Type 0) (before : List A) (x : A) (rest : List A) (ys : List B) → AllZip R (before ++ x ∷ rest) ys → (y : B) × (slice_get ys (length before) ≡ Some y) × R x y
zip_at R [] x rest [] h = absurd h
zip_at R [] x rest (y ∷ ys) h = (y, refl, h.0)
zip_at R (z ∷ before) x rest [] h = absurd h
zip_at R (z ∷ before) x rest (y ∷ ys) h = zip_at R before x rest ys h.1

widths_fit : (ws ns : List ℕ) → FieldsFit ws ns → all_fit_widths ws ns ≡ true
widths_fit [] [] h = refl
widths_fit [] (n ∷ ns) h = absurd h
widths_fit (w ∷ ws) [] h = absurd h
widths_fit (w ∷ ws) (n ∷ ns) h = true_both (fits_width w n) (all_fit_widths ws ns) (lt-ltb n (2 ^ w) h.0) (widths_fit ws ns h.1)

result_is : (kind : ResultKind) (b : Bits) → b.width ≡ result_width kind → IsOfSort (result_sort kind) (result_value kind b)
result_is (of_width w) b h = (h, subst (λ v. b.value < 2 ^ v) h b.fits)
result_is of_truth b h = tt

match_width : (w : ℕ) (test : FunRow → Bool) (row : FunRow) (b : Bool) (other : Bits) → row.result.width ≡ w → other.width ≡ w → (if b then row.result else other).width ≡ w
match_width w test row true other p q = p
match_width w test row false other p q = q

looked_width : (ws : List ℕ) (w : ℕ) (ns : List ℕ) (rows : List FunRow) (default : Bits) → All (FitsRow ws w) rows → default.width ≡ w
    → (first_match (row_matches ns) (λ (row : FunRow). row.result) rows default).width ≡ w
looked_width ws w ns [] default h k = k
looked_width ws w ns (row ∷ rows) default h k =
    let first : FitsRow ws w row = h 0 row (omega arith) in
    match_width w (row_matches ns) row (row_matches ns row) (first_match (row_matches ns) (λ (r : FunRow). r.result) rows default) first.result_is
    (looked_width ws w ns rows default (λ i d l. h (suc i) d (omega (arith, l))) k)

place_value : (g : FunctionDecl) (o : Option FunTable) (ns : List ℕ) → FitsPlace g o → g.body ≡ None → FieldsFit (widths_of g.params) ns → HasValue (result_sort g.result) (table_value g.result o ns)
place_value g None ns h none fit = absurd (cc)
place_value g (Some t) ns h none fit =
    let widths = h.1.widths_are in
    let fits : all_fit_widths t.widths ns ≡ true = ap (λ ws. all_fit_widths ws ns) widths ∙ widths_fit (widths_of g.params) ns fit in
    subst (λ b. HasValue (result_sort g.result) (if b then Some (result_value g.result (looked t ns)) else None)) (sym fits)
    (result_is g.result (looked t ns) (looked_width t.widths (result_width g.result) ns t.rows t.default h.1.rows_fit h.1.default_is))

abbrev by_place : List (Option FunTable) → Given
by_place tables g before f ns = table_value g.result (table_at tables (length before)) ns

tables_apply : (tables : List (Option FunTable)) → Applies [] (by_place tables) (apply_by tables)
tables_apply tables = record { step = λ g before f ns. refl }

tables_fit : (d : Design) (tables : List (Option FunTable)) → FitsDesign d tables → GivenFits d (by_place tables)
tables_fit d tables h before g rest all none ns fit =
    let at = zip_at FitsPlace before g rest tables (subst (λ fs. AllZip FitsPlace fs tables) (sym all) h.places) in
    let place : table_at tables (length (reverse before)) ≡ at.0 = ap (table_at tables) (length-reverse before) ∙ ap (option_and_then (λ (t : Option FunTable). t)) at.1 in
    subst (λ o. HasValue (result_sort g.result) (table_value g.result o ns)) (sym place) (place_value g at.0 ns at.2 none fit)

-- of the first functions, so many
pub by_tables_to : (d : Design) (tables : List (Option FunTable)) → HasTables d tables → (n : ℕ) → HaveValues (take n (functions d)) (apply_by tables (earlier d n))
by_tables_to d tables h n =
    functions_value d [] (by_place tables) (apply_by tables) (tables_apply tables) (names_differ d h.rules) (tables_fit d tables h.fits) [] (take n (functions d)) (drop n (functions d))
    (take-append-drop n (functions d)) (first_typed d [] (functions d) n (typed_bodies d h.rules h.literals)) (λ g none. absurd none)

-- of all functions
pub by_tables : (d : Design) (tables : List (Option FunTable)) → HasTables d tables → HaveValues (functions d) (apply_by tables (earlier d (length (functions d))))
by_tables d tables h =
    let all : take (length (functions d)) (functions d) ≡ functions d = take_all (length (functions d)) (functions d) (omega arith) in
    subst (λ fs. HaveValues fs (apply_by tables (earlier d (length (functions d))))) all (by_tables_to d tables h (length (functions d)))
