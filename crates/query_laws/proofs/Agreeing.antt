-- Values by tables are those under the definitions that the tables stand for.
use Rattle.std.proofs.Common.{◌≡◌, ℕ, zero, suc, ◌<◌, ◌^◌, ◌==◌, Bool, true, false, List, [], ◌∷◌, Option, Some, if◌then◌else◌, refl, sym, ap, subst, ◌∙◌, arith}
use Rattle.std.specs.Prelude.{option_and_then, option_map, unwrap_or}
use Rattle.std.specs.List.{AllByRecursion, AllZip}
use Rattle.std.proofs.lemmas.Bool.{and_from, lt-ltb}
use Rattle.std.proofs.lemmas.List.Elements.{recursion_from_All}
use Rattle.cocoon_num.specs.FunTables.{looked, row_matches}
use Rattle.cocoon_num.specs.Rows.{first_match}
use Rattle.cocoon_num.specs.Tree.{FunctionDecl, ResultKind, of_width, of_truth, Design}
use Rattle.cocoon_num.specs.Values.{FitsWidth, number, apply_unary, apply_slice, fits_width, flip}
use Rattle.cocoon_num.specs.declared.bits.Bits.{Bits}
use Rattle.cocoon_num.specs.declared.fun_table.FunRow.{FunRow}
use Rattle.cocoon_num.specs.declared.fun_table.FunTable.{FunTable}
use Rattle.cocoon_types.specs.Tables.{Defs, look_up}
use Rattle.bv_terms.specs.Environments.{RowFits, TableFits}
use Rattle.bv_terms.specs.TermTrees.{Term, Args, constant, input, apply, not_, binary, slice, pick, no_args, arg, width, arg_widths, IsTerm, AreArgs}
use Rattle.bv_terms.specs.TermValues.{Functions, Inputs, arg_numbers, number_in, operated, term_number, term_value}
use Rattle.bv_terms.proofs.Subterms.{Each, EachArg, in-walk}
use Rattle.runtime_defs.specs.Printable.{FitsDesign, all_fit_widths}
use Rattle.runtime_defs.specs.EntryPlaces.{result_value}
use Rattle.obligation_laws.specs.Shown.{functions_by}
use Rattle.obligation_laws.specs.TermOf.{result_width}
use Rattle.runtime_defs.specs.Stands.{Stands}
use Rattle.bv_terms.specs.ByTables.{by_tables}
use Rattle.bv_terms.specs.WithRows.{Tables, table_of, with_rows}
use Rattle.bv_terms.proofs.Values.{rows-keep}
use Rattle.flat_laws.proofs.FittingValues.{values-fit}
use Rattle.query_laws.specs.Over.{AreOver, IsOver, IsRuntimeAt, fit_input}
use Rattle.query_laws.proofs.Places.{fits-in, has-table, tables-fit}

-- ---- what is looked up

either-wide : (b : Bool) (x y : Bits) (w : ℕ) → x.width ≡ w → y.width ≡ w → (if b then x else y).width ≡ w
either-wide true x y w h k = h
either-wide false x y w h k = k

first-wide : (xs : List ℕ) (n w : ℕ) (rows : List FunRow) (otherwise : Bits) → AllByRecursion (RowFits n w) rows → otherwise.width ≡ w
    → (first_match (row_matches xs) (λ (row : FunRow). row.result) rows otherwise).width ≡ w
first-wide xs n w [] otherwise h e = e
first-wide xs n w (row ∷ rows) otherwise h e = either-wide (row_matches xs row) row.result _ w h.0.1 (first-wide xs n w rows otherwise h.1 e)

looked-wide : (t : FunTable) (ws : List ℕ) (w : ℕ) → TableFits t ws w → (xs : List ℕ) → (looked t xs).width ≡ w
looked-wide t ws w h xs = first-wide xs _ w t.rows t.default (recursion_from_All _ t.rows h.rows) h.otherwise

looked-fits : (t : FunTable) (ws : List ℕ) (w : ℕ) → TableFits t ws w → (xs : List ℕ) → FitsWidth w (looked t xs).value
looked-fits t ws w h xs = subst (λ v. (looked t xs).value < 2 ^ v) (looked-wide t ws w h xs) (looked t xs).fits

all-fit : (ws ns : List ℕ) → AllZip FitsWidth ws ns → all_fit_widths ws ns ≡ true
all-fit [] [] h = refl
all-fit [] (n ∷ ns) h = absurd h
all-fit (w ∷ ws) [] h = absurd h
all-fit (w ∷ ws) (n ∷ ns) h = and_from (fits_width w n) (all_fit_widths ws ns) (lt-ltb n (2 ^ w) h.0) (all-fit ws ns h.1)

bit-number : (n : ℕ) → n < 2 → (if n == 1 then 1 else 0) ≡ n
bit-number zero h = refl
bit-number (suc zero) h = refl
bit-number (suc (suc n)) h = absurd (omega arith)

result-number : (k : ResultKind) (b : Bits) → b.width ≡ result_width k → number_in (term_number (Some (result_value k b))) ≡ b.value
result-number (of_width w) b e = refl
result-number of_truth b e = bit-number b.value (subst (λ w. b.value < 2 ^ w) e b.fits)

module _ (d : Design) (tables : Tables) (z : FitsDesign d tables) (others : Functions) where
  abbrev F : Functions
  F = by_tables tables others

  by-table : (f : ℕ) (t : FunTable) → table_of tables f ≡ Some t → (xs : List ℕ) → F f xs ≡ (looked t xs).value
  by-table f t e xs = ap (λ (o : Option FunTable). unwrap_or (option_map (λ (t : FunTable). (looked t xs).value) o) (others f xs)) e

  -- the function gives numbers of its width
  fits-at : (f : ℕ) (ws : List ℕ) (w : ℕ) → IsRuntimeAt d f ws w → (xs : List ℕ) → FitsWidth w (F f xs)
  fits-at f ws w at xs =
      let has = has-table d tables z f ws w at in
      subst (FitsWidth w) (sym (by-table f has.table has.is_there xs)) (looked-fits has.table ws w has.fits.0 xs)

  module _ (defs : Defs) (s : Stands d tables defs) where
    abbrev G : Functions
    G = functions_by d defs

    same-at : (f : ℕ) (ws : List ℕ) (w : ℕ) → IsRuntimeAt d f ws w → (xs : List ℕ) → AllZip FitsWidth ws xs → F f xs ≡ G f xs
    same-at f ws w at xs fit =
        let has = has-table d tables z f ws w at in
        let of = s f at.function at.there at.runtime in
        let one : has.table ≡ of.table = some-same (sym has.is_there ∙ of.is_there) in
        let widths : all_fit_widths of.table.widths xs ≡ true = subst (λ us. all_fit_widths us xs ≡ true) (sym has.fits.0.args ∙ ap (λ (t : FunTable). t.widths) one) (all-fit ws xs fit) in
        let width : (looked of.table xs).width ≡ result_width at.function.result = subst (λ (t : FunTable). (looked t xs).width ≡ w) one (looked-wide has.table ws w has.fits.0 xs) ∙ at.result_is in
        by-table f of.table of.is_there xs
        ∙ sym (result-number at.function.result (looked of.table xs) width)
        ∙ ap (λ o. number_in (term_number o)) (sym (of.gives xs widths))
        ∙ ap (λ (o : Option FunctionDecl). number_in (term_number (option_and_then (λ (g : FunctionDecl). look_up defs g.name.text xs) o))) (sym at.there)
      where
        some-same : {a b : FunTable} → Some a ≡ Some b → a ≡ b
        some-same e = cc

    module _ (ins : Inputs) where
      -- what a term applies and its inputs, in each term that it is made of
      abbrev Fits : Term → Type 0
      Fits (input i w) = FitsWidth w (ins i)
      Fits (apply f args w) = IsRuntimeAt d f (arg_widths args) w
      Fits (constant w n) = Unit {0}
      Fits (not_ a) = Unit {0}
      Fits (binary op a b) = Unit {0}
      Fits (slice a high low) = Unit {0}
      Fits (pick c a b) = Unit {0}

      mutual
        each-fits : (t : Term) → IsOver d (fit_input ins) t → Each Fits t
        each-fits (constant w n) h = tt
        each-fits (input i w) h = fits-in w (ins i) h
        each-fits (apply f args w) h = (args-fits args h.0, h.1)
        each-fits (not_ a) h = (each-fits a h, tt)
        each-fits (binary op a b) h = (each-fits a h.0, each-fits b h.1, tt)
        each-fits (slice a high low) h = (each-fits a h, tt)
        each-fits (pick c a b) h = (each-fits c h.0, each-fits a h.1, each-fits b h.2, tt)

        args-fits : (ts : Args) → AreOver d (fit_input ins) ts → EachArg Fits ts
        args-fits no_args h = tt
        args-fits (arg t ts) h = (each-fits t h.0, args-fits ts h.1)

      value-fits : (t : Term) → IsTerm t → IsOver d (fit_input ins) t → (n : ℕ) × (term_value F ins t ≡ number (width t) n) × FitsWidth (width t) n
      value-fits t i h =
          values-fit t i F ins (λ f w args m xs fit. fits-at f (arg_widths args) w (in-walk Fits t (apply f args w) (each-fits t h) m) xs)
          (λ k w m. in-walk Fits t (input k w) (each-fits t h) m)

      numbers-fit : (ts : Args) → AreArgs ts → AreOver d (fit_input ins) ts → AllZip FitsWidth (arg_widths ts) (arg_numbers F ins ts)
      numbers-fit no_args i h = tt
      numbers-fit (arg t ts) i h =
          let v = value-fits t i.0 h.0 in
          (subst (FitsWidth (width t)) (sym (ap number_in v.1)) v.2, numbers-fit ts i.2 h.1)

      mutual
        same-value : (t : Term) → IsTerm t → IsOver d (fit_input ins) t → term_value F ins t ≡ term_value G ins t
        same-value (constant w n) i h = refl
        same-value (input k w) i h = refl
        same-value (apply f args w) i h =
            ap (number w) (same-at f (arg_widths args) w h.1 (arg_numbers F ins args) (numbers-fit args i.0 h.0)
            ∙ ap (G f) (same-numbers args i.0 h.0))
        same-value (not_ a) i h = ap (λ v. term_number (apply_unary flip v)) (same-value a i h)
        same-value (binary op a b) i h =
            ap (λ v. operated op v (term_value F ins b)) (same-value a i.0 h.0) ∙ ap (operated op (term_value G ins a)) (same-value b i.1 h.1)
        same-value (slice a high low) i h = ap (λ v. term_number (apply_slice v high low)) (same-value a i.0 h)
        same-value (pick c a b) i h =
            let x = same-value c i.0 h.0 in let y = same-value a i.1 h.1 in let w = same-value b i.2 h.2 in rw (x, y, w) refl

        same-numbers : (ts : Args) → AreArgs ts → AreOver d (fit_input ins) ts → arg_numbers F ins ts ≡ arg_numbers G ins ts
        same-numbers no_args i h = refl
        same-numbers (arg t ts) i h = let e = ap number_in (same-value t i.0 h.0) in let r = same-numbers ts i.2 h.1 in cc

      pub rows-agree : (t : Term) → IsTerm t → IsOver d (fit_input ins) t → term_value others ins (with_rows tables t) ≡ term_value G ins t
      rows-agree t i h = rows-keep tables others ins t i (tables-fit d tables z (fit_input ins) t h) ∙ same-value t i h
