-- What a table of an environment gives.
use Rattle.std.proofs.Common.{◌≡◌, ℕ, ◌<◌, List, [], ◌∷◌, length, Option, Some, slice_get, refl, ap, sym, ◌∙◌, subst, arith, get_or, inl, inr, zero, suc}
use Rattle.std.specs.List.{AllByRecursion}
use Rattle.std.specs.Option.{option_and_then, option_map, unwrap_or}
use Rattle.std.proofs.lemmas.List.Elements.{recursion_from_All}
use Rattle.std.proofs.lemmas.Option.{slice_get_read}
use Rattle.std.proofs.lemmas.Bool.{cases_Bool, cond-true, cond-false}
use Rattle.cocoon_num.specs.Values.{number}
use Rattle.cocoon_num.specs.BitsOf.{value_of}
use Rattle.cocoon_num.specs.FunTables.{looked, row_matches}
use Rattle.cocoon_num.specs.Rows.{first_match}
use Rattle.cocoon_num.specs.declared.bits.Bits.{Bits}
use Rattle.cocoon_num.specs.declared.fun_table.FunRow.{FunRow}
use Rattle.cocoon_num.specs.declared.fun_table.FunTable.{FunTable}
use Rattle.bv_terms.specs.declared.eval.Env.{Env}
use Rattle.bv_terms.specs.Environments.{function_table, functions_of, HasTable, RowFits, TableFits}

match-width : (xs : List ℕ) (n w : ℕ) (rows : List FunRow) (otherwise : Bits) → AllByRecursion (RowFits n w) rows → otherwise.width ≡ w
    → (first_match (row_matches xs) (λ (row : FunRow). row.result) rows otherwise).width ≡ w
match-width xs n w [] otherwise h e = e
match-width xs n w (r ∷ rows) otherwise h e =
    elim (cases_Bool (row_matches xs r)) [
      | inl t ↦ ap (λ (b : Bits). b.width) (cond-true (row_matches xs r) r.result (first_match (row_matches xs) (λ (row : FunRow). row.result) rows otherwise) t) ∙ h.0.1
      | inr t ↦ ap (λ (b : Bits). b.width) (cond-false (row_matches xs r) r.result (first_match (row_matches xs) (λ (row : FunRow). row.result) rows otherwise) t)
          ∙ match-width xs n w rows otherwise h.1 e
    ]

looked-width : (t : FunTable) (widths xs : List ℕ) (w : ℕ) → TableFits t widths w → (looked t xs).width ≡ w
looked-width t widths xs w h = match-width xs (length widths) w t.rows t.default (recursion_from_All (RowFits (length widths) w) t.rows h.rows) h.otherwise

table-within : (tables : List (Option FunTable)) (f : ℕ) (t : FunTable) → option_and_then (λ (o : Option FunTable). o) (slice_get tables f) ≡ Some t → f < length tables
table-within [] f t e = absurd cc
table-within (o ∷ tables) zero t e = omega arith
table-within (o ∷ tables) (suc f) t e = let l = table-within tables f t e in omega arith

pub looked-value : (env : Env) (f : ℕ) (widths xs : List ℕ) (w : ℕ) (t : FunTable) → HasTable env f widths w → slice_get env.tables f ≡ Some (Some t)
    → value_of (looked t xs) ≡ number w (functions_of env f xs)
looked-value env f widths xs w t h e =
    let there : function_table env f ≡ Some t = ap (option_and_then (λ (o : Option FunTable). o)) e in
    let same : h.0 ≡ t = (let p : Some h.0 ≡ Some t = sym h.1 ∙ there in cc) in
    let fits : TableFits t widths w = subst (λ (u : FunTable). TableFits u widths w) same h.2 in
    let value : (looked t xs).value ≡ functions_of env f xs = ap (λ (o : Option FunTable). unwrap_or (option_map (λ (u : FunTable). (looked u xs).value) o) 0) (sym there) in
    let wide : (looked t xs).width ≡ w = looked-width t widths xs w fits in
    cc

-- what is read there
pub table-read : (env : Env) (tables : List (Option FunTable)) (f : ℕ) (t : FunTable) (o : Option FunTable) → tables ≡ env.tables
    → (widths : List ℕ) (w : ℕ) → HasTable env f widths w → o ≡ get_or tables f o → o ≡ Some t → slice_get env.tables f ≡ Some (Some t)
table-read env tables f t o s widths w h e is =
    let e' : o ≡ get_or env.tables f o = e ∙ ap (λ (ts : List (Option FunTable)). get_or ts f o) s in
    slice_get_read env.tables (length env.tables) f o refl (table-within env.tables f h.0 h.1) e' ∙ ap Some is
