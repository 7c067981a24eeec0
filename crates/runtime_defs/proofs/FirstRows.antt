-- A row that repeats the values of an earlier one is never looked up.
use Rattle.std.proofs.Common.{◌≡◌, ℕ, ◌+◌, ◌≤◌, true, false, List, [], ◌∷◌, ◌++◌, fold, length, sym, ap, subst, ◌∙◌, arith, inl, inr}
use Rattle.std.specs.List.{AllByRecursion}
use Rattle.std.proofs.lemmas.Bool.{cases_Bool, cond-true, cond-false, false≢true, or_cases}
use Rattle.std.proofs.lemmas.List.{append_assoc, append-nil, length-append}
use Rattle.cocoon_num.specs.FunTables.{row_matches}
use Rattle.cocoon_num.specs.Names.{same_name}
use Rattle.cocoon_num.specs.Rows.{first_match, values_match}
use Rattle.cocoon_num.specs.declared.bits.Bits.{Bits}
use Rattle.cocoon_num.specs.declared.fun_table.FunRow.{FunRow}
use Rattle.numbering.proofs.NameFacts.{same-true}
use Rattle.runtime_defs.specs.FirstRows.{first_rows, has_values, with_row}

pub all-append : {X : Type 0} (P : X → Type 0) (xs ys : List X) → AllByRecursion P xs → AllByRecursion P ys → AllByRecursion P (xs ++ ys)
all-append P [] ys h k = k
all-append P (x ∷ xs) ys h k = (h.0, all-append P xs ys h.1 k)

-- what holds of all rows holds where one more is taken
with-all : (P : FunRow → Type 0) (acc : List FunRow) (r : FunRow) → AllByRecursion P acc → P r → AllByRecursion P (with_row acc r)
with-all P acc r h k = elim (cases_Bool (has_values acc r.values)) [
  | inl e ↦ subst (AllByRecursion P) (sym (cond-true (has_values acc r.values) acc (acc ++ r ∷ []) e)) h
  | inr e ↦ subst (AllByRecursion P) (sym (cond-false (has_values acc r.values) acc (acc ++ r ∷ []) e)) (all-append P acc (r ∷ []) h (k, tt))
]

module _ (ms : List ℕ) (xs : List ℕ) (d : Bits) where
  abbrev Masked : FunRow → Type 0
  Masked row = row.masks ≡ ms

  abbrev found : List FunRow → Bits
  found rows = first_match (row_matches xs) (λ (row : FunRow). row.result) rows d

  found-here : (row : FunRow) (rows : List FunRow) → row_matches xs row ≡ true → found (row ∷ rows) ≡ row.result
  found-here row rows m = cond-true (row_matches xs row) row.result (found rows) m

  found-later : (row : FunRow) (rows : List FunRow) → row_matches xs row ≡ false → found (row ∷ rows) ≡ found rows
  found-later row rows m = cond-false (row_matches xs row) row.result (found rows) m

  -- a row that does not match is skipped
  skipped : (acc : List FunRow) (r : FunRow) (rs : List FunRow) → row_matches xs r ≡ false → found (acc ++ r ∷ rs) ≡ found (acc ++ rs)
  skipped [] r rs m = found-later r rs m
  skipped (a ∷ acc) r rs m = elim (cases_Bool (row_matches xs a)) [
    | inl e ↦ found-here a (acc ++ r ∷ rs) e ∙ sym (found-here a (acc ++ rs) e)
    | inr e ↦ found-later a (acc ++ r ∷ rs) e ∙ skipped acc r rs m ∙ sym (found-later a (acc ++ rs) e)
  ]

  same-matches : (a r : FunRow) → Masked a → Masked r → a.values ≡ r.values → row_matches xs a ≡ row_matches xs r
  same-matches a r h k e = ap (λ vs. values_match vs a.masks xs) e ∙ ap (λ us. values_match r.values us xs) (h ∙ sym k)

  -- and so is one whose values stood before
  repeated : (acc : List FunRow) (r : FunRow) (rs : List FunRow) → AllByRecursion Masked acc → Masked r → has_values acc r.values ≡ true → found (acc ++ r ∷ rs) ≡ found (acc ++ rs)
  repeated [] r rs h k e = absurd (false≢true e)
  repeated (a ∷ acc) r rs h k e = elim (cases_Bool (row_matches xs a)) [
    | inl m ↦ found-here a (acc ++ r ∷ rs) m ∙ sym (found-here a (acc ++ rs) m)
    | inr m ↦
        let later : found (acc ++ r ∷ rs) ≡ found (acc ++ rs) = elim (or_cases (same_name a.values r.values) (has_values acc r.values) e) [
          | inl s ↦ skipped acc r rs (sym (same-matches a r h.0 k (same-true a.values r.values s)) ∙ m)
          | inr l ↦ repeated acc r rs h.1 k l
        ] in
        found-later a (acc ++ r ∷ rs) m ∙ later ∙ sym (found-later a (acc ++ rs) m)
  ]

  taken : (acc : List FunRow) (r : FunRow) (rs : List FunRow) → AllByRecursion Masked acc → Masked r → found (with_row acc r ++ rs) ≡ found (acc ++ r ∷ rs)
  taken acc r rs h k = elim (cases_Bool (has_values acc r.values)) [
    | inl e ↦ ap (λ (a : List FunRow). found (a ++ rs)) (cond-true (has_values acc r.values) acc (acc ++ r ∷ []) e) ∙ sym (repeated acc r rs h k e)
    | inr e ↦
        ap (λ (a : List FunRow). found (a ++ rs)) (cond-false (has_values acc r.values) acc (acc ++ r ∷ []) e)
        ∙ ap found (append_assoc acc (r ∷ []) rs)
  ]

  found-first : (acc rows : List FunRow) → AllByRecursion Masked acc → AllByRecursion Masked rows → found (fold with_row acc rows) ≡ found (acc ++ rows)
  found-first acc [] h k = ap found (sym (append-nil acc))
  found-first acc (r ∷ rs) h k = found-first (with_row acc r) rs (with-all Masked acc r h k.0) k.1 ∙ taken acc r rs h k.0

  pub first-found : (rows : List FunRow) → AllByRecursion Masked rows → found (first_rows rows) ≡ found rows
  first-found rows h = found-first [] rows tt h

-- ---- what is taken

pub first-all : (P : FunRow → Type 0) (acc rows : List FunRow) → AllByRecursion P acc → AllByRecursion P rows → AllByRecursion P (fold with_row acc rows)
first-all P acc [] h k = h
first-all P acc (r ∷ rs) h k = first-all P (with_row acc r) rs (with-all P acc r h k.0) k.1

one-longer : (acc : List FunRow) (r : FunRow) → length (with_row acc r) ≤ length acc + 1
one-longer acc r = elim (cases_Bool (has_values acc r.values)) [
  | inl e ↦ let l = ap length (cond-true (has_values acc r.values) acc (acc ++ r ∷ []) e) in omega (arith, l)
  | inr e ↦ let l = ap length (cond-false (has_values acc r.values) acc (acc ++ r ∷ []) e) in let m = length-append acc (r ∷ []) in omega (arith, l, m)
]

taken-few : (acc rows : List FunRow) → length (fold with_row acc rows) ≤ length acc + length rows
taken-few acc [] = omega arith
taken-few acc (r ∷ rs) = let h = taken-few (with_row acc r) rs in let k = one-longer acc r in omega (arith, h, k)

pub first-few : (rows : List FunRow) → length (first_rows rows) ≤ length rows
first-few rows = let h = taken-few [] rows in omega (arith, h)
