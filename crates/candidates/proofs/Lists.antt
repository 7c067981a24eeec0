-- Lists, item by item.
use Rattle.std.proofs.Common.{◌≡◌, ℕ, zero, suc, ◌+◌, ◌<◌, ◌≤◌, ◌^◌, ℤ, Bool, true, List, [], ◌∷◌, ◌++◌, length, map, take, Some, refl, sym, ap, subst, ◌∙◌, arith, inl, inr}
use Rattle.std.specs.Prelude.{slice_get}
use Rattle.std.specs.List.{AllZip}
use Rattle.std.proofs.Math.Pow.{pow_mono}
use Rattle.std.proofs.lemmas.Bool.{false≢true, or_cases}
use Rattle.std.proofs.lemmas.List.{map-append}
use Rattle.cocoon_num.specs.BitsOf.{value_of}
use Rattle.cocoon_num.specs.declared.bits.Bits.{Bits}
use Rattle.bit_blast.specs.Blasting.{InputRow}
use Rattle.bv_terms.specs.TermTrees.{Term}
use Rattle.bv_terms.specs.Walks.{is_among, same_term}
use Rattle.bv_terms.proofs.SameTerms.{same-only}
use Rattle.candidates.specs.Assigned.{row_value}

pub at-there : {A : Type 0} (xs : List A) (i : ℕ) → i < length xs → (x : A) × (slice_get xs i ≡ Some x)
at-there [] i h = absurd (omega (arith, h))
at-there (x ∷ xs) zero h = (x, refl)
at-there (x ∷ xs) (suc i) h = at-there xs i (omega (arith, h))

take-next : {A : Type 0} (xs : List A) (i : ℕ) (x : A) → slice_get xs i ≡ Some x → take (i + 1) xs ≡ take i xs ++ x ∷ []
take-next [] i x h = absurd (cc)
take-next (y ∷ xs) zero x h = let e : y ≡ x = cc in ap (λ z. z ∷ []) e
take-next (y ∷ xs) (suc i) x h =
    ap (λ n. take n (y ∷ xs)) (let e : suc i + 1 ≡ suc (i + 1) = omega arith in e) ∙ ap (λ zs. y ∷ zs) (take-next xs i x h)

-- one value more
pub value-more : (v : ℤ → Bool) (rows : List InputRow) (i : ℕ) → i < length rows → (bits more : List Bits) (b : Bits) → map value_of bits ≡ map (row_value v) (take i rows) → more ≡ bits ++ b ∷ []
    → ((row : InputRow) → slice_get rows i ≡ Some row → value_of b ≡ row_value v row) → map value_of more ≡ map (row_value v) (take (i + 1) rows)
value-more v rows i l bits more b so-far pushed h =
    let at = at-there rows i l in
    ap (map value_of) pushed ∙ map-append value_of bits (b ∷ []) ∙ (λ j. so-far j ++ h at.0 at.1 j ∷ []) ∙ sym (map-append (row_value v) (take i rows) (at.0 ∷ []))
    ∙ ap (map (row_value v)) (sym (take-next rows i at.0 at.1))

-- the value of one row
pub mapped-there : (v : ℤ → Bool) (bits : List Bits) (rows : List InputRow) → map value_of bits ≡ map (row_value v) rows → (i : ℕ) (row : InputRow) → slice_get rows i ≡ Some row
    → (b : Bits) × (slice_get bits i ≡ Some b) × (value_of b ≡ row_value v row)
mapped-there v bits [] e i row h = absurd (cc)
mapped-there v [] (r ∷ rows) e i row h = absurd (cc)
mapped-there v (b ∷ bits) (r ∷ rows) e zero row h =
    let same : r ≡ row = cc in
    let one : value_of b ≡ row_value v r = cc in
    (b, refl, one ∙ ap (row_value v) same)
mapped-there v (b ∷ bits) (r ∷ rows) e (suc i) row h =
    let rest : map value_of bits ≡ map (row_value v) rows = cc in
    mapped-there v bits rows rest i row h

pub narrow : (w n : ℕ) → n < 2 ^ w → w ≤ 64 → n < 2 ^ 64
narrow w n h l = let m : 2 ^ w ≤ 2 ^ 64 = pow_mono {i = w} {j = 64} l in omega (arith, h, m)

-- what stands beside a term
pub zip-there : {A : Type 0} (R : Term → A → Type 0) (ts : List Term) (xs : List A) (t : Term) → AllZip R ts xs → is_among ts t ≡ true → (x : A) × R t x
zip-there R [] [] t z h = absurd (false≢true h)
zip-there R [] (x ∷ xs) t z h = absurd z
zip-there R (u ∷ ts) [] t z h = absurd z
zip-there R (u ∷ ts) (x ∷ xs) t z h = elim (or_cases (same_term u t) (is_among ts t) h) [
  | inl s ↦ (x, subst (λ y. R y x) (same-only u t s) z.0)
  | inr r ↦ zip-there R ts xs t z.1 r
]
