-- Inputs that stand for parameters, and numbers for them.
use Rattle.std.proofs.Common.{◌≡◌, ℕ, zero, suc, ◌+◌, ◌*◌, ◌<◌, ◌^◌, ◌==◌, List, [], ◌∷◌, length, Bool, true, false, Option, Some, None, ℤ, if◌then◌else◌, refl, sym, ap, subst, ◌∙◌, arith, inl, inr}
use Rattle.std.specs.Prelude.{slice_get}
use Rattle.std.specs.List.{AllZip}
use Rattle.std.proofs.lemmas.Bool.{cases_Bool}
use Rattle.std.proofs.lemmas.Nat.{pow_pos}
use Rattle.cocoon_num.specs.PacketForms.{FieldsFit}
use Rattle.cocoon_num.specs.Sorts.{bits_sort}
use Rattle.cocoon_num.specs.Tree.{Design}
use Rattle.bit_blast.specs.Readings.{input_bits, number_read}
use Rattle.bit_blast.proofs.BitNumbers.{pair-below}
use Rattle.bv_terms.specs.Inputs.{Mentions}
use Rattle.bv_terms.specs.TermTrees.{Term, input}
use Rattle.bv_terms.specs.TermValues.{Functions, Inputs}
use Rattle.bv_terms.specs.Walks.{is_among, walk}
use Rattle.obligation_laws.specs.Shown.{HasNumber, HasWidth, numbers_of}
use Rattle.query_laws.specs.Over.{AllOver}
use Rattle.discharge.specs.Queries.{inputs_from, inputs_read}

-- ---- which inputs

abbrev pub is_width : Option ℕ → ℕ → Bool
is_width None w = false
is_width (Some v) w = v == w

-- the inputs of these widths, from 0 on
abbrev pub own : List ℕ → (i w : ℕ) → Bool
own ws i w = is_width (slice_get ws i) w

width_there : (o : Option ℕ) (w : ℕ) → is_width o w ≡ true → o ≡ Some w
width_there None w h = absurd (cc)
width_there (Some v) w h = ap Some (let e : v ≡ w = grind (arith, h) in e)

pub own_there : (ws : List ℕ) (i w : ℕ) → own ws i w ≡ true → slice_get ws i ≡ Some w
own_there ws i w h = width_there (slice_get ws i) w h

pub there_own : (ws : List ℕ) (i w : ℕ) → slice_get ws i ≡ Some w → own ws i w ≡ true
there_own ws i w h = ap (λ o. is_width o w) h ∙ (let e : (w == w) ≡ true = grind (arith) in e)

first : (i : ℕ) → i + 0 ≡ i
first i = omega arith

pub from_zero : (k : ℕ) → 0 + k ≡ k
from_zero k = omega arith

later : (i k : ℕ) → i + suc k ≡ suc i + k
later i k = omega arith

pub inputs_over : (d : Design) (p : ℕ → ℕ → Bool) (i : ℕ) (ws : List ℕ) → ((k w : ℕ) → slice_get ws k ≡ Some w → p (i + k) w ≡ true) → AllOver d p (inputs_from i ws)
inputs_over d p i [] h = tt
inputs_over d p i (w ∷ ws) h = (
  subst (λ n. p n w ≡ true) (first i) (h 0 w refl),
  inputs_over d p (suc i) ws (λ k v e. subst (λ n. p n v ≡ true) (later i k) (h (suc k) v e)),
)

pub inputs_wide : (i : ℕ) (ws : List ℕ) → AllZip HasWidth ws (inputs_from i ws)
inputs_wide i [] = tt
inputs_wide i (w ∷ ws) = (refl, inputs_wide (suc i) ws)

-- ---- numbers for them

-- the number at an index, or 0
abbrev pub at_index : List ℕ → Inputs
at_index [] k = 0
at_index (n ∷ ns) zero = n
at_index (n ∷ ns) (suc k) = at_index ns k

pub number_at : (ns : List ℕ) (k n : ℕ) → slice_get ns k ≡ Some n → at_index ns k ≡ n
number_at [] k n h = absurd (cc)
number_at (m ∷ ns) zero n h = let e : m ≡ n = cc in e
number_at (m ∷ ns) (suc k) n h = number_at ns k n h

pub fits_at : (ws ns : List ℕ) → FieldsFit ws ns → (k w : ℕ) → slice_get ws k ≡ Some w → at_index ns k < 2 ^ w
fits_at [] ns h k w e = absurd (cc)
fits_at (v ∷ ws) [] h k w e = absurd h
fits_at (v ∷ ws) (n ∷ ns) h zero w e = let is : v ≡ w = cc in subst (λ x. n < 2 ^ x) is h.0
fits_at (v ∷ ws) (n ∷ ns) h (suc k) w e = fits_at ws ns h.1 k w e

-- the inputs have these numbers
pub have_numbers : (F : Functions) (ins : Inputs) (i : ℕ) (ws ns : List ℕ) → FieldsFit ws ns → ((k n : ℕ) → slice_get ns k ≡ Some n → ins (i + k) ≡ n)
    → AllZip (HasNumber F ins) ws (inputs_from i ws) × (numbers_of F ins (inputs_from i ws) ≡ ns)
have_numbers F ins i [] [] h e = (tt, refl)
have_numbers F ins i [] (n ∷ ns) h e = absurd h
have_numbers F ins i (w ∷ ws) [] h e = absurd h
have_numbers F ins i (w ∷ ws) (n ∷ ns) h e =
    let r = have_numbers F ins (suc i) ws ns h.1 (λ k m is. ap ins (sym (later i k)) ∙ e (suc k) m is) in
    let here : ins i ≡ n = ap ins (sym (first i)) ∙ e 0 n refl in
    ((((refl, subst (λ m. m < 2 ^ w) (sym here) h.0)), r.0), (λ j. here j ∷ r.1 j))

-- ---- numbers of literals

read_below : (v : ℤ → Bool) (bits : List ℤ) → number_read v bits < 2 ^ length bits
read_below v [] = omega arith
read_below v (b ∷ bits) = pair-below (v b) (number_read v bits) (length bits) (read_below v bits)

pub record HaveBits (goal : Term) : Type 0 where
  pub present : (i w : ℕ) → Mentions goal i w → length (input_bits goal i w) ≡ w
  pub absent : (i w : ℕ) → (Mentions goal i w → ⊥) → input_bits goal i w ≡ []

one_fits : (v : ℤ → Bool) (goal : Term) → HaveBits goal → (i w : ℕ) → number_read v (input_bits goal i w) < 2 ^ w
one_fits v goal h i w = elim (cases_Bool (is_among (walk goal []) (input i w))) [
  | inl e ↦ subst (λ n. number_read v (input_bits goal i w) < 2 ^ n) (h.present i w e) (read_below v (input_bits goal i w))
  | inr e ↦ subst (λ bits. number_read v bits < 2 ^ w) (sym (h.absent i w (λ m. absurd (cc)))) (pow_pos w)
]

pub read_fits : (v : ℤ → Bool) (goal : Term) → HaveBits goal → (i : ℕ) (ws : List ℕ) → FieldsFit ws (inputs_read v goal i ws)
read_fits v goal h i [] = tt
read_fits v goal h i (w ∷ ws) = (one_fits v goal h i w, read_fits v goal h (suc i) ws)

read_there : (v : ℤ → Bool) (goal : Term) (i : ℕ) (ws : List ℕ) (k w : ℕ) → slice_get ws k ≡ Some w → slice_get (inputs_read v goal i ws) k ≡ Some (number_read v (input_bits goal (i + k) w))
read_there v goal i [] k w h = absurd (cc)
read_there v goal i (u ∷ ws) zero w h =
    let is : u ≡ w = cc in
    ap Some (ap (λ n. number_read v (input_bits goal n u)) (sym (first i)) ∙ ap (λ x. number_read v (input_bits goal (i + 0) x)) is)
read_there v goal i (u ∷ ws) (suc k) w h =
    read_there v goal (suc i) ws k w h ∙ ap (λ n. Some (number_read v (input_bits goal n w))) (sym (later i k))

pub read_at : (v : ℤ → Bool) (goal : Term) (ws : List ℕ) (i w : ℕ) → slice_get ws i ≡ Some w → at_index (inputs_read v goal 0 ws) i ≡ number_read v (input_bits goal i w)
read_at v goal ws i w h = number_at (inputs_read v goal 0 ws) i (number_read v (input_bits goal i w)) (read_there v goal 0 ws i w h ∙ ap (λ n. Some (number_read v (input_bits goal n w))) (from_zero i))
