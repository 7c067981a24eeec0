-- Widths as the code tests them, and lists of numbers that fit.
use Rattle.std.proofs.Common.{◌≡◌, ◌≢◌, ◌*◌, ◌%◌, ◌^◌, ◌<◌, ◌≤◌, ◌&&◌, ℕ, suc, Bool, true, false, List, [], ◌∷◌, length, refl, sym, ap, ◌∙◌, arith}
use Rattle.std.proofs.Math.Nat.{mod-eq_of_lt, pow-le-pow_right}
use Rattle.std.proofs.Math.Pow.{pow-lt}
use Rattle.std.proofs.lemmas.Bool.{and_parts, lt-ltb, ltb-true}
use Rattle.std.proofs.lemmas.Bool.Decides.{nat_tests}
use Rattle.cocoon_num.specs.PacketForms.{FieldsFit}
use Rattle.cocoon_num.specs.Values.{fits_width}
use Rattle.runtime_defs.specs.Printable.{all_fit_widths}

-- one, shifted by a width
pub shifted_one : (w : ℕ) → w < 64 → 1 * 2 ^ w % 2 ^ 64 ≡ 2 ^ w
shifted_one w l =
    let e : 1 * 2 ^ w ≡ 2 ^ w = omega arith in
    ap (λ n. n % 2 ^ 64) e ∙ mod-eq_of_lt (pow-lt {i = w} {j = 64} l)

-- any number of 64 bits fits a width that is no smaller
pub wide_fits : (w n : ℕ) → 64 ≤ w → n < 2 ^ 64 → fits_width w n ≡ true
wide_fits w n l h =
    let most : 2 ^ 64 ≤ 2 ^ w = pow-le-pow_right (omega arith) l in
    grind (arith, nat_tests)

-- numbers that are not as many as the widths do not fit
pub uneven : (ws ns : List ℕ) → length ws ≢ length ns → false ≡ all_fit_widths ws ns
uneven [] [] h = absurd (h refl)
uneven [] (n ∷ ns) h = refl
uneven (w ∷ ws) [] h = refl
uneven (w ∷ ws) (n ∷ ns) h = sym (never (fits_width w n)) ∙ ap (λ b. fits_width w n && b) (uneven ws ns (λ e. h (ap suc e)))
  where
    never : (b : Bool) → (b && false) ≡ false
    never true = refl
    never false = refl

pub all_fit : (ws ns : List ℕ) → all_fit_widths ws ns ≡ true → FieldsFit ws ns
all_fit [] [] h = tt
all_fit [] (n ∷ ns) h = absurd (cc)
all_fit (w ∷ ws) [] h = absurd (cc)
all_fit (w ∷ ws) (n ∷ ns) h = let p = and_parts (fits_width w n) (all_fit_widths ws ns) h in (ltb-true n (2 ^ w) p.0, all_fit ws ns p.1)

pub fit_all : (ws ns : List ℕ) → FieldsFit ws ns → all_fit_widths ws ns ≡ true
fit_all [] [] h = refl
fit_all [] (n ∷ ns) h = absurd h
fit_all (w ∷ ws) [] h = absurd h
fit_all (w ∷ ws) (n ∷ ns) h = (λ i. lt-ltb n (2 ^ w) h.0 i && all_fit_widths ws ns) ∙ fit_all ws ns h.1
