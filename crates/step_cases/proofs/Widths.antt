-- Widths as the code tests them.
use Rattle.std.proofs.Common.{◌≡◌, ◌≢◌, ◌*◌, ◌%◌, ◌^◌, ◌<◌, ◌≤◌, ◌&&◌, ℕ, suc, Bool, true, false, List, [], ◌∷◌, length, refl, sym, ap, ◌∙◌, arith}
use Rattle.std.proofs.Math.Nat.{mod-eq_of_lt, pow-le-pow_right}
use Rattle.std.proofs.Math.Pow.{pow-lt}
use Rattle.std.proofs.lemmas.Bool.Decides.{nat_tests}
use Rattle.cocoon_num.specs.Values.{fits_width}
use Rattle.step_cases.specs.Cases.{all_fit_widths}

-- one, shifted by a width
pub shifted_one : (w : ℕ) → w < 64 → 1 * 2 ^ w % 2 ^ 64 ≡ 2 ^ w
shifted_one w l =
    let e : 1 * 2 ^ w ≡ 2 ^ w = omega arith in
    ap (λ n. n % 2 ^ 64) e ∙ mod-eq_of_lt (pow-lt {i = w} {j = 64} l)

-- any number of 64 bits fits a width that is no smaller
pub wide_fits : (w n : ℕ) → 64 ≤ w → n < 2 ^ 64 → fits_width w n ≡ true
wide_fits w n l h =
    let most : 2 ^ 64 ≤ 2 ^ w = pow-le-pow_right (omega arith) l in
    grind (arith, nat_tests)

-- as many numbers as widths fit, or none do
pub uneven : (ws ns : List ℕ) → length ws ≢ length ns → false ≡ all_fit_widths ws ns
uneven [] [] h = absurd (h refl)
uneven [] (n ∷ ns) h = refl
uneven (w ∷ ws) [] h = refl
uneven (w ∷ ws) (n ∷ ns) h =
    sym (never (fits_width w n)) ∙ ap (λ b. fits_width w n && b) (uneven ws ns (λ e. h (ap suc e)))
  where
    never : (b : Bool) → (b && false) ≡ false
    never true = refl
    never false = refl
