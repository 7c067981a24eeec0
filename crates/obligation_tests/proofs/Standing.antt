-- Rows and tables that are for arguments of given widths.
use Rattle.std.proofs.Common.{◌≡◌, ℕ, ◌*◌, ◌%◌, ◌<◌, ◌≤◌, ◌^◌, ◌&&◌, Bool, true, false, List, [], ◌∷◌, length, refl, ap, ◌∙◌, arith}
use Rattle.std.specs.List.{All, AllByRecursion, AllZip}
use Rattle.std.proofs.Math.Nat.{mod-eq_of_lt, pow-le-pow_right}
use Rattle.std.proofs.Math.Pow.{pow-lt}
use Rattle.std.proofs.lemmas.Bool.{ltb-true}
use Rattle.std.proofs.lemmas.Bool.Decides.{nat_tests}
use Rattle.std.proofs.lemmas.List.Elements.{All-weaker, recursion_from_All}
use Rattle.cocoon_num.specs.Values.{FitsWidth, fits_width}
use Rattle.cocoon_num.specs.declared.fun_table.FunRow.{FunRow}
use Rattle.bv_terms.specs.Environments.{RowFits}
use Rattle.runtime_defs.specs.Places.{all_fit_widths}
use Rattle.bv_terms.specs.Fitting.{MasksFit}
use Rattle.obligation_tests.specs.Plain.{RowStands}

-- one, shifted by a width
pub shifted_one : (w : ℕ) → w < 64 → 1 * 2 ^ w % 2 ^ 64 ≡ 2 ^ w
shifted_one w l =
    let e : 1 * 2 ^ w ≡ 2 ^ w = omega arith in
    ap (λ n. n % 2 ^ 64) e ∙ mod-eq_of_lt (pow-lt {i = w} {j = 64} l)

-- any number of 64 bits fits a width that is no smaller
pub wide_fits : (w n : ℕ) → 64 ≤ w → n < 2 ^ 64 → fits_width w n ≡ true
wide_fits w n l h =
    let most : 2 ^ 64 ≤ 2 ^ w = pow-le-pow_right (omega arith) l in
    grind (arith, nat_tests)

pub both : (a b : Bool) → (a && b) ≡ true → (a ≡ true) × (b ≡ true)
both true b e = (refl, e)
both false b e = absurd (cc)

pub masks-fit : (ws ms : List ℕ) → all_fit_widths ws ms ≡ true → AllZip FitsWidth ws ms
masks-fit [] [] e = tt
masks-fit [] (m ∷ ms) e = absurd (cc)
masks-fit (w ∷ ws) [] e = absurd (cc)
masks-fit (w ∷ ws) (m ∷ ms) e =
    let parts = both (fits_width w m) (all_fit_widths ws ms) e in
    (ltb-true m (2 ^ w) parts.0, masks-fit ws ms parts.1)

pub rows-fit : (ws : List ℕ) (w : ℕ) (rows : List FunRow) → All (RowStands ws w) rows → All (RowFits (length ws) w) rows
rows-fit ws w rows h = All-weaker (RowStands ws w) (RowFits (length ws) w) (λ row s. s.0) rows h

pub all-masked : (ws : List ℕ) (w : ℕ) (rows : List FunRow) → All (RowStands ws w) rows → AllByRecursion (MasksFit ws) rows
all-masked ws w rows h = recursion_from_All (MasksFit ws) rows (All-weaker (RowStands ws w) (MasksFit ws) (λ row s. s.1) rows h)
