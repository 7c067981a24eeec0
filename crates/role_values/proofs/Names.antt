-- Names and widths as the code tests them.
use Rattle.std.proofs.Common.{◌≡◌, ◌*◌, ◌%◌, ◌^◌, ◌≤◌, ℕ, List, [], ◌∷◌, ◌==◌, ◌&&◌, refl, ap, ◌∙◌, nat_eq, arith}
use Rattle.std.proofs.Math.Nat.{mod-eq_of_lt}
use Rattle.std.proofs.Math.Pow.{pow-lt}
use Rattle.std.specs.Cmp.Lexicographic.{pointwise}
use Rattle.cocoon_num.specs.Names.{same_name}

-- `==` on bytes is that of names
pub same_is : (p s : List ℕ) → pointwise nat_eq p s ≡ same_name p s
same_is [] [] = refl
same_is [] (y ∷ s) = refl
same_is (x ∷ p) [] = refl
same_is (x ∷ p) (y ∷ s) = ap (λ r. (x == y) && r) (same_is p s)

-- one, shifted by a width
pub shifted_one : (w : ℕ) → w ≤ 64 → 1 * 2 ^ w % 2 ^ 128 ≡ 2 ^ w
shifted_one w l =
    let e : 1 * 2 ^ w ≡ 2 ^ w = omega arith in
    ap (λ n. n % 2 ^ 128) e ∙ mod-eq_of_lt (pow-lt {i = w} {j = 128} (omega arith))
