-- Names as the code tests them.
use Rattle.std.proofs.Common.{◌≡◌, ℕ, List, [], ◌∷◌, ◌==◌, ◌&&◌, refl, ap, nat_eq}
use Rattle.std.specs.Cmp.Lexicographic.{pointwise}
use Rattle.cocoon_num.specs.Names.{same_name}

-- `==` on bytes is that of names
pub same_is : (p s : List ℕ) → pointwise nat_eq p s ≡ same_name p s
same_is [] [] = refl
same_is [] (y ∷ s) = refl
same_is (x ∷ p) [] = refl
same_is (x ∷ p) (y ∷ s) = ap (λ r. (x == y) && r) (same_is p s)
