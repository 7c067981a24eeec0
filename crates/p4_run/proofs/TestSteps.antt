-- Tests on numbers, one more at a time.
use Rattle.std.proofs.Common.{◌≡◌, ℕ, ◌==◌, ◌||◌, ◌++◌, Bool, true, false, List, [], ◌∷◌, refl, ◌∙◌, ap, arith}
use Rattle.std.proofs.lemmas.Bool.Decides.{nat_tests}
use Rattle.cocoon_num.specs.Lists.{has_number}

pub is_symmetric : (m n : ℕ) → (m == n) ≡ (n == m)
is_symmetric m n = grind (arith, nat_tests)

or_none : (a : Bool) → (a || false) ≡ a
or_none true = refl
or_none false = refl

or_more : (a b c : Bool) → (a || (b || c)) ≡ ((a || b) || c)
or_more true b c = refl
or_more false b c = refl

pub has_one_more : (ns : List ℕ) (n m : ℕ) → has_number m (ns ++ n ∷ []) ≡ (has_number m ns || (m == n))
has_one_more [] n m = or_none (m == n)
has_one_more (k ∷ ns) n m = ap (λ t. (m == k) || t) (has_one_more ns n m) ∙ or_more (m == k) (has_number m ns) (m == n)
