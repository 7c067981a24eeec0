-- Names that compare alike.
use Rattle.std.specs.Prelude.{◌≡◌, ℕ, ◌==◌, true, false, List, [], ◌∷◌, refl}
use Rattle.std.proofs.Common.{◌∙◌, ap, ap₂}
use Rattle.std.proofs.lemmas.Bool.{and_from, and_parts, eq-eqb, eqb-true, both_ways, false_from_ne_true}
use Rattle.cocoon_num.specs.Names.{same_name}

pub same_name-refl : (x : List ℕ) → same_name x x ≡ true
same_name-refl [] = refl
same_name-refl (a ∷ x) = and_from _ _ (eq-eqb a a refl) (same_name-refl x)

pub same_name-true : (x y : List ℕ) → same_name x y ≡ true → x ≡ y
same_name-true [] [] h = refl
same_name-true [] (b ∷ y) h = absurd cc
same_name-true (a ∷ x) [] h = absurd cc
same_name-true (a ∷ x) (b ∷ y) h =
    let p = and_parts (a == b) (same_name x y) h in
    ap₂ (λ c z. c ∷ z) (eqb-true a b p.0) (same_name-true x y p.1)

pub same_name-other : (x y : List ℕ) → same_name x y ≡ false → same_name y x ≡ false
same_name-other x y h = false_from_ne_true (same_name y x) (λ e. both_ways (same_name x y) h (ap (same_name x) (same_name-true y x e) ∙ same_name-refl x))
