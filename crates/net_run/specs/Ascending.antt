-- Lists of choices in ascending order: the first number at which two differ decides, and a list is
-- ahead of those that it begins. If they ascend, each stands once. The clauses of `deliver` cite it
-- through Outcomes.antt.
use Rattle.std.specs.Prelude.{◌≡◌, ◌⊎◌, ℕ, ◌<◌, List, [], ◌∷◌}

abbrev pub Ahead : List ℕ → List ℕ → Type 0
Ahead xs [] = ⊥
Ahead [] (y ∷ ys) = Unit {0}
Ahead (x ∷ xs) (y ∷ ys) = (x < y) ⊎ ((x ≡ y) × Ahead xs ys)

-- one is ahead of all of these
abbrev pub AheadOfAll : List ℕ → List (List ℕ) → Type 0
AheadOfAll xs [] = Unit {0}
AheadOfAll xs (ys ∷ yss) = Ahead xs ys × AheadOfAll xs yss

-- each is ahead of all behind it
abbrev pub Ascending : List (List ℕ) → Type 0
Ascending [] = Unit {0}
Ascending (xs ∷ xss) = AheadOfAll xs xss × Ascending xss
