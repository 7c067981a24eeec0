-- Tests on lists of names and of numbers, and the first of a list, for the rules of docs/LANGUAGE.md and of
-- docs/FORMATS.md.
use Rattle.std.specs.Prelude.{ℕ, ◌==◌, ◌&&◌, nat_lt, Bool, true, not, List, [], ◌∷◌, slice_get, Option}
use Rattle.std.specs.List.{list_any}
use Rattle.cocoon_num.specs.Names.{same_name}

abbrev pub each : {A : Type 0} → (A → Bool) → List A → Bool
each f [] = true
each f (x ∷ xs) = f x && each f xs

abbrev pub first_of : {A : Type 0} → List A → Option A
first_of xs = slice_get xs 0

abbrev pub is_one_of : List (List ℕ) → List ℕ → Bool
is_one_of ys x = list_any (λ y. same_name y x) ys

abbrev pub all_distinct : List (List ℕ) → Bool
all_distinct [] = true
all_distinct (x ∷ xs) = not (is_one_of xs x) && all_distinct xs

abbrev pub has_number : ℕ → List ℕ → Bool
has_number n ms = list_any (λ m. n == m) ms

abbrev pub ascend : List ℕ → Bool
ascend [] = true
ascend (m ∷ []) = true
ascend (m ∷ n ∷ ns) = nat_lt m n && ascend (n ∷ ns)

abbrev pub no_repeats : List ℕ → Bool
no_repeats [] = true
no_repeats (n ∷ ns) = not (has_number n ns) && no_repeats ns
