-- Numbers and tests over lists that are put together.
use Rattle.std.proofs.Common.{◌≡◌, ℕ, ◌==◌, ◌&&◌, ◌||◌, Bool, true, false, List, [], ◌∷◌, ◌++◌, refl, ap, ◌∙◌}
use Rattle.std.specs.List.{list_any, flat_map}
use Rattle.cocoon_num.specs.Lists.{has_number}
use Rattle.cocoon_types.specs.Rules.{Rule}
use Rattle.cocoon_types.specs.FirstFault.{Fault, rank}
use Rattle.cocoon_types.specs.Among.{among}

-- ---- truth values

pub or_assoc : (a b c : Bool) → (a || (b || c)) ≡ ((a || b) || c)
or_assoc true b c = refl
or_assoc false b c = refl

pub or_false : (a : Bool) → (a || false) ≡ a
or_false true = refl
or_false false = refl

and_false : (a : Bool) → (a && false) ≡ false
and_false true = refl
and_false false = refl

and_or : (a b c : Bool) → (a && (b || c)) ≡ ((a && b) || (a && c))
and_or true b c = refl
and_or false b c = refl

swap_middle : (a b c d : Bool) → ((a || b) || (c || d)) ≡ ((a || c) || (b || d))
swap_middle true b c d = refl
swap_middle false true true d = refl
swap_middle false true false d = refl
swap_middle false false true d = refl
swap_middle false false false d = refl

-- ---- tests

module _ {A : Type 0} (p : A → Bool) where
  pub any-append : (xs ys : List A) → list_any p (xs ++ ys) ≡ (list_any p xs || list_any p ys)
  any-append [] ys = refl
  any-append (x ∷ xs) ys = ap (λ b. p x || b) (any-append xs ys) ∙ or_assoc (p x) (list_any p xs) (list_any p ys)

  pub any-flat_map : {B : Type 0} (g : B → List A) (xs : List B) → list_any p (flat_map g xs) ≡ list_any (λ x. list_any p (g x)) xs
  any-flat_map g [] = refl
  any-flat_map g (x ∷ xs) = any-append (g x) (flat_map g xs) ∙ ap (λ b. list_any p (g x) || b) (any-flat_map g xs)

  pub any-or : (q : A → Bool) (xs : List A) → list_any (λ x. p x || q x) xs ≡ (list_any p xs || list_any q xs)
  any-or q [] = refl
  any-or q (x ∷ xs) = ap (λ b. (p x || q x) || b) (any-or q xs) ∙ swap_middle (p x) (q x) (list_any p xs) (list_any q xs)

-- ---- faults of a rule at some token indices

number-append : (n : ℕ) (xs ys : List ℕ) → has_number n (xs ++ ys) ≡ (has_number n xs || has_number n ys)
number-append n xs ys = any-append (λ m. n == m) xs ys

pub among-none : (rule : Rule) (f : Fault) → among rule [] f ≡ false
among-none rule f = and_false (rank f.rule == rank rule)

pub among-append : (rule : Rule) (xs ys : List ℕ) (f : Fault) → among rule (xs ++ ys) f ≡ (among rule xs f || among rule ys f)
among-append rule xs ys f =
    ap (λ b. (rank f.rule == rank rule) && b) (number-append f.at xs ys) ∙ and_or (rank f.rule == rank rule) (has_number f.at xs) (has_number f.at ys)

pub among-flat_map : {A : Type 0} (rule : Rule) (g : A → List ℕ) (xs : List A) (f : Fault) → among rule (flat_map g xs) f ≡ list_any (λ x. among rule (g x) f) xs
among-flat_map rule g [] f = among-none rule f
among-flat_map rule g (x ∷ xs) f = among-append rule (g x) (flat_map g xs) f ∙ ap (λ b. among rule (g x) f || b) (among-flat_map rule g xs f)
