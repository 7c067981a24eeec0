-- Tests over lists, and token indices of several lists.
use Rattle.std.proofs.Common.{◌≡◌, ℕ, ◌==◌, ◌&&◌, ◌||◌, Bool, true, false, List, [], ◌∷◌, ◌++◌, map, refl, sym, ap, ◌∙◌}
use Rattle.std.specs.Prelude.{flat_map}
use Rattle.std.specs.List.{list_any}
use Rattle.cocoon_num.specs.Lists.{has_number}
use Rattle.cocoon_types.specs.Rules.{Rule}
use Rattle.cocoon_types.specs.FirstFault.{Fault, rank}
use Rattle.cocoon_types.specs.Among.{among}

-- ---- truth values

pub or_assoc : (a b c : Bool) → (a || (b || c)) ≡ ((a || b) || c)
or_assoc true b c = refl
or_assoc false b c = refl

pub or_false : (a : Bool) → (a || false) ≡ a
or_false true = refl
or_false false = refl

pub and_false : (a : Bool) → (a && false) ≡ false
and_false true = refl
and_false false = refl

pub or_turn : (a b : Bool) → (a || b) ≡ (b || a)
or_turn true true = refl
or_turn true false = refl
or_turn false true = refl
or_turn false false = refl

or_between : (a b c d : Bool) → ((a || b) || (c || d)) ≡ ((a || c) || (b || d))
or_between true b c d = refl
or_between false true true d = refl
or_between false true false d = refl
or_between false false true d = refl
or_between false false false d = refl

-- ---- tests over lists

module _ {A : Type 0} where
  pub any-or : (p q : A → Bool) (xs : List A) → list_any (λ x. p x || q x) xs ≡ (list_any p xs || list_any q xs)
  any-or p q [] = refl
  any-or p q (x ∷ xs) = ap (λ b. (p x || q x) || b) (any-or p q xs) ∙ or_between (p x) (q x) (list_any p xs) (list_any q xs)

  pub any-same : (p q : A → Bool) → ((x : A) → p x ≡ q x) → (xs : List A) → list_any p xs ≡ list_any q xs
  any-same p q h [] = refl
  any-same p q h (x ∷ xs) = λ i. h x i || any-same p q h xs i

  pub any-none : (p : A → Bool) → ((x : A) → p x ≡ false) → (xs : List A) → list_any p xs ≡ false
  any-none p h [] = refl
  any-none p h (x ∷ xs) = λ i. h x i || any-none p h xs i

  pub any-append : (p : A → Bool) (xs ys : List A) → list_any p (xs ++ ys) ≡ (list_any p xs || list_any p ys)
  any-append p [] ys = refl
  any-append p (x ∷ xs) ys = ap (λ b. p x || b) (any-append p xs ys) ∙ or_assoc (p x) (list_any p xs) (list_any p ys)

  pub any-map : {B : Type 0} (p : A → Bool) (g : B → A) (xs : List B) → list_any p (map g xs) ≡ list_any (λ x. p (g x)) xs
  any-map p g [] = refl
  any-map p g (x ∷ xs) = ap (λ b. p (g x) || b) (any-map p g xs)

-- ---- token indices

pub has-append : (n : ℕ) (xs ys : List ℕ) → has_number n (xs ++ ys) ≡ (has_number n xs || has_number n ys)
has-append n xs ys = any-append (λ m. n == m) xs ys

pub among-none : (rule : Rule) (f : Fault) → among rule [] f ≡ false
among-none rule f = and_false (rank f.rule == rank rule)

pub among-append : (rule : Rule) (xs ys : List ℕ) (f : Fault) → among rule (xs ++ ys) f ≡ (among rule xs f || among rule ys f)
among-append rule xs ys f = ap (λ b. (rank f.rule == rank rule) && b) (has-append f.at xs ys) ∙ by (rank f.rule == rank rule) (has_number f.at xs) (has_number f.at ys)
  where
    by : (a b c : Bool) → (a && (b || c)) ≡ ((a && b) || (a && c))
    by true b c = refl
    by false b c = refl

pub any-among : {A : Type 0} (rule : Rule) (g : A → List ℕ) (xs : List A) (f : Fault) → list_any (λ x. among rule (g x) f) xs ≡ among rule (flat_map g xs) f
any-among rule g [] f = sym (among-none rule f)
any-among rule g (x ∷ xs) f = ap (λ b. among rule (g x) f || b) (any-among rule g xs f) ∙ sym (among-append rule (g x) (flat_map g xs) f)

-- ---- what a rule gives of a list

pub flat-same : {A B : Type 0} (g h : A → List B) → ((x : A) → g x ≡ h x) → (xs : List A) → flat_map g xs ≡ flat_map h xs
flat-same g h e [] = refl
flat-same g h e (x ∷ xs) = λ i. e x i ++ flat-same g h e xs i

pub flat-map : {A B C : Type 0} (g : B → List C) (h : A → B) (xs : List A) → flat_map g (map h xs) ≡ flat_map (λ x. g (h x)) xs
flat-map g h [] = refl
flat-map g h (x ∷ xs) = ap (λ l. g (h x) ++ l) (flat-map g h xs)

pub flat-none : {A : Type 0} (xs : List A) → flat_map {A = ℕ} (λ (x : A). []) xs ≡ []
flat-none [] = refl
flat-none (x ∷ xs) = flat-none xs
