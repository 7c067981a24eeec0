-- Numbers that are the same, and members of two lists.
use Rattle.std.proofs.Common.{◌≡◌, ◌⊎◌, inl, inr, ℕ, ◌==◌, List, [], ◌∷◌, ◌++◌, Bool, true, false, cond, Option, Some, refl, sym, arith}
use Rattle.std.specs.Prelude.{All}
use Rattle.std.proofs.lemmas.List.Elements.{All-cons, All-head, All-nil, All-tail}
use Rattle.cocoon_num.specs.Names.{same_name, named}
use Rattle.cocoon_num.specs.Tree.{Name}
use Rattle.sound_types.proofs.Members.{In}

pub same_number : (a b : ℕ) → (a == b) ≡ true → a ≡ b
same_number a b h = grind (arith, h)

-- what holds of all that stand in two lists, holds of those in the first
pub all_front : {A : Type 0} (P : A → Type 0) (xs ys : List A) → All P (xs ++ ys) → All P xs
all_front P [] ys h = All-nil P
all_front P (x ∷ xs) ys h = All-cons P x xs (All-head P x (xs ++ ys) h) (all_front P xs ys (All-tail P x (xs ++ ys) h))

in_cond : {A : Type 0} (f : A → Bool) (y x : A) (o : Option A) (b : Bool) → f y ≡ b → cond b (Some y) o ≡ Some x → ((y ≡ x) × (f y ≡ true)) ⊎ (o ≡ Some x)
in_cond f y x o true e h = inl (cc, e)
in_cond f y x o false e h = inr h

-- the first of a name in two lists is the first of its name in one of them
pub named_either : {A : Type 0} (name_of : A → Name) (x : List ℕ) (xs ys : List A) (a : A) → named name_of x (xs ++ ys) ≡ Some a → In a xs ⊎ (named name_of x ys ≡ Some a)
named_either name_of x [] ys a h = inr h
named_either name_of x (y ∷ xs) ys a h =
    elim (in_cond (λ b. same_name x (name_of b).text) y a (named name_of x (xs ++ ys)) (same_name x (name_of y).text) refl h) [
      | inl e ↦ inl (inl (sym e.0))
      | inr k ↦ elim (named_either name_of x xs ys a k) [ inl i ↦ inl (inr i) | inr e ↦ inr e ]
    ]
