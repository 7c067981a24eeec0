-- What stands where in a list of tokens, to tell two lists apart.
use Rattle.std.specs.Prelude.{◌≡◌, ℕ, ◌==◌, Bool, true, false, List, [], ◌∷◌, drop, refl}
use Rattle.std.proofs.Common.{sym, ◌∙◌, ap, ap₂}
use Rattle.std.proofs.lemmas.Bool.{eq-eqb}
use Rattle.cocoon_num.specs.Tokens.{Kind, a_name, plain, literal, mark}
use Rattle.p4_texts.specs.Written.{each_then}

-- the name or number that a list begins with
abbrev pub first_name : List Kind → List ℕ
first_name (a_name x ∷ ks) = x
first_name _ = []

abbrev pub first_mark : List Kind → List ℕ
first_mark (mark m ∷ ks) = m
first_mark _ = []

abbrev pub first_plain : List Kind → ℕ
first_plain (plain n ∷ ks) = n
first_plain _ = 0

abbrev pub first_width : List Kind → ℕ
first_width (literal w n ∷ ks) = w
first_width _ = 0

abbrev pub first_number : List Kind → ℕ
first_number (literal w n ∷ ks) = n
first_number _ = 0

-- the same after so many tokens
abbrev pub name_at : ℕ → List Kind → List ℕ
name_at n ks = first_name (drop n ks)

abbrev pub mark_at : ℕ → List Kind → List ℕ
mark_at n ks = first_mark (drop n ks)

-- no list is another, where a function tells them apart
pub differ : (f : List Kind → ℕ) (ks ls : List Kind) → ks ≡ ls → (f ks == f ls) ≡ false → ⊥
differ f ks ls e h = let no : true ≡ false = sym (eq-eqb (f ls) (f ls) refl) ∙ ap (λ z. f z == f ls) (sym e) ∙ h in cc

-- a phrase is known from its tokens and what follows
abbrev pub Known : {A : Type 0} → (A → List Kind → List Kind) → Type 0
Known {A} one = (x y : A) (ks ls : List Kind) → one x ks ≡ one y ls → (x ≡ y) × (ks ≡ ls)

-- So are phrases up to what a test tells from them.
pub same_each : {A : Type 0} (one : A → List Kind → List Kind) (ends : List Kind → Bool) → Known one → ((x : A) (ks : List Kind) → ends (one x ks) ≡ false)
    → (xs ys : List A) (ks ls : List Kind) → ends ks ≡ true → ends ls ≡ true → each_then one xs ks ≡ each_then one ys ls → (xs ≡ ys) × (ks ≡ ls)
same_each one ends known apart [] [] ks ls p q e = (refl, e)
same_each one ends known apart [] (y ∷ ys) ks ls p q e = let no : true ≡ false = sym p ∙ ap ends e ∙ apart y (each_then one ys ls) in absurd cc
same_each one ends known apart (x ∷ xs) [] ks ls p q e = let no : true ≡ false = sym q ∙ ap ends (sym e) ∙ apart x (each_then one xs ks) in absurd cc
same_each one ends known apart (x ∷ xs) (y ∷ ys) ks ls p q e =
    let h = known x y (each_then one xs ks) (each_then one ys ls) e in
    let r = same_each one ends known apart xs ys ks ls p q h.1 in
    (ap₂ (λ z zs. z ∷ zs) h.0 r.0, r.1)
