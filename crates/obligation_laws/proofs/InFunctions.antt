-- What holds of each function, where it holds of those before it, holds of all: of what is made of names by functions, the
-- last first.
use Rattle.std.proofs.Common.{◌≡◌, ◌⊎◌, inl, inr, ℕ, List, [], ◌∷◌, ◌++◌, reverse, take, drop, Bool, true, false, if◌then◌else◌, refl, sym, ap, subst, ◌∙◌}
use Rattle.std.proofs.lemmas.List.{append-nil, append_assoc, reverse-append, take-append-drop}
use Rattle.cocoon_num.specs.Names.{same_name}
use Rattle.cocoon_num.specs.Tree.{FunctionDecl, Design}
use Rattle.cocoon_types.specs.Design.{functions}
use Rattle.sound_types.proofs.Functions.{NamesDiffer}
use Rattle.sound_types.proofs.Members.{In, in_left, in_right, in_either}
use Rattle.sound_types.proofs.Options.{same_text, text_self}

-- of the first of a name by those after it
pub record Steps {X : Type 0} (own : FunctionDecl → List FunctionDecl → List ℕ → X) (a : List FunctionDecl → List ℕ → X) : Type 0 where
  pub step : (g : FunctionDecl) (earlier : List FunctionDecl) (f : List ℕ) → a (g ∷ earlier) f ≡ (if same_name f g.name.text then own g earlier f else a earlier f)

abbrev pub HoldsOf : {X : Type 0} → (FunctionDecl → X → Type 0) → List FunctionDecl → (List ℕ → X) → Type 0
HoldsOf R fs a = (g : FunctionDecl) → In g fs → R g (a g.name.text)

-- it holds of a function, where it holds of those before it
abbrev pub HoldsNext : {X : Type 0} → (FunctionDecl → X → Type 0) → (FunctionDecl → List FunctionDecl → List ℕ → X) → (List FunctionDecl → List ℕ → X) → Design → Type 0
HoldsNext R own a d = (before : List FunctionDecl) (g : FunctionDecl) (rest : List FunctionDecl) → before ++ g ∷ rest ≡ functions d → HoldsOf R before (a (reverse before)) → R g (own g (reverse before) g.name.text)

by_test : {X : Type 0} (P : X → Type 0) (b : Bool) (x y : X) → (b ≡ true → P x) → (b ≡ false → P y) → P (if b then x else y)
by_test P true x y p q = p refl
by_test P false x y p q = q refl

one_more : {X : Type 0} (R : FunctionDecl → X → Type 0) (own : FunctionDecl → List FunctionDecl → List ℕ → X) (a : List FunctionDecl → List ℕ → X) (d : Design) → NamesDiffer d → Steps own a → HoldsNext R own a d
    → (before : List FunctionDecl) (g : FunctionDecl) (rest : List FunctionDecl) → before ++ g ∷ rest ≡ functions d → HoldsOf R before (a (reverse before)) → HoldsOf R (before ++ g ∷ []) (a (g ∷ reverse before))
one_more R own a d differ steps next before g rest all have x at =
    subst (R x) (sym (steps.step g (reverse before) x.name.text))
    (by_test (R x) (same_name x.name.text g.name.text) (own g (reverse before) x.name.text) (a (reverse before) x.name.text)
    (λ e. subst (λ (z : FunctionDecl). R z (own g (reverse before) z.name.text)) (sym (is_own e)) (next before g rest all have))
    (λ e. older e (in_either x before (g ∷ []) at)))
  where
    within : (y : FunctionDecl) → In y (before ++ g ∷ []) → In y (functions d)
    within y i = subst (In y) (append_assoc before (g ∷ []) rest ∙ all) (in_left y (before ++ g ∷ []) rest i)

    is_own : same_name x.name.text g.name.text ≡ true → x ≡ g
    is_own e = differ x g (within x at) (within g (in_right g before (g ∷ []) (inl refl))) (same_text x.name.text g.name.text e)

    same : x ≡ g → same_name x.name.text g.name.text ≡ true
    same e = ap (λ (z : FunctionDecl). same_name z.name.text g.name.text) e ∙ text_self g.name.text

    older : same_name x.name.text g.name.text ≡ false → (In x before) ⊎ (In x (g ∷ [])) → R x (a (reverse before) x.name.text)
    older e (inl k) = have x k
    older e (inr k) = elim k [
      | inl is ↦ absurd (let s = same is in cc)
      | inr none ↦ absurd none
    ]

-- some functions after some, and before some
pub some_hold : {X : Type 0} (R : FunctionDecl → X → Type 0) (own : FunctionDecl → List FunctionDecl → List ℕ → X) (a : List FunctionDecl → List ℕ → X) (d : Design) → NamesDiffer d → Steps own a → HoldsNext R own a d
    → (before fs later : List FunctionDecl) → (before ++ fs) ++ later ≡ functions d → HoldsOf R before (a (reverse before)) → HoldsOf R (before ++ fs) (a (reverse (before ++ fs)))
some_hold R own a d differ steps next before [] later all have = subst (λ fs. HoldsOf R fs (a (reverse fs))) (sym (append-nil before)) have
some_hold R own a d differ steps next before (g ∷ rest) later all have =
    let more = one_more R own a d differ steps next before g (rest ++ later) (sym (append_assoc before (g ∷ rest) later) ∙ all) have in
    let turned : reverse (before ++ g ∷ []) ≡ g ∷ reverse before = reverse-append before (g ∷ []) in
    let same : (before ++ g ∷ []) ++ rest ≡ before ++ g ∷ rest = append_assoc before (g ∷ []) rest in
    subst (λ fs. HoldsOf R fs (a (reverse fs))) same
    (some_hold R own a d differ steps next (before ++ g ∷ []) rest later (ap (λ fs. fs ++ later) same ∙ all)
    (subst (λ fs. HoldsOf R (before ++ g ∷ []) (a fs)) (sym turned) more))

-- the first functions, so many
pub first_hold : {X : Type 0} (R : FunctionDecl → X → Type 0) (own : FunctionDecl → List FunctionDecl → List ℕ → X) (a : List FunctionDecl → List ℕ → X) (d : Design) → NamesDiffer d → Steps own a → HoldsNext R own a d
    → (n : ℕ) → HoldsOf R (take n (functions d)) (a (reverse (take n (functions d))))
first_hold R own a d differ steps next n = some_hold R own a d differ steps next [] (take n (functions d)) (drop n (functions d)) (take-append-drop n (functions d)) (λ g none. absurd none)

pub all_hold : {X : Type 0} (R : FunctionDecl → X → Type 0) (own : FunctionDecl → List FunctionDecl → List ℕ → X) (a : List FunctionDecl → List ℕ → X) (d : Design) → NamesDiffer d → Steps own a → HoldsNext R own a d
    → HoldsOf R (functions d) (a (reverse (functions d)))
all_hold R own a d differ steps next = some_hold R own a d differ steps next [] (functions d) [] (append-nil (functions d)) (λ g none. absurd none)

pub if_apply : {A B : Type 0} (b : Bool) (x y : A → B) → (λ (z : A). if b then x z else y z) ≡ (if b then x else y)
if_apply true x y = refl
if_apply false x y = refl

pub if_both : {A B : Type 0} (b : Bool) (x y : A) (u v : B) → ◌≡◌ {A = A × B} ((if b then x else y), (if b then u else v)) (if b then (x, u) else (y, v))
if_both true x y u v = refl
if_both false x y u v = refl
