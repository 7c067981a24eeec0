-- The functions of a design that keeps the rules have names of their own.
use Rattle.std.proofs.Common.{◌≡◌, ℕ, List, [], ◌∷◌, ◌++◌, map, true, false, Bool, not, ◌||◌, refl, ap, ◌∙◌, arith}
use Rattle.std.specs.Prelude.{◌==◌, ◌&&◌}
use Rattle.std.proofs.lemmas.Bool.{eq-eqb}
use Rattle.std.proofs.lemmas.Bool.Decides.{nat_tests}
use Rattle.cocoon_num.specs.Names.{same_name}
use Rattle.cocoon_num.specs.Tree.{Name, FunctionDecl, Design}
use Rattle.cocoon_types.specs.Design.{functions}
use Rattle.cocoon_types.specs.RuleParts.{has_name, repeated, unless_named}
use Rattle.cocoon_types.specs.Rules.{twice, WellFormed}

pub nil_left : {A : Type 0} (xs ys : List A) → xs ++ ys ≡ [] → xs ≡ []
nil_left [] ys h = refl
nil_left (x ∷ xs) ys h = absurd (cc)

pub nil_right : {A : Type 0} (xs ys : List A) → xs ++ ys ≡ [] → ys ≡ []
nil_right [] ys h = h
nil_right (x ∷ xs) ys h = absurd (cc)

pub same_self : (x : List ℕ) → same_name x x ≡ true
same_self [] = refl
same_self (b ∷ x) = ap (λ t. t && same_name x x) (eq-eqb b b refl) ∙ same_self x

byte_turned : (a b : ℕ) → (a == b) ≡ (b == a)
byte_turned a b = grind (arith, nat_tests)

pub same_turned : (x y : List ℕ) → same_name x y ≡ same_name y x
same_turned [] [] = refl
same_turned [] (c ∷ y) = refl
same_turned (b ∷ x) [] = refl
same_turned (b ∷ x) (c ∷ y) = ap (λ t. t && same_name x y) (byte_turned b c) ∙ ap (λ t. (c == b) && t) (same_turned x y)

-- none of the functions has this name
abbrev pub Apart : List ℕ → List FunctionDecl → Type 0
Apart x [] = Unit {0}
Apart x (g ∷ gs) = (same_name g.name.text x ≡ false) × Apart x gs

abbrev pub Distinct : List FunctionDecl → Type 0
Distinct [] = Unit {0}
Distinct (f ∷ fs) = Apart f.name.text fs × Distinct fs

unseen : (b : Bool) (n : Name) → unless_named (not b) n ≡ [] → b ≡ false
unseen true n h = absurd cc
unseen false n h = refl

none_left : (a b : Bool) → (a || b) ≡ false → b ≡ false
none_left true b h = absurd cc
none_left false b h = h

none_first : (a b : Bool) → (a || b) ≡ false → a ≡ false
none_first true b h = absurd cc
none_first false b h = refl

other_than_seen : (x : List ℕ) (prefix : List Name) (s : Name) (back : List Name) → has_name x (prefix ++ s ∷ back) ≡ false → same_name x s.text ≡ false
other_than_seen x [] s back h = none_first (same_name x s.text) (has_name x back) h
other_than_seen x (n ∷ prefix) s back h = other_than_seen x prefix s back (none_left (same_name x n.text) (has_name x (prefix ++ s ∷ back)) h)

apart_from : (prefix : List Name) (s : Name) (back : List Name) (fs : List FunctionDecl) → repeated (prefix ++ s ∷ back) (map (λ (f : FunctionDecl). f.name) fs) ≡ [] → Apart s.text fs
apart_from prefix s back [] h = tt
apart_from prefix s back (g ∷ fs) h =
    let rest = repeated (g.name ∷ (prefix ++ s ∷ back)) (map (λ (f : FunctionDecl). f.name) fs) in
    let one = unless_named (not (has_name g.name.text (prefix ++ s ∷ back))) g.name in
    (other_than_seen g.name.text prefix s back (unseen (has_name g.name.text (prefix ++ s ∷ back)) g.name (nil_left one rest h)), apart_from (g.name ∷ prefix) s back fs (nil_right one rest h))

distinct_from : (seen : List Name) (fs : List FunctionDecl) → repeated seen (map (λ (f : FunctionDecl). f.name) fs) ≡ [] → Distinct fs
distinct_from seen [] h = tt
distinct_from seen (f ∷ fs) h =
    let rest = repeated (f.name ∷ seen) (map (λ (g : FunctionDecl). g.name) fs) in
    let later : rest ≡ [] = nil_right (unless_named (not (has_name f.name.text seen)) f.name) rest h in
    (apart_from [] f.name seen fs later, distinct_from (f.name ∷ seen) fs later)

pub functions_distinct : (d : Design) → WellFormed d → Distinct (functions d)
functions_distinct d rules =
    distinct_from [] (functions d) (nil_right _ _ (nil_left _ _ (nil_left _ _ (nil_left _ _ (nil_left _ _ (nil_left _ _ (nil_left _ _ (nil_left _ _ (rules twice)))))))))
