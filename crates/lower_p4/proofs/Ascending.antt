-- Numbers ascend in one way: two ascending lists of the same numbers are one.
use Rattle.std.proofs.Common.{◌≡◌, ℕ, ◌≤◌, ◌==◌, ◌||◌, Bool, true, false, List, [], ◌∷◌, arith, refl, sym, ap, ap₂, ◌∙◌}
use Rattle.std.proofs.lemmas.Bool.{and_parts}
use Rattle.std.proofs.lemmas.Bool.Decides.{nat_tests}
use Rattle.cocoon_num.specs.Lists.{ascend, has_number}

-- all numbers after the first ascend too
later : (m : ℕ) (ks : List ℕ) → ascend (m ∷ ks) ≡ true → ascend ks ≡ true
later m [] a = refl
later m (k ∷ ks) a = (and_parts _ _ a).1

-- a number that is not above the first is none of the others
has_none : (x m : ℕ) (ks : List ℕ) → ascend (m ∷ ks) ≡ true → x ≤ m → has_number x ks ≡ false
has_none x m [] a h = refl
has_none x m (k ∷ ks) a h = grind (arith, nat_tests, has_none x k ks)

-- a number is one of those that it begins
has_first : (x : ℕ) (xs : List ℕ) → has_number x (x ∷ xs) ≡ true
has_first x xs = grind (arith, nat_tests)

-- two first numbers that are among each other's numbers are one
one_first : (x y : ℕ) (xs ys : List ℕ) → ascend (x ∷ xs) ≡ true → ascend (y ∷ ys) ≡ true → has_number x (y ∷ ys) ≡ true → has_number y (x ∷ xs) ≡ true → x ≡ y
one_first x y xs ys a b h i = grind (arith, nat_tests, has_none x y ys b, has_none y x xs a)

-- one step of `same_later`
same_later_by : (z x : ℕ) (xs ys : List ℕ) (is : Bool) → (z == x) ≡ is → ascend (x ∷ xs) ≡ true → ascend (x ∷ ys) ≡ true →
    ((z == x) || has_number z xs) ≡ ((z == x) || has_number z ys) → has_number z xs ≡ has_number z ys
same_later_by z x xs ys true e a b h =
    let at : z ≤ x = grind (arith, nat_tests) in
    has_none z x xs a at ∙ sym (has_none z x ys b at)
same_later_by z x xs ys false e a b h = sym (ap (λ c. c || has_number z xs) e) ∙ h ∙ ap (λ c. c || has_number z ys) e

-- after one first number the same numbers follow
same_later : (x y : ℕ) (xs ys : List ℕ) → x ≡ y → ascend (x ∷ xs) ≡ true → ascend (y ∷ ys) ≡ true →
    ((z : ℕ) → has_number z (x ∷ xs) ≡ has_number z (y ∷ ys)) → (z : ℕ) → has_number z xs ≡ has_number z ys
same_later x y xs ys e a b h z =
    same_later_by z x xs ys (z == x) refl a (ap (λ k. ascend (k ∷ ys)) e ∙ b) (h z ∙ sym (ap (λ k. has_number z (k ∷ ys)) e))

-- numbers ascend in one way
pub one_order : (xs ys : List ℕ) → ascend xs ≡ true → ascend ys ≡ true → ((z : ℕ) → has_number z xs ≡ has_number z ys) → xs ≡ ys
one_order [] [] a b h = refl
one_order [] (y ∷ ys) a b h = let none : false ≡ true = h y ∙ has_first y ys in cc
one_order (x ∷ xs) [] a b h = let none : false ≡ true = sym (h x) ∙ has_first x xs in cc
one_order (x ∷ xs) (y ∷ ys) a b h =
    let e : x ≡ y = one_first x y xs ys a b (sym (h x) ∙ has_first x xs) (h y ∙ has_first y ys) in
    ap₂ (λ k ks. k ∷ ks) e (one_order xs ys (later x xs a) (later y ys b) (same_later x y xs ys e a b h))
