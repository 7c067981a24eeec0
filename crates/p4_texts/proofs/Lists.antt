-- Names that are distinct, numbers that ascend, and tests that all pass.
use Rattle.std.specs.Prelude.{◌≡◌, ℕ, suc, ◌||◌, ◌==◌, Bool, true, false, not, nat_le, nat_lt, List, [], ◌∷◌, ◌++◌, refl}
use Rattle.std.proofs.Common.{ap, ◌∙◌, arith}
use Rattle.std.proofs.lemmas.Bool.{and_parts, and_from}
use Rattle.std.proofs.lemmas.Bool.Decides.{nat_tests}
use Rattle.cocoon_num.specs.Lists.{all_distinct, ascend, is_one_of}
use Rattle.cocoon_num.specs.Names.{same_name}
use Rattle.p4_texts.specs.KindFaults.{least_after}

-- ---- names

pub name_is : (xs ys : List ℕ) → same_name xs ys ≡ true → xs ≡ ys
name_is [] [] h = refl
name_is [] (y ∷ ys) h = absurd cc
name_is (x ∷ xs) [] h = absurd cc
name_is (x ∷ xs) (y ∷ ys) h =
    let p = and_parts (x == y) (same_name xs ys) h in
    let a : x ≡ y = grind (arith, nat_tests, p.0) in
    let b : xs ≡ ys = name_is xs ys p.1 in
    cc

pub same_self : (xs : List ℕ) → same_name xs xs ≡ true
same_self [] = refl
same_self (x ∷ xs) = and_from (x == x) (same_name xs xs) (let e : (x == x) ≡ true = grind (arith, nat_tests) in e) (same_self xs)

number_symm : (a b : ℕ) → (a == b) ≡ (b == a)
number_symm a b = grind (arith, nat_tests)

pub same_symm : (xs ys : List ℕ) → same_name xs ys ≡ same_name ys xs
same_symm [] [] = refl
same_symm [] (y ∷ ys) = refl
same_symm (x ∷ xs) [] = refl
same_symm (x ∷ xs) (y ∷ ys) = rw (number_symm x y, same_symm xs ys) refl

-- ---- distinct names

neither : (a b : Bool) → not (a || b) ≡ true → (not a ≡ true) × (not b ≡ true)
neither true b h = absurd cc
neither false b h = (refl, h)

more_new : (ys : List (List ℕ)) (x y : List ℕ) → not (is_one_of ys y) ≡ true → not (same_name x y) ≡ true → not (is_one_of (ys ++ (x ∷ [])) y) ≡ true
more_new [] x y h k = last (same_name x y) k
  where
    last : (a : Bool) → not a ≡ true → not (a || false) ≡ true
    last true h = absurd cc
    last false h = refl
more_new (z ∷ ys) x y h k = by (same_name z y) (is_one_of (ys ++ (x ∷ [])) y) (neither (same_name z y) (is_one_of ys y) h).0 (more_new ys x y (neither (same_name z y) (is_one_of ys y) h).1 k)
  where
    by : (a b : Bool) → not a ≡ true → not b ≡ true → not (a || b) ≡ true
    by true b h k = absurd cc
    by false b h k = k

pub one_more : (ys : List (List ℕ)) (x : List ℕ) → all_distinct ys ≡ true → not (is_one_of ys x) ≡ true → all_distinct (ys ++ (x ∷ [])) ≡ true
one_more [] x h k = refl
one_more (y ∷ ys) x h k =
    let p = and_parts (not (is_one_of ys y)) (all_distinct ys) h in
    let q = neither (same_name y x) (is_one_of ys x) k in
    and_from (not (is_one_of (ys ++ (x ∷ [])) y)) (all_distinct (ys ++ (x ∷ []))) (more_new ys x y p.0 (ap not (same_symm x y) ∙ q.0)) (one_more ys x p.1 q.1)

-- ---- numbers that ascend

next_is : (m n : ℕ) → nat_lt m n ≡ nat_le (suc m) n
next_is m n = grind (arith, nat_tests)

pub one_above : (ms : List ℕ) (n : ℕ) → ascend ms ≡ true → nat_le (least_after ms) n ≡ true → ascend (ms ++ (n ∷ [])) ≡ true
one_above [] n h k = refl
one_above (m ∷ []) n h k = and_from (nat_lt m n) true (next_is m n ∙ k) refl
one_above (l ∷ m ∷ ms) n h k =
    let p = and_parts (nat_lt l m) (ascend (m ∷ ms)) h in
    and_from (nat_lt l m) (ascend (m ∷ (ms ++ (n ∷ [])))) p.0 (one_above (m ∷ ms) n p.1 k)
