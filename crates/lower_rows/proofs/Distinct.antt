-- The first of some names are distinct.
use Rattle.std.proofs.Common.{◌≡◌, ℕ, suc, ◌&&◌, ◌||◌, Bool, true, false, not, List, [], ◌∷◌, ◌++◌, Option, Some, None, if◌then◌else◌, is_some, refl, ap, ap₂, ◌∙◌}
use Rattle.std.specs.Prelude.{fold, option_map}
use Rattle.cocoon_num.specs.Lists.{all_distinct, is_one_of}
use Rattle.cocoon_num.specs.Names.{same_name}
use Rattle.declarations.specs.NameNumbers.{firsts, index_of, with_name}
use Rattle.declarations.proofs.NameFacts.{same-symm}

pub none-there : (f : List ℕ) (ns : List (List ℕ)) → index_of f ns ≡ None → is_one_of ns f ≡ false
none-there f [] e = refl
none-there f (n ∷ ns) e = by (λ h. none-there f ns h) (same_name f n) (index_of f ns) refl refl e
  where
    by : (index_of f ns ≡ None → is_one_of ns f ≡ false) → (a : Bool) (o : Option ℕ) → same_name f n ≡ a → index_of f ns ≡ o → (if a then Some 0 else option_map suc o) ≡ None → is_one_of (n ∷ ns) f ≡ false
    by ih true o p q r = absurd cc
    by ih false (Some i) p q r = absurd cc
    by ih false None p q r = ap₂ (◌||◌) (same-symm n f ∙ p) (ih q)

both-hold : (a b : Bool) → a ≡ true → b ≡ true → (a && b) ≡ true
both-hold a b p q = ap₂ (◌&&◌) p q

left : (a b : Bool) → (a && b) ≡ true → a ≡ true
left true b h = refl
left false b h = absurd cc

right : (a b : Bool) → (a && b) ≡ true → b ≡ true
right true b h = h
right false b h = absurd cc

not-one : (a b : Bool) → not a ≡ true → b ≡ false → not (a || (b || false)) ≡ true
not-one true b p q = absurd cc
not-one false true p q = absurd cc
not-one false false p q = refl

still-apart : (n x : List ℕ) (ns : List (List ℕ)) → not (is_one_of ns n) ≡ true → same_name x n ≡ false → not (is_one_of (ns ++ x ∷ []) n) ≡ true
still-apart n x [] h e = not-one false (same_name x n) refl e
still-apart n x (m ∷ ns) h e = by (λ k. still-apart n x ns k e) (same_name m n) refl
  where
    first-not : (a b : Bool) → not (a || b) ≡ true → a ≡ true → ⊥
    first-not true b h k = cc
    first-not false b h k = cc

    rest-not : (a b : Bool) → not (a || b) ≡ true → not b ≡ true
    rest-not true b h = absurd cc
    rest-not false b h = h

    by : (not (is_one_of ns n) ≡ true → not (is_one_of (ns ++ x ∷ []) n) ≡ true) → (a : Bool) → same_name m n ≡ a → not (is_one_of ((m ∷ ns) ++ x ∷ []) n) ≡ true
    by ih true p = absurd (first-not (same_name m n) (is_one_of ns n) h p)
    by ih false p = ap (λ a. not (a || is_one_of (ns ++ x ∷ []) n)) p ∙ ih (rest-not (same_name m n) (is_one_of ns n) h)

one-more : (x : List ℕ) (ns : List (List ℕ)) → all_distinct ns ≡ true → is_one_of ns x ≡ false → all_distinct (ns ++ x ∷ []) ≡ true
one-more x [] d e = refl
one-more x (n ∷ ns) d e =
    both-hold (not (is_one_of (ns ++ x ∷ []) n)) (all_distinct (ns ++ x ∷ []))
    (still-apart n x ns (left (not (is_one_of ns n)) (all_distinct ns) d) (same-symm x n ∙ first-false (same_name n x) (is_one_of ns x) e))
    (one-more x ns (right (not (is_one_of ns n)) (all_distinct ns) d) (rest-false (same_name n x) (is_one_of ns x) e))
  where
    first-false : (a b : Bool) → (a || b) ≡ false → a ≡ false
    first-false true b h = absurd cc
    first-false false b h = refl

    rest-false : (a b : Bool) → (a || b) ≡ false → b ≡ false
    rest-false true b h = absurd cc
    rest-false false b h = h

with-distinct : (ns : List (List ℕ)) (x : List ℕ) → all_distinct ns ≡ true → all_distinct (with_name ns x) ≡ true
with-distinct ns x d = by (index_of x ns) refl
  where
    by : (o : Option ℕ) → index_of x ns ≡ o → all_distinct (if is_some (index_of x ns) then ns else ns ++ x ∷ []) ≡ true
    by None e = ap (λ (o : Option ℕ). all_distinct (if is_some o then ns else ns ++ x ∷ [])) e ∙ one-more x ns d (none-there x ns e)
    by (Some i) e = ap (λ (o : Option ℕ). all_distinct (if is_some o then ns else ns ++ x ∷ [])) e ∙ d

all-with : (xs ns : List (List ℕ)) → all_distinct ns ≡ true → all_distinct (fold with_name ns xs) ≡ true
all-with [] ns d = d
all-with (x ∷ xs) ns d = all-with xs (with_name ns x) (with-distinct ns x d)

pub firsts-distinct : (xs : List (List ℕ)) → all_distinct (firsts xs) ≡ true
firsts-distinct xs = all-with xs [] refl
