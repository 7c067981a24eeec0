-- The sets of members, row by row.
use Rattle.std.proofs.Common.{◌≡◌, ℕ, zero, suc, ◌+◌, ◌-◌, drop, Vec, Global, ◌<◌, ◌≤◌, ◌==◌, get_or, ◌&&◌, ◌||◌, nat_lt, Bool, true, false, not, List, [], ◌∷◌, ◌++◌, map, length, Ordering, Option, Some, None, if◌then◌else◌, refl, sym, ap, ap₂, subst, ◌∙◌, arith}
use Rattle.std.specs.Prelude.{flat_map, option_map}
use Rattle.std.specs.Ordering.{match_ordering, nat_cmp}
use Rattle.std.specs.declared.cmp.Ordering.TheVariants.{Less, Equal, Greater}
use Rattle.std.specs.BTreeSet.{BTreeSet, insert_key}
use Rattle.std.specs.Prelude.{slice_set}
use Rattle.std.proofs.Math.Seq.{drop-length}
use Rattle.std.proofs.lemmas.List.{drop_more, map-set}
use Rattle.std.proofs.lemmas.Bool.Decides.{nat_tests}
use Rattle.cocoon_num.specs.Lists.{all_distinct, is_one_of}
use Rattle.cocoon_num.specs.Names.{same_name}
use Rattle.cocoon_num.specs.declared.fun_table.FunRow.{FunRow}
use Rattle.declarations.specs.NameNumbers.{index_of}
use Rattle.declarations.proofs.NameFacts.{same-symm, same-true}
use Rattle.lowering_correct.specs.Groups.{ascending, before_last, last_of, put_in}
use Rattle.lower_rows.specs.Grouping.{keys_of, lists_of, no_members, put_at, with_choice}
use Rattle.lower_rows.proofs.Distinct.{none-there}
use Rattle.lower_rows.specs.Sets.{choice_by, members_by}

-- ---- one set

put-by : (x y : ℕ) (ys more : List ℕ) (o : Ordering) → nat_cmp x y ≡ o
    → match_ordering (nat_cmp x y) (x ∷ y ∷ ys) (y ∷ ys) (y ∷ more) ≡ (if nat_lt x y then x ∷ y ∷ ys else (if x == y then y ∷ ys else y ∷ more))
put-by x y ys more Less e =
    let lt : nat_lt x y ≡ true = grind (arith, nat_tests, e) in
    ap (λ o. match_ordering o (x ∷ y ∷ ys) (y ∷ ys) (y ∷ more)) e ∙ sym (ap (λ b. if b then x ∷ y ∷ ys else (if x == y then y ∷ ys else y ∷ more)) lt)
put-by x y ys more Equal e =
    let lt : nat_lt x y ≡ false = grind (arith, nat_tests, e) in
    let eq : (x == y) ≡ true = grind (arith, nat_tests, e) in
    ap (λ o. match_ordering o (x ∷ y ∷ ys) (y ∷ ys) (y ∷ more)) e ∙ sym (ap₂ (λ b c. if b then x ∷ y ∷ ys else (if c then y ∷ ys else y ∷ more)) lt eq)
put-by x y ys more Greater e =
    let lt : nat_lt x y ≡ false = grind (arith, nat_tests, e) in
    let eq : (x == y) ≡ false = grind (arith, nat_tests, e) in
    ap (λ o. match_ordering o (x ∷ y ∷ ys) (y ∷ ys) (y ∷ more)) e ∙ sym (ap₂ (λ b c. if b then x ∷ y ∷ ys else (if c then y ∷ ys else y ∷ more)) lt eq)

-- a number goes to its place
pub put-is : (x : ℕ) (ys : List ℕ) → insert_key nat_cmp ys x ≡ put_in x ys
put-is x [] = refl
put-is x (y ∷ ys) = ap (λ more. match_ordering (nat_cmp x y) (x ∷ y ∷ ys) (y ∷ ys) (y ∷ more)) (put-is x ys) ∙ put-by x y ys (put_in x ys) (nat_cmp x y) refl

-- ---- all sets

step-in : (t : Bool) (x : ℕ) (a : Bool) (ms : List ℕ) → ascending ((if a && t then x ∷ [] else []) ++ ms) ≡ (if a then (if t then put_in x (ascending ms) else ascending ms) else ascending ms)
step-in true x true ms = refl
step-in false x true ms = refl
step-in true x false ms = refl
step-in false x false ms = refl

abbrev with-row : (List ℕ → Bool) → FunRow → List ℕ → List ℕ
with-row test row ms = if test row.values then put_in (last_of row.values) ms else ms

-- the members with one row more
members-step : (test : List ℕ → Bool) (row : FunRow) (rows : List FunRow) (args : List ℕ)
    → members_by test (row ∷ rows) args ≡ (if same_name args (before_last row.values) then with-row test row (members_by test rows args) else members_by test rows args)
members-step test row rows args = step-in (test row.values) (last_of row.values) (same_name args (before_last row.values)) (flat_map (choice_by test args) rows)

abbrev one-changed : List ℕ → (List ℕ → List ℕ) → (List ℕ → List ℕ) → List ℕ → List ℕ
one-changed f g h n = if same_name n f then g (h n) else h n

not-there : (f : List ℕ) (g h : List ℕ → List ℕ) (ns : List (List ℕ)) → is_one_of ns f ≡ false → map (one-changed f g h) ns ≡ map h ns
not-there f g h [] e = refl
not-there f g h (n ∷ ns) e = by (λ k. not-there f g h ns k) (same_name n f) (is_one_of ns f) refl refl e
  where
    by : (is_one_of ns f ≡ false → map (one-changed f g h) ns ≡ map h ns) → (a b : Bool) → same_name n f ≡ a → is_one_of ns f ≡ b → (a || b) ≡ false → map (one-changed f g h) (n ∷ ns) ≡ map h (n ∷ ns)
    by ih true b p q r = absurd cc
    by ih false true p q r = absurd cc
    by ih false false p q r = ap₂ (λ (c : Bool) (xs : List (List ℕ)). (if c then g (h n) else h n) ∷ xs) p (ih q)

-- the set of this index
abbrev changed-at : ℕ → (List ℕ → List ℕ) → List (List ℕ) → List (List ℕ)
changed-at i g [] = []
changed-at zero g (x ∷ xs) = g x ∷ xs
changed-at (suc i) g (x ∷ xs) = x ∷ changed-at i g xs

left : (a b : Bool) → (a && b) ≡ true → a ≡ true
left true b h = refl
left false b h = absurd cc

right : (a b : Bool) → (a && b) ≡ true → b ≡ true
right true b h = h
right false b h = absurd cc

not-true : (a : Bool) → not a ≡ true → a ≡ false
not-true true h = absurd cc
not-true false h = refl

one-there : (f : List ℕ) (g h : List ℕ → List ℕ) (ns : List (List ℕ)) (i : ℕ) → all_distinct ns ≡ true → index_of f ns ≡ Some i → map (one-changed f g h) ns ≡ changed-at i g (map h ns)
one-there f g h [] i d e = absurd cc
one-there f g h (n ∷ ns) i d e =
    by (λ j q. one-there f g h ns j (right (not (is_one_of ns n)) (all_distinct ns) d) q) (same_name f n) (index_of f ns) refl refl e
  where
    first : (j : ℕ) → same_name f n ≡ true → zero ≡ j → map (one-changed f g h) (n ∷ ns) ≡ changed-at j g (map h (n ∷ ns))
    first j p q = subst (λ k. map (one-changed f g h) (n ∷ ns) ≡ changed-at k g (map h (n ∷ ns))) q
        (ap₂ (λ (c : Bool) (xs : List (List ℕ)). (if c then g (h n) else h n) ∷ xs) (same-symm n f ∙ p)
        (not-there f g h ns (ap (is_one_of ns) (same-true f n p) ∙ not-true (is_one_of ns n) (left (not (is_one_of ns n)) (all_distinct ns) d))))

    by : ((j : ℕ) → index_of f ns ≡ Some j → map (one-changed f g h) ns ≡ changed-at j g (map h ns))
        → (a : Bool) (o : Option ℕ) → same_name f n ≡ a → index_of f ns ≡ o → (if a then Some 0 else option_map suc o) ≡ Some i → map (one-changed f g h) (n ∷ ns) ≡ changed-at i g (map h (n ∷ ns))
    by ih true o p q r = first i p cc
    by ih false None p q r = absurd cc
    by ih false (Some j) p q r =
        let same : suc j ≡ i = cc in
        subst (λ k. map (one-changed f g h) (n ∷ ns) ≡ changed-at k g (map h (n ∷ ns))) same
        (ap₂ (λ (c : Bool) (xs : List (List ℕ)). (if c then g (h n) else h n) ∷ xs) (same-symm n f ∙ p)
        (ih j q))

unchanged : (i : ℕ) (xs : List (List ℕ)) → changed-at i (λ ms. ms) xs ≡ xs
unchanged i [] = refl
unchanged zero (x ∷ xs) = refl
unchanged (suc i) (x ∷ xs) = ap (λ (ys : List (List ℕ)). x ∷ ys) (unchanged i xs)

put-changed : (i x : ℕ) (xs : List (List ℕ)) → changed-at i (put_in x) xs ≡ put_at i x xs
put-changed i x [] = refl
put-changed zero x (ks ∷ xs) = refl
put-changed (suc i) x (ks ∷ xs) = ap (λ (ys : List (List ℕ)). ks ∷ ys) (put-changed i x xs)

choice-at : (i x : ℕ) (b : Bool) (xs : List (List ℕ)) → changed-at i (λ ms. if b then put_in x ms else ms) xs ≡ with_choice (Some i) b x xs
choice-at i x true xs = put-changed i x xs
choice-at i x false xs = unchanged i xs

each-step : (test : List ℕ → Bool) (row : FunRow) (rows : List FunRow) (ns : List (List ℕ))
    → map (members_by test (row ∷ rows)) ns ≡ map (one-changed (before_last row.values) (with-row test row) (members_by test rows)) ns
each-step test row rows [] = refl
each-step test row rows (n ∷ ns) = ap₂ (λ (x : List ℕ) (xs : List (List ℕ)). x ∷ xs) (members-step test row rows n) (each-step test row rows ns)

-- the sets with one row more
pub sets-step : (test : List ℕ → Bool) (row : FunRow) (rows : List FunRow) (ns : List (List ℕ)) → all_distinct ns ≡ true
    → map (members_by test (row ∷ rows)) ns ≡ with_choice (index_of (before_last row.values) ns) (test row.values) (last_of row.values) (map (members_by test rows) ns)
sets-step test row rows ns d = each-step test row rows ns ∙ by (index_of (before_last row.values) ns) refl
  where
    by : (o : Option ℕ) → index_of (before_last row.values) ns ≡ o
        → map (one-changed (before_last row.values) (with-row test row) (members_by test rows)) ns ≡ with_choice (index_of (before_last row.values) ns) (test row.values) (last_of row.values) (map (members_by test rows) ns)
    by None e =
        not-there (before_last row.values) (with-row test row) (members_by test rows) ns (none-there (before_last row.values) ns e)
        ∙ ap (λ (o : Option ℕ). with_choice o (test row.values) (last_of row.values) (map (members_by test rows) ns)) (sym e)
    by (Some i) e =
        one-there (before_last row.values) (with-row test row) (members_by test rows) ns i d e
        ∙ choice-at i (last_of row.values) (test row.values) (map (members_by test rows) ns)
        ∙ ap (λ (o : Option ℕ). with_choice o (test row.values) (last_of row.values) (map (members_by test rows) ns)) (sym e)

-- without rows no set has a member
pub sets-empty : (test : List ℕ → Bool) (ns : List (List ℕ)) → map (members_by test []) ns ≡ map (λ (n : List ℕ). []) ns
sets-empty test [] = refl
sets-empty test (n ∷ ns) = ap (λ (xs : List (List ℕ)). [] ∷ xs) (sets-empty test ns)

-- ---- the sets of the code

put-sets : (sets : List (BTreeSet ℕ)) (i x : ℕ) (old : BTreeSet ℕ) → i < length sets → old ≡ get_or sets i old → slice_set (keys_of sets) i (put_in x old.keys) ≡ put_at i x (keys_of sets)
put-sets [] i x old l e = absurd (omega arith)
put-sets (s ∷ sets) zero x old l e = ap (λ (t : BTreeSet ℕ). put_in x t.keys ∷ keys_of sets) e
put-sets (s ∷ sets) (suc i) x old l e = ap (λ (kss : List (List ℕ)). s.keys ∷ kss) (put-sets sets i x old (omega arith) e)

-- a number more in the set of an index
pub set-put : (sets : List (BTreeSet ℕ)) (i x : ℕ) (old new : BTreeSet ℕ) → i < length sets → old ≡ get_or sets i old → new.keys ≡ insert_key nat_cmp old.keys x
    → keys_of (slice_set sets i new) ≡ put_at i x (keys_of sets)
set-put sets i x old new l e h =
    map-set (λ (s : BTreeSet ℕ). s.keys) sets i new ∙ ap (λ ks. slice_set (keys_of sets) i ks) (h ∙ put-is x old.keys) ∙ put-sets sets i x old l e

-- past the last set nothing changes
pub put-past : (i x : ℕ) (kss : List (List ℕ)) → length kss ≤ i → put_at i x kss ≡ kss
put-past i x [] h = refl
put-past zero x (ks ∷ kss) h = absurd (omega arith)
put-past (suc i) x (ks ∷ kss) h = ap (λ (more : List (List ℕ)). ks ∷ more) (put-past i x kss (omega arith))

-- ---- steps of the loop

empties : (vs : List (Vec ℕ Global)) → map no_members vs ≡ map (λ (n : List ℕ). []) (lists_of vs)
empties [] = refl
empties (v ∷ vs) = ap (λ (xs : List (List ℕ)). [] ∷ xs) (empties vs)

-- no row yet
pub sets-begin : (test : List ℕ → Bool) (vs : List (Vec ℕ Global)) (rows : List FunRow) (ns : List (List ℕ)) → lists_of vs ≡ ns → map no_members vs ≡ map (members_by test (drop (length rows) rows)) ns
sets-begin test vs rows ns h =
    empties vs ∙ ap (map (λ (n : List ℕ). [])) h ∙ sym (sets-empty test ns) ∙ ap (λ rs. map (members_by test rs) ns) (sym (drop-length rows))

plus-one : (i : ℕ) → 0 < i → i - 1 + 1 ≡ i
plus-one i h = omega arith

row-before : (rows : List FunRow) (i : ℕ) (row : FunRow) → 0 < i → i ≤ length rows → row ≡ get_or rows (i - 1) row → drop (i - 1) rows ≡ row ∷ drop i rows
row-before rows i row h l e =
    drop_more rows (i - 1) row (omega arith) ∙ ap₂ (λ (r : FunRow) (k : ℕ). r ∷ drop k rows) (sym e) (plus-one i h)

-- one row more
pub sets-more : (test : List ℕ → Bool) (rows : List FunRow) (i : ℕ) (row : FunRow) (ns : List (List ℕ)) (at : Option ℕ) (old new : List (List ℕ))
    → 0 < i → i ≤ length rows → row ≡ get_or rows (i - 1) row → all_distinct ns ≡ true → at ≡ index_of (before_last row.values) ns
    → old ≡ map (members_by test (drop i rows)) ns → new ≡ with_choice at (test row.values) (last_of row.values) old
    → new ≡ map (members_by test (drop (i - 1) rows)) ns
sets-more test rows i row ns at old new h l e d ha ho hn =
    hn ∙ ap₂ (λ o kss. with_choice o (test row.values) (last_of row.values) kss) ha ho
    ∙ sym (sets-step test row (drop i rows) ns d) ∙ ap (λ rs. map (members_by test rs) ns) (sym (row-before rows i row h l e))
