-- Names in an ordered set, and lists of different names.
use Rattle.std.proofs.Common.{◌≡◌, ℕ, zero, suc, ◌+◌, ◌-◌, ◌<◌, ◌≤◌, ◌==◌, ◌&&◌, ◌||◌, Bool, true, false, not, List, [], ◌∷◌, length, map, drop, get_or, Vec, Global, Ordering, refl, sym, ap, subst, ◌∙◌, arith}
use Rattle.std.specs.List.{list_any}
use Rattle.std.specs.Str.{bytes_eq}
use Rattle.std.specs.Ordering.{nat_cmp, is_eq, match_ordering}
use Rattle.std.specs.declared.cmp.Ordering.TheVariants.{Less, Equal, Greater}
use Rattle.std.specs.Cmp.Lexicographic.{slice_cmp, bytes_decides, nat_list_eq_equiv}
use Rattle.std.specs.BTreeMap.{is_at}
use Rattle.std.specs.BTreeSet.{insert_key}
use Rattle.std.proofs.lemmas.Map.Text.{is_eq-slice_cmp}
use Rattle.std.proofs.lemmas.List.{at_drop_more, drop_all}
use Rattle.cocoon_num.specs.Names.{same_name}
use Rattle.cocoon_num.specs.Lists.{is_one_of, all_distinct}
use Rattle.p4_kinds.specs.Seen.{has_key, Joins}

-- ---- the same name

same_bytes : (xs ys : List ℕ) → bytes_eq xs ys ≡ same_name xs ys
same_bytes [] [] = refl
same_bytes [] (y ∷ ys) = refl
same_bytes (x ∷ xs) [] = refl
same_bytes (x ∷ xs) (y ∷ ys) = ap (λ b. (x == y) && b) (same_bytes xs ys)

same_true : (xs ys : List ℕ) → same_name xs ys ≡ true → xs ≡ ys
same_true xs ys h = (bytes_decides xs ys).0 (same_bytes xs ys ∙ h)

same_symm : (xs ys : List ℕ) → same_name xs ys ≡ same_name ys xs
same_symm xs ys = sym (same_bytes xs ys) ∙ nat_list_eq_equiv.symm xs ys ∙ same_bytes ys xs

-- ---- the set

-- the order of the set
abbrev pub key_order : Vec ℕ Global → Vec ℕ Global → Ordering
key_order x y = slice_cmp nat_cmp x.items y.items

-- a key that stands where another does has its name
is_key : (x y : Vec ℕ Global) → is_eq (key_order x y) ≡ same_name x.items y.items
is_key x y = is_eq-slice_cmp x.items y.items ∙ same_bytes x.items y.items

any_same : (f g : Vec ℕ Global → Bool) → ((k : Vec ℕ Global) → f k ≡ g k) → (ks : List (Vec ℕ Global)) → list_any f ks ≡ list_any g ks
any_same f g h [] = refl
any_same f g h (k ∷ ks) = rw (h k, any_same f g h ks) refl

-- the names after an insertion
inserted : (x : List ℕ) (key : Vec ℕ Global) (ks : List (Vec ℕ Global)) → has_key (insert_key key_order ks key) x ≡ (same_name x key.items || has_key ks x)
inserted x key [] = refl
inserted x key (k ∷ ks) = by_order (key_order key k) (is_key key k) (inserted x key ks)
  where
    twice : (a b r : Bool) → a ≡ b → (b || r) ≡ (a || (b || r))
    twice true true r h = refl
    twice false false r h = refl
    twice true false r h = absurd cc
    twice false true r h = absurd cc

    crossed : (a b r : Bool) → (b || (a || r)) ≡ (a || (b || r))
    crossed true true r = refl
    crossed true false r = refl
    crossed false true r = refl
    crossed false false r = refl

    by_order : (o : Ordering) → is_eq o ≡ same_name key.items k.items → has_key (insert_key key_order ks key) x ≡ (same_name x key.items || has_key ks x)
        → has_key (match_ordering o (key ∷ k ∷ ks) (k ∷ ks) (k ∷ insert_key key_order ks key)) x ≡ (same_name x key.items || (same_name x k.items || has_key ks x))
    by_order Less e h = refl
    by_order Equal e h = twice (same_name x key.items) (same_name x k.items) (has_key ks x) (ap (same_name x) (same_true key.items k.items (sym e)))
    by_order Greater e h = ap (λ b. same_name x k.items || b) h ∙ crossed (same_name x key.items) (same_name x k.items) (has_key ks x)

pub name_joins : (name : List ℕ) (old new : List (Vec ℕ Global)) (key : Vec ℕ Global) (b : Bool) → key.items ≡ name → new ≡ insert_key key_order old key
    → b ≡ not (list_any (is_at (key_order key)) old) → Joins name old new b
name_joins name old new key b e k a = record {
  new_where = a ∙ ap not (any_same (is_at (key_order key)) (λ y. same_name key.items y.items) (is_key key) old ∙ ap (λ z. has_key old z) e);
  keys = λ x. ap (λ ks. has_key ks x) k ∙ inserted x key old ∙ ap (λ z. same_name x z || has_key old x) e;
}

-- ---- lists of different names

-- these are the names of the set, and they are different
pub record AreSeen (names : List (List ℕ)) (keys : List (Vec ℕ Global)) : Type 0 where
  pub distinct : all_distinct names ≡ true
  pub has : (x : List ℕ) → has_key keys x ≡ is_one_of names x

pub none_seen : AreSeen [] []
none_seen = record { distinct = refl; has = λ x. refl }

one_more : (name : List ℕ) (names : List (List ℕ)) (old new : List (Vec ℕ Global)) → AreSeen names old → Joins name old new true → AreSeen (name ∷ names) new
one_more name names old new s j = record {
  distinct =
      let new_name : not (is_one_of names name) ≡ true = ap not (sym (s.has name)) ∙ sym j.new_where in
      rw (new_name, s.distinct) refl;
  has = λ x. j.keys x ∙ ap (λ b. b || has_key old x) (same_symm x name) ∙ ap (λ b. same_name name x || b) (s.has x);
}

one_twice : (name : List ℕ) (names : List (List ℕ)) (old new : List (Vec ℕ Global)) → AreSeen names old → Joins name old new false → all_distinct (name ∷ names) ≡ false
one_twice name names old new s j =
    let new_name : not (is_one_of names name) ≡ false = ap not (sym (s.has name)) ∙ sym j.new_where in
    rw new_name refl

rest_distinct : {A B : Type 0} (g : B → List ℕ) (v : A → B) (xs : List A) (i : ℕ) → all_distinct (map g (map v (drop i xs))) ≡ false → all_distinct (map g (map v xs)) ≡ false
rest_distinct g v xs zero h = h
rest_distinct g v [] (suc i) h = h
rest_distinct g v (x ∷ xs) (suc i) h = rw (rest_distinct g v xs i h) (and_false (not (is_one_of (map g (map v xs)) (g (v x)))))
  where
    and_false : (b : Bool) → (b && false) ≡ false
    and_false true = refl
    and_false false = refl

here : {A B : Type 0} (g : B → List ℕ) (v : A → B) (xs : List A) (i left : ℕ) (x : A) → 0 < left → left ≤ length xs → i ≡ left - 1 → x ≡ get_or xs i x
    → map g (map v (drop i xs)) ≡ g (v x) ∷ map g (map v (drop left xs))
here g v xs i left x some within e h =
    let next : i + 1 ≡ left = omega (arith, some, e) in
    at_drop_more (λ ys. map g (map v ys)) xs i x (omega (arith, some, within, e)) ∙ ap (λ y. g (v y) ∷ map g (map v (drop (i + 1) xs))) (sym h) ∙ ap (λ n. g (v x) ∷ map g (map v (drop n xs))) next

pub seen_more : {A B : Type 0} (g : B → List ℕ) (v : A → B) (xs : List A) (i left : ℕ) (x : A) (old new : List (Vec ℕ Global)) (b : Bool) → 0 < left → left ≤ length xs → i ≡ left - 1 → x ≡ get_or xs i x
    → AreSeen (map g (map v (drop left xs))) old → Joins (g (v x)) old new b → b ≡ true → AreSeen (map g (map v (drop i xs))) new
seen_more g v xs i left x old new b some within e h s j is =
    subst (λ ns. AreSeen ns new) (sym (here g v xs i left x some within e h)) (one_more (g (v x)) _ old new s (subst (Joins (g (v x)) old new) is j))

pub seen_twice : {A B : Type 0} (g : B → List ℕ) (v : A → B) (xs : List A) (i left : ℕ) (x : A) (old new : List (Vec ℕ Global)) (b : Bool) → 0 < left → left ≤ length xs → i ≡ left - 1 → x ≡ get_or xs i x
    → AreSeen (map g (map v (drop left xs))) old → Joins (g (v x)) old new b → b ≡ false → all_distinct (map g (map v xs)) ≡ false
seen_twice g v xs i left x old new b some within e h s j is =
    rest_distinct g v xs i (ap all_distinct (here g v xs i left x some within e h) ∙ one_twice (g (v x)) _ old new s (subst (Joins (g (v x)) old new) is j))

pub none_left : {A B : Type 0} (g : B → List ℕ) (v : A → B) (xs : List A) (keys : List (Vec ℕ Global)) → keys ≡ [] → AreSeen (map g (map v (drop (length xs) xs))) keys
none_left g v xs keys e = rw (drop_all (length xs) xs (omega arith), e) none_seen
