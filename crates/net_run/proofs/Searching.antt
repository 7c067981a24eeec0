-- The first that is not before what is looked for, in a list that rises.
use Rattle.std.proofs.Common.{◌≡◌, ℕ, zero, suc, ◌<◌, ◌==◌, ◌&&◌, ◌||◌, Bool, true, false, nat_lt, if◌then◌else◌, List, [], ◌∷◌, length, map, slice_get, slice_index_or, Option, Some, None, refl, sym, ◌∙◌, ap, arith}
use Rattle.std.proofs.lemmas.Bool.{and_from, and_parts}
use Rattle.std.proofs.lemmas.Bool.Decides.{nat_tests}
use Rattle.std.specs.List.{find, AllWithin}
use Rattle.std.specs.List.Sorted.{IsPartitionedBy}
use Rattle.cocoon_num.specs.Lists.{ascend, each}
use Rattle.p4_ir.specs.Wiring.{pairs_ascend}

-- Elements that are before what is looked for, and those that are it. `above x y` says that y is above x.
pub record Searched {A : Type 0} (before same : A → Bool) (above : A → A → Bool) : Type 0 where
  pub apart : (x : A) → before x ≡ true → same x ≡ false
  pub on : (x y : A) → above x y ≡ true → before x ≡ false → before y ≡ false
  pub past : (x y : A) → above x y ≡ true → before x ≡ false → same y ≡ false

-- each is below all that stand behind it
abbrev pub rises : {A : Type 0} → (A → A → Bool) → List A → Bool
rises above [] = true
rises above (x ∷ xs) = each (above x) xs && rises above xs

abbrev pub where_same : {A : Type 0} → (A → Bool) → Option A → Option A
where_same same None = None
where_same same (Some x) = if same x then Some x else None

-- ---- what is found

none_past : {A : Type 0} (before same : A → Bool) (above : A → A → Bool) (s : Searched before same above) (x : A) (xs : List A) → before x ≡ false → each (above x) xs ≡ true → find same xs ≡ None
none_past before same above s x [] b e = refl
none_past before same above s x (y ∷ ys) b e =
    let p = and_parts _ _ e in
    ap (λ t. if t then Some y else find same ys) (s.past x y p.0 b) ∙ none_past before same above s x ys b p.1

pub found : {A : Type 0} (before same : A → Bool) (above : A → A → Bool) (s : Searched before same above) (xs : List A) (i : ℕ) → rises above xs ≡ true
    → AllWithin (λ y. before y ≡ true) xs 0 i → AllWithin (λ y. before y ≡ false) xs i (length xs) → find same xs ≡ where_same same (slice_get xs i)
found before same above s [] i r l h = refl
found before same above s (x ∷ xs) zero r l h =
    let p = and_parts (each (above x) xs) (rises above xs) r in
    ap (λ o. if same x then Some x else o) (none_past before same above s x xs (h 0 x (omega arith) (omega arith)) p.0)
found before same above s (x ∷ xs) (suc i) r l h =
    let p = and_parts (each (above x) xs) (rises above xs) r in
    ap (λ t. if t then Some x else find same xs) (s.apart x (l 0 x (omega arith) (omega arith)))
    ∙ found before same above s xs i p.1 (λ k d a b. l (suc k) d (omega arith) (omega (arith, b))) (λ k d a b. h (suc k) d (omega (arith, a)) (omega (arith, b)))

-- ---- partitions

at_each : {A : Type 0} (f : A → Bool) (xs : List A) (j : ℕ) (d : A) → each f xs ≡ true → j < length xs → f (slice_index_or xs j d) ≡ true
at_each f [] j d e l = absurd (omega (arith, l))
at_each f (x ∷ xs) zero d e l = (and_parts _ _ e).0
at_each f (x ∷ xs) (suc j) d e l = at_each f xs j d (and_parts _ _ e).1 (omega (arith, l))

by_case : (a b : Bool) → (a ≡ false → b ≡ false) → b ≡ true → a ≡ true
by_case true b f h = refl
by_case false b f h = absurd (let e : b ≡ false = f refl in cc)

pub parted : {A : Type 0} (before same : A → Bool) (above : A → A → Bool) (s : Searched before same above) (xs : List A) → rises above xs ≡ true → IsPartitionedBy before xs
parted before same above s [] r i j d le l h = absurd (omega (arith, l))
parted before same above s (x ∷ xs) r zero zero d le l h = h
parted before same above s (x ∷ xs) r zero (suc j) d le l h =
    let p = and_parts _ _ r in
    by_case _ _ (s.on x (slice_index_or xs j d) (at_each (above x) xs j d p.0 (omega (arith, l)))) h
parted before same above s (x ∷ xs) r (suc i) zero d le l h = absurd (omega (arith, le))
parted before same above s (x ∷ xs) r (suc i) (suc j) d le l h = parted before same above s xs (and_parts _ _ r).1 i j d (omega (arith, le)) (omega (arith, l)) h

-- ---- numbers

lt_trans : (m n k : ℕ) → nat_lt m n ≡ true → nat_lt n k ≡ true → nat_lt m k ≡ true
lt_trans m n k a b = grind (arith, nat_tests, a, b)

higher : (m n : ℕ) (ns : List ℕ) → nat_lt m n ≡ true → each (nat_lt n) ns ≡ true → each (nat_lt m) ns ≡ true
higher m n [] l e = refl
higher m n (k ∷ ks) l e =
    let p = and_parts (nat_lt n k) (each (nat_lt n) ks) e in
    let b : nat_lt m k ≡ true = lt_trans m n k l p.0 in
    and_from _ _ b (higher m n ks l p.1)

numbers_rise : (ns : List ℕ) → ascend ns ≡ true → rises nat_lt ns ≡ true
numbers_rise [] e = refl
numbers_rise (n ∷ []) e = refl
numbers_rise (m ∷ n ∷ ns) e =
    let p = and_parts (nat_lt m n) (ascend (n ∷ ns)) e in
    let r = numbers_rise (n ∷ ns) p.1 in
    and_from _ _ (and_from _ _ p.0 (higher m n ns p.0 (and_parts _ _ r).0)) r

each_map : {A B : Type 0} (f : A → B) (t : B → Bool) (xs : List A) → each t (map f xs) ≡ each (λ x. t (f x)) xs
each_map f t [] = refl
each_map f t (x ∷ xs) = ap (λ b. t (f x) && b) (each_map f t xs)

rises_map : {A B : Type 0} (f : A → B) (above : B → B → Bool) (xs : List A) → rises above (map f xs) ≡ rises (λ x y. above (f x) (f y)) xs
rises_map f above [] = refl
rises_map f above (x ∷ xs) = (λ i. each_map f (above (f x)) xs i && rises_map f above xs i)

pub keys_rise : {A : Type 0} (key : A → ℕ) (xs : List A) → ascend (map key xs) ≡ true → rises (λ x y. nat_lt (key x) (key y)) xs ≡ true
keys_rise key xs e = sym (rises_map key nat_lt xs) ∙ numbers_rise (map key xs) e

pub by_key : {A : Type 0} (key : A → ℕ) (k : ℕ) → Searched (λ x. nat_lt (key x) k) (λ x. key x == k) (λ x y. nat_lt (key x) (key y))
by_key key k = record {
  apart = λ x h. grind (arith, nat_tests, h);
  on = λ x y a h. grind (arith, nat_tests, a, h);
  past = λ x y a h. grind (arith, nat_tests, a, h);
}

-- ---- pairs

abbrev pub pair_lt : ℕ × ℕ → ℕ × ℕ → Bool
pair_lt x y = nat_lt x.0 y.0 || ((x.0 == y.0) && nat_lt x.1 y.1)

pair_trans : (x y z : ℕ × ℕ) → pair_lt x y ≡ true → pair_lt y z ≡ true → pair_lt x z ≡ true
pair_trans x y z a b = grind (arith, nat_tests, a, b)

higher_pair : (x y : ℕ × ℕ) (zs : List (ℕ × ℕ)) → pair_lt x y ≡ true → each (pair_lt y) zs ≡ true → each (pair_lt x) zs ≡ true
higher_pair x y [] l e = refl
higher_pair x y (z ∷ zs) l e = let p = and_parts _ _ e in and_from _ _ (pair_trans x y z l p.0) (higher_pair x y zs l p.1)

pairs_rise : (xs : List (ℕ × ℕ)) → pairs_ascend xs ≡ true → rises pair_lt xs ≡ true
pairs_rise [] e = refl
pairs_rise (x ∷ []) e = refl
pairs_rise (x ∷ y ∷ ys) e =
    let p = and_parts (pair_lt x y) (pairs_ascend (y ∷ ys)) e in
    let r = pairs_rise (y ∷ ys) p.1 in
    and_from _ _ (and_from _ _ p.0 (higher_pair x y ys p.0 (and_parts _ _ r).0)) r

pub pair_keys_rise : {A : Type 0} (key : A → ℕ × ℕ) (xs : List A) → pairs_ascend (map key xs) ≡ true → rises (λ x y. pair_lt (key x) (key y)) xs ≡ true
pair_keys_rise key xs e = sym (rises_map key pair_lt xs) ∙ pairs_rise (map key xs) e

pub by_pair : {A : Type 0} (key : A → ℕ × ℕ) (k : ℕ × ℕ) → Searched (λ x. pair_lt (key x) k) (λ x. ((key x).0 == k.0) && ((key x).1 == k.1)) (λ x y. pair_lt (key x) (key y))
by_pair key k = record {
  apart = λ x h. grind (arith, nat_tests, h);
  on = λ x y a h. grind (arith, nat_tests, a, h);
  past = λ x y a h. grind (arith, nat_tests, a, h);
}

-- ---- what a search gives

pub indexed : {A : Type 0} (xs : List A) (i : ℕ) (x : A) → i < length xs → x ≡ slice_index_or xs i x → slice_get xs i ≡ Some x
indexed [] i x l e = absurd (omega (arith, l))
indexed (y ∷ ys) zero x l e = ap Some (sym e)
indexed (y ∷ ys) (suc i) x l e = indexed ys i x (omega (arith, l)) e

past_end : {A : Type 0} (xs : List A) (i : ℕ) → i ≡ length xs → slice_get xs i ≡ None
past_end [] i e = refl
past_end (x ∷ xs) zero e = absurd (omega (arith, e))
past_end (x ∷ xs) (suc i) e = past_end xs i (omega (arith, e))

-- where the list rises, and is parted at i
pub record At {A : Type 0} (before same : A → Bool) (above : A → A → Bool) (xs : List A) (i : ℕ) : Type 0 where
  pub searched : Searched before same above
  pub rising : rises above xs ≡ true
  pub low : AllWithin (λ y. before y ≡ true) xs 0 i
  pub high : AllWithin (λ y. before y ≡ false) xs i (length xs)

pub none_at_end : {A : Type 0} (before same : A → Bool) (above : A → A → Bool) (xs : List A) (i : ℕ) → At before same above xs i → i ≡ length xs → None ≡ find same xs
none_at_end before same above xs i a e =
    sym (found before same above a.searched xs i a.rising a.low a.high ∙ ap (where_same same) (past_end xs i e))

pub none_other : {A : Type 0} (before same : A → Bool) (above : A → A → Bool) (xs : List A) (i : ℕ) (x : A) → At before same above xs i → i < length xs → x ≡ slice_index_or xs i x
    → same x ≡ false → None ≡ find same xs
none_other before same above xs i x a l e s =
    sym (found before same above a.searched xs i a.rising a.low a.high ∙ ap (where_same same) (indexed xs i x l e) ∙ ap (λ b. if b then Some x else None) s)

pub some_same : {A : Type 0} (before same : A → Bool) (above : A → A → Bool) (xs : List A) (i : ℕ) (x : A) → At before same above xs i → i < length xs → x ≡ slice_index_or xs i x
    → same x ≡ true → Some x ≡ find same xs
some_same before same above xs i x a l e s =
    sym (found before same above a.searched xs i a.rising a.low a.high ∙ ap (where_same same) (indexed xs i x l e) ∙ ap (λ b. if b then Some x else None) s)

-- in range it does not matter what stands for the rest
pub either_default : {A : Type 0} (xs : List A) (i : ℕ) (d e : A) → i < length xs → slice_index_or xs i d ≡ slice_index_or xs i e
either_default [] i d e l = absurd (omega (arith, l))
either_default (x ∷ xs) zero d e l = refl
either_default (x ∷ xs) (suc i) d e l = either_default xs i d e (omega (arith, l))
