-- Names as lists of bytes: when two are the same, and where the first of some stands.
use Rattle.std.proofs.Common.{◌≡◌, ℕ, zero, suc, ◌==◌, Bool, true, false, cond, ◌&&◌, List, [], ◌∷◌, ◌++◌, ◌+◌, map, length, length-append, Ordering, slice_get, Option, Some, None, if◌then◌else◌, is_some, refl, sym, ap, ap₂, subst, ◌∙◌, Vec, Global, BTreeMap}
use Rattle.std.specs.Prelude.{option_map, bytes_eq}
use Rattle.std.specs.Option.{option_or, option_and_then}
use Rattle.std.specs.Ordering.{is_eq, nat_cmp, eq_by_cmp}
use Rattle.std.specs.Cmp.{eq_by_cmp_equiv}
use Rattle.std.specs.Cmp.Lexicographic.{slice_cmp, bytes_decides, nat_list_cmp_total, nat_list_eq_equiv}
use Rattle.std.specs.Map.{lookup, KeepsOthers, IsKeyTest, AreApart}
use Rattle.std.specs.BTreeMap.{get_by, is_at, UpdatesBy}
use Rattle.std.proofs.lemmas.Map.Text.{is_eq-slice_cmp}
use Rattle.cocoon_num.specs.Tree.{Name}
use Rattle.cocoon_num.specs.Names.{same_name, named}
use Rattle.numbering.specs.declared.name_table.NameTable.{NameTable}
use Rattle.numbering.specs.NameNumbers.{index_of, number_of, Numbers}

or-none : {A : Type 0} (o : Option A) → option_or o None ≡ o
or-none None = refl
or-none (Some a) = refl

-- ---- the same name

pub bytes_same : (x y : List ℕ) → bytes_eq x y ≡ same_name x y
bytes_same [] [] = refl
bytes_same [] (b ∷ y) = refl
bytes_same (a ∷ x) [] = refl
bytes_same (a ∷ x) (b ∷ y) = ap (λ t. (a == b) && t) (bytes_same x y)

pub same-refl : (x : List ℕ) → same_name x x ≡ true
same-refl x = sym (bytes_same x x) ∙ (bytes_decides x x).1 refl

pub same-true : (x y : List ℕ) → same_name x y ≡ true → x ≡ y
same-true x y h = (bytes_decides x y).0 (bytes_same x y ∙ h)

pub same-compare : (x y : List ℕ) → is_eq (slice_cmp nat_cmp x y) ≡ same_name x y
same-compare x y = is_eq-slice_cmp x y ∙ bytes_same x y

pub same-symm : (x y : List ℕ) → same_name x y ≡ same_name y x
same-symm x y = sym (bytes_same x y) ∙ nat_list_eq_equiv.symm x y ∙ bytes_same y x

-- ---- a map whose keys are names

-- the value under a name
abbrev pub value_at : {X : Type 0} → BTreeMap (Vec ℕ Global) X → List ℕ → Option X
value_at m x = get_by (λ (k : Vec ℕ Global). slice_cmp nat_cmp x k.items) m

abbrev pub key_cmp : Vec ℕ Global → Vec ℕ Global → Ordering
key_cmp j k = slice_cmp nat_cmp j.items k.items

other_values : {X : Type 0} (test : Vec ℕ Global → Bool) (old new : List (Vec ℕ Global × X)) → KeepsOthers (eq_by_cmp key_cmp) test old new
    → (other : Vec ℕ Global → Bool) → IsKeyTest (eq_by_cmp key_cmp) other → AreApart test other → lookup other new ≡ lookup other old
unfolding KeepsOthers
other_values test old new h = h

apart : (x y k : List ℕ) → same_name x y ≡ false → is_eq (slice_cmp nat_cmp y k) ≡ true → is_eq (slice_cmp nat_cmp x k) ≡ false
apart x y k n h = same-compare x k ∙ subst (λ l. same_name x l ≡ false) (same-true y k (sym (same-compare y k) ∙ h)) n

-- what an insertion leaves under each name
pub value-updated : {X : Type 0} (m n : BTreeMap (Vec ℕ Global) X) (k : Vec ℕ Global) (w : Option X)
    → UpdatesBy key_cmp (key_cmp k) m n w
    → (x : List ℕ) → value_at n x ≡ cond (same_name x k.items) w (value_at m x)
value-updated m n k w h x = by (same_name x k.items) refl
  where
    by : (b : Bool) → same_name x k.items ≡ b → value_at n x ≡ cond (same_name x k.items) w (value_at m x)
    by true e = ap (value_at n) (same-true x k.items e) ∙ h.1 ∙ sym (ap (λ c. cond c w (value_at m x)) e)
    by false e = other_values (is_at (key_cmp k)) m.entries n.entries h.3 (is_at (λ q. slice_cmp nat_cmp x q.items)) (λ p q. (eq_by_cmp_equiv nat_list_cmp_total).congr x p.items q.items) (λ q. apart x k.items q.items e)
        ∙ sym (ap (λ c. cond c w (value_at m x)) e)

-- ---- the first of some names

index-cons : (x n : List ℕ) (ns : List (List ℕ)) (b : Bool) → same_name x n ≡ b → index_of x (n ∷ ns) ≡ (if b then Some 0 else option_map suc (index_of x ns))
index-cons x n ns b e = ap (λ c. if c then Some 0 else option_map suc (index_of x ns)) e

later : (b : Bool) (o : Option ℕ) (k : ℕ) → option_map suc (option_or o (if b then Some k else None)) ≡ option_or (option_map suc o) (if b then Some (suc k) else None)
later true None k = refl
later false None k = refl
later b (Some i) k = refl

-- one name more at the end
pub index-append : (x : List ℕ) (ns : List (List ℕ)) (n : List ℕ)
    → index_of x (ns ++ n ∷ []) ≡ option_or (index_of x ns) (if same_name x n then Some (length ns) else None)
index-append x [] n = refl
index-append x (m ∷ ns) n = by (same_name x m) (index-append x ns n)
  where
    by : (b : Bool) → index_of x (ns ++ n ∷ []) ≡ option_or (index_of x ns) (if same_name x n then Some (length ns) else None)
        → (if b then Some 0 else option_map suc (index_of x (ns ++ n ∷ []))) ≡ option_or (if b then Some 0 else option_map suc (index_of x ns)) (if same_name x n then Some (suc (length ns)) else None)
    by true h = refl
    by false h = ap (option_map suc) h ∙ later (same_name x n) (index_of x ns) (length ns)

-- the name that stands at its index
pub index-at : (x : List ℕ) (ns : List (List ℕ)) (i : ℕ) → index_of x ns ≡ Some i → slice_get ns i ≡ Some x
index-at x [] i h = absurd cc
index-at x (n ∷ ns) i h = by (index-at x ns) (same_name x n) refl
  where
    next : ((j : ℕ) → index_of x ns ≡ Some j → slice_get ns j ≡ Some x) → (o : Option ℕ) → index_of x ns ≡ o → option_map suc o ≡ Some i → slice_get (n ∷ ns) i ≡ Some x
    next ih None e q = absurd cc
    next ih (Some j) e q = let same : suc j ≡ i = cc in subst (λ k. slice_get (n ∷ ns) k ≡ Some x) same (ih j e)

    by : ((j : ℕ) → index_of x ns ≡ Some j → slice_get ns j ≡ Some x) → (b : Bool) → same_name x n ≡ b → slice_get (n ∷ ns) i ≡ Some x
    by ih true e = let first : zero ≡ i = cc (index-cons x n ns true e) in subst (λ k. slice_get (n ∷ ns) k ≡ Some x) first (ap Some (sym (same-true x n e)))
    by ih false e = next ih (index_of x ns) refl (sym (index-cons x n ns false e) ∙ h)

-- the first that is called x is the one at that index
pub named-index : {A : Type 0} (name_of : A → Name) (x : List ℕ) (items : List A)
    → named name_of x items ≡ option_and_then (slice_get items) (index_of x (map (λ a. (name_of a).text) items))
named-index name_of x [] = refl
named-index name_of x (a ∷ items) = by (same_name x (name_of a).text) (index_of x (map (λ b. (name_of b).text) items)) (named-index name_of x items)
  where
    by : (b : Bool) (o : Option ℕ) → named name_of x items ≡ option_and_then (slice_get items) o
        → (if b then Some a else named name_of x items) ≡ option_and_then (slice_get (a ∷ items)) (if b then Some 0 else option_map suc o)
    by true o h = refl
    by false None h = h
    by false (Some i) h = h

-- ---- a table with one name more

pick-same : (b : Bool) (n : ℕ) → cond b (Some n) None ≡ option_or None (if b then Some n else None)
pick-same true n = refl
pick-same false n = refl

-- a name that is not there
pub names-new : (old : NameTable) (held : BTreeMap (Vec ℕ Global) ℕ) (next : ℕ) (k : Vec ℕ Global) (x : List ℕ) (ns : List (List ℕ))
    → Numbers old ns → number_of old x ≡ None → k.items ≡ x → UpdatesBy key_cmp (key_cmp k) old.held held (Some old.count) → next ≡ old.count + 1
    → Numbers (record { held = held; count = next }) (ns ++ x ∷ [])
names-new old held next k x ns h none same up more = record {
  numbers = λ y. value-updated old.held held k (Some old.count) up y ∙ by y (same_name y x) refl ∙ sym (index-append y ns x);
  count = more ∙ ap (λ n. n + 1) h.count ∙ sym (length-append ns (x ∷ []));
}
  where
    by : (y : List ℕ) (b : Bool) → same_name y x ≡ b
        → cond (same_name y k.items) (Some old.count) (number_of old y) ≡ option_or (index_of y ns) (if same_name y x then Some (length ns) else None)
    by y true e =
        ap₂ (λ z o. cond (same_name y z) (Some old.count) o) same (ap (number_of old) (same-true y x e) ∙ none)
        ∙ pick-same (same_name y x) old.count
        ∙ ap₂ (λ n o. option_or o (if same_name y x then Some n else None)) h.count (sym none ∙ ap (number_of old) (sym (same-true y x e)) ∙ h.numbers y)
    by y false e =
        ap₂ (λ z o. cond (same_name y z) (Some old.count) o) same (h.numbers y)
        ∙ ap (λ c. cond c (Some old.count) (index_of y ns)) e
        ∙ sym (or-none (index_of y ns))
        ∙ ap (λ c. option_or (index_of y ns) (if c then Some (length ns) else None)) (sym e)

-- a name that is there
pub names-old : (old : NameTable) (next : ℕ) (x : List ℕ) (ns : List (List ℕ))
    → Numbers old ns → is_some (number_of old x) ≡ true → next ≡ old.count + 1
    → Numbers (record { held = old.held; count = next }) (ns ++ x ∷ [])
names-old old next x ns h some more = record {
  numbers = λ y. h.numbers y ∙ by y (same_name y x) refl ∙ sym (index-append y ns x);
  count = more ∙ ap (λ n. n + 1) h.count ∙ sym (length-append ns (x ∷ []));
}
  where
    stays : (o p : Option ℕ) → is_some o ≡ true → o ≡ option_or o p
    stays None p e = absurd cc
    stays (Some n) p e = refl

    by : (y : List ℕ) (b : Bool) → same_name y x ≡ b → index_of y ns ≡ option_or (index_of y ns) (if same_name y x then Some (length ns) else None)
    by y true e = stays (index_of y ns) _ (ap is_some (sym (h.numbers y) ∙ ap (number_of old) (same-true y x e)) ∙ some)
    by y false e = sym (or-none (index_of y ns)) ∙ ap (λ c. option_or (index_of y ns) (if c then Some (length ns) else None)) (sym e)
