-- Arrays of two items and objects of two members, by what was read of them.
use Rattle.std.proofs.Common.{◌≡◌, ℕ, Bool, true, false, ◌&&◌, ◌||◌, not, List, [], ◌∷◌, Option, Some, None, option_map, if◌then◌else◌, Ordering, Less, Equal, Greater, nat_cmp, is_eq, bytes_eq, true≢false, ne_eqb, suc, ◌==◌, refl, sym, ap, ap₂, subst, ◌∙◌, arith}
use Rattle.std.proofs.lemmas.Cmp.{nat_list_cmp_total, tied_itself}
use Rattle.std.proofs.lemmas.Map.Text.{is_eq-slice_cmp}
use Rattle.std.proofs.lemmas.Slice.Eq.{bytes_eq-Decides}
use Rattle.std.specs.Cmp.Lexicographic.{slice_cmp}
use Rattle.std.specs.Ordering.{match_ordering, ordering_reverse}
use Rattle.serde_json.specs.Data.{Data, array, Items, no_items, item, Members, no_members, member, put}
use Rattle.serde_json.specs.Events.{items_len}
use Rattle.json_forms.specs.Forms.{are_keys, both_of}
use Rattle.json_scan.specs.Pairs.{array_form, ascends, pair_of, members_of, two_members, has_other, Holds}

if_more : {A : Type 0} (n : ℕ) (o : Option A) → (if suc (suc (suc n)) == 2 then o else None) ≡ None
if_more n o = rw (ne_eqb (suc (suc (suc n))) 2 (λ e. omega (arith, e))) refl

pub array_pair : {A B : Type 0} (f : Data → Option A) (g : Data → Option B) (ds : Items) → array_form f g (array ds) ≡ pair_of f g ds
array_pair f g no_items = refl
array_pair f g (item d no_items) = refl
array_pair f g (item d (item e no_items)) = refl
array_pair f g (item d (item e (item h ds))) = if_more (items_len ds) (Some (f d, g e))

three : (a b : Bool) → (a && (b && false)) ≡ false
three true true = refl
three true false = refl
three false b = refl

two : (a b c d : Bool) → (not (a || b) || (not (c || d) || false)) ≡ true → (a && (d && true)) ≡ false
two true b c true h = absurd (never c h)
  where
    never : (c : Bool) → (not true || (not (c || true) || false)) ≡ true → ⊥
    never true h = true≢false (sym h)
    never false h = true≢false (sym h)
two true b c false h = refl
two false b c d h = refl

module _ (k l : List ℕ) (ascending : ascends k l ≡ true) where
  less_by : (o : Ordering) → match_ordering o true false false ≡ true → o ≡ Less
  less_by Less h = refl
  less_by Equal h = absurd (true≢false (sym h))
  less_by Greater h = absurd (true≢false (sym h))

  before : slice_cmp nat_cmp k l ≡ Less
  before = less_by (slice_cmp nat_cmp k l) ascending

  same_key : (q : List ℕ) → slice_cmp nat_cmp q q ≡ Equal
  same_key q = tied_itself nat_list_cmp_total q

  descending : slice_cmp nat_cmp l k ≡ Greater
  descending = nat_list_cmp_total.antisymm l k ∙ ap ordering_reverse before

  put_same : (q : List ℕ) (d e : Data) (ms : Members) → put q d (member q e ms) ≡ member q d ms
  put_same q d e ms = rw (same_key q) refl

  put_below : (d e : Data) (ms : Members) → put k d (member l e ms) ≡ member k d (member l e ms)
  put_below d e ms = rw before refl

  put_above : (d e : Data) (ms : Members) → put l e (member k d ms) ≡ member k d (put l e ms)
  put_above d e ms = rw descending refl

  put_first : (d : Data) (x y : Option Data) → put k d (two_members k l x y) ≡ two_members k l (Some d) y
  put_first d None None = refl
  put_first d (Some x) None = put_same k d x no_members
  put_first d None (Some y) = put_below d y no_members
  put_first d (Some x) (Some y) = put_same k d x (member l y no_members)

  put_second : (e : Data) (x y : Option Data) → put l e (two_members k l x y) ≡ two_members k l x (Some e)
  put_second e None None = refl
  put_second e (Some x) None = put_above x e no_members
  put_second e None (Some y) = put_same l e y no_members
  put_second e (Some x) (Some y) = put_above x e (member l y no_members) ∙ ap (member k x) (put_same l e y no_members)

  -- ---- keys that are none of the two

  abbrev is_other : List ℕ → Bool
  is_other q = not (bytes_eq q k || bytes_eq q l)

  or_right : (a b : Bool) → b ≡ true → (a || b) ≡ true
  or_right true b h = refl
  or_right false b h = h

  or_again : (a b c : Bool) → (b ≡ true → c ≡ true) → (a || b) ≡ true → (a || c) ≡ true
  or_again true b c f h = refl
  or_again false b c f h = f h

  or_left : (a b : Bool) → a ≡ true → (a || b) ≡ true
  or_left true b h = refl
  or_left false b h = absurd (true≢false (sym h))

  -- a key that is there stays
  keeps_by : (o : Ordering) (q r : List ℕ) (d e : Data) (ms : Members) → (has_other k l ms ≡ true → has_other k l (put q d ms) ≡ true) → has_other k l (member r e ms) ≡ true
      → has_other k l (match_ordering o (member q d (member r e ms)) (member r d ms) (member r e (put q d ms))) ≡ true
  keeps_by Less q r d e ms f h = or_right (is_other q) (has_other k l (member r e ms)) h
  keeps_by Equal q r d e ms f h = h
  keeps_by Greater q r d e ms f h = or_again (is_other r) (has_other k l ms) (has_other k l (put q d ms)) f h

  keeps_other : (q : List ℕ) (d : Data) (ms : Members) → has_other k l ms ≡ true → has_other k l (put q d ms) ≡ true
  keeps_other q d no_members h = absurd (true≢false (sym h))
  keeps_other q d (member r e ms) h = keeps_by (slice_cmp nat_cmp q r) q r d e ms (keeps_other q d ms) h

  -- a key that is none of the two comes
  same_keys : (q r : List ℕ) → slice_cmp nat_cmp q r ≡ Equal → is_other q ≡ is_other r
  same_keys q r e = ap is_other ((bytes_eq-Decides q r).0 (sym (is_eq-slice_cmp q r) ∙ ap is_eq e))

  puts_by : (o : Ordering) (q r : List ℕ) (d e : Data) (ms : Members) → slice_cmp nat_cmp q r ≡ o → is_other q ≡ true → has_other k l (put q d ms) ≡ true
      → has_other k l (match_ordering o (member q d (member r e ms)) (member r d ms) (member r e (put q d ms))) ≡ true
  puts_by Less q r d e ms o h more = or_left (is_other q) (has_other k l (member r e ms)) h
  puts_by Equal q r d e ms o h more = or_left (is_other r) (has_other k l ms) (sym (same_keys q r o) ∙ h)
  puts_by Greater q r d e ms o h more = or_right (is_other r) (has_other k l (put q d ms)) more

  puts_other : (q : List ℕ) (d : Data) (ms : Members) → is_other q ≡ true → has_other k l (put q d ms) ≡ true
  puts_other q d no_members h = or_left (is_other q) false h
  puts_other q d (member r e ms) h = puts_by (slice_cmp nat_cmp q r) q r d e ms refl h (puts_other q d ms h)

  -- ---- what is held of the members, and one member more

  module _ {MA MB : Type 0} (f : Data → Option MA) (g : Data → Option MB) (ms : Members) (d : Data) where
    pub first_more : (others : Bool) (x : Option (Option MA)) (y : Option (Option MB)) → Holds f g k l ms others x y → Holds f g k l (put k d ms) others (Some (f d)) y
    first_more true x y h = keeps_other k d ms h
    first_more false x y h = record {
      under_first = Some d;
      under_second = h.under_second;
      are = ap (put k d) h.are ∙ put_first d h.under_first h.under_second;
      first_is = refl;
      second_is = h.second_is;
    }

    pub second_more : (others : Bool) (x : Option (Option MA)) (y : Option (Option MB)) → Holds f g k l ms others x y → Holds f g k l (put l d ms) others x (Some (g d))
    second_more true x y h = keeps_other l d ms h
    second_more false x y h = record {
      under_first = h.under_first;
      under_second = Some d;
      are = ap (put l d) h.are ∙ put_second d h.under_first h.under_second;
      first_is = h.first_is;
      second_is = refl;
    }

    pub member_first : (key : List ℕ) (others : Bool) (x : Option (Option MA)) (y : Option (Option MB)) (a : Option MA) → bytes_eq key k ≡ true → f d ≡ a → Holds f g k l ms others x y
        → Holds f g k l (put key d ms) others (Some a) y
    member_first key others x y a e is h =
        let same = (bytes_eq-Decides key k).0 e in
        subst (λ q. Holds f g k l (put q d ms) others (Some a) y) (sym same) (subst (λ b. Holds f g k l (put k d ms) others (Some b) y) is (first_more others x y h))

    pub member_second : (key : List ℕ) (others : Bool) (x : Option (Option MA)) (y : Option (Option MB)) (b : Option MB) → bytes_eq key l ≡ true → g d ≡ b → Holds f g k l ms others x y
        → Holds f g k l (put key d ms) others x (Some b)
    member_second key others x y b e is h =
        let same = (bytes_eq-Decides key l).0 e in
        subst (λ q. Holds f g k l (put q d ms) others x (Some b)) (sym same) (subst (λ a. Holds f g k l (put l d ms) others x (Some a)) is (second_more others x y h))

    pub other_more : (q : List ℕ) (others : Bool) (x : Option (Option MA)) (y : Option (Option MB)) → bytes_eq q k ≡ false → bytes_eq q l ≡ false → Holds f g k l (put q d ms) true x y
    other_more q others x y a b = puts_other q d ms (rw (a, b) refl)

  -- ---- the end

  eq_itself : (q : List ℕ) → bytes_eq q q ≡ true
  eq_itself q = (bytes_eq-Decides q q).1 refl

  and_false : (b : Bool) → (b && false) ≡ false
  and_false true = refl
  and_false false = refl

  no_two : (ms : Members) → has_other k l ms ≡ true → are_keys (k ∷ l ∷ []) ms ≡ false
  no_two no_members h = refl
  no_two (member q d no_members) h = and_false (bytes_eq q k)
  no_two (member q d (member r e (member s t ms))) h = three (bytes_eq q k) (bytes_eq r l)
  no_two (member q d (member r e no_members)) h = two (bytes_eq q k) (bytes_eq q l) (bytes_eq r k) (bytes_eq r l) h

  module _ {MA MB : Type 0} (f : Data → Option MA) (g : Data → Option MB) where
    ends_with_two : (d e : Data) → members_of f g k l (two_members k l (Some d) (Some e)) ≡ Some (f d, g e)
    ends_with_two d e = rw (eq_itself k, eq_itself l, same_key k, same_key l, descending) refl

    pair_end : (x : Option Data) (y : Option Data) → members_of f g k l (two_members k l x y) ≡ both_of (λ a b. (a, b)) (option_map f x) (option_map g y)
    pair_end None None = refl
    pair_end (Some d) None = rw (and_false (bytes_eq k k)) refl
    pair_end None (Some e) = rw (and_false (bytes_eq l k)) refl
    pair_end (Some d) (Some e) = ends_with_two d e

    pub ends : (ms : Members) (others : Bool) (x : Option (Option MA)) (y : Option (Option MB)) → Holds f g k l ms others x y
        → members_of f g k l ms ≡ (if others then None else both_of (λ a b. (a, b)) x y)
    ends ms true x y h = rw (no_two ms h) refl
    ends ms false x y h = ap (members_of f g k l) h.are ∙ pair_end h.under_first h.under_second ∙ ap₂ (both_of (λ a b. (a, b))) h.first_is h.second_is

abbrev pair_given : {A B : Type 0} → Bool → Option A → Option B → Option (A × B)
pair_given others x y = if others then None else both_of (λ a b. (a, b)) x y

pub paired : {A B MA MB : Type 0} (m : A → MA) (n : B → MB) (others : Bool) (x : Option (Option A)) (y : Option (Option B))
    → pair_given others (option_map (option_map m) x) (option_map (option_map n) y) ≡ option_map (λ p. (option_map m p.0, option_map n p.1)) (pair_given others x y)
paired m n true x y = refl
paired m n false None y = refl
paired m n false (Some x) None = refl
paired m n false (Some x) (Some y) = refl
