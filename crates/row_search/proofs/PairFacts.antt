-- Rows as their values with results: what is found among them, and by a search among those in order.
use Rattle.std.proofs.Common.{All, ◌≡◌, ℕ, zero, suc, ◌+◌, ◌-◌, ◌*◌, ◌<◌, ◌≤◌, Bool, true, false, cond, List, [], ◌∷◌, ◌++◌, Vec, Global, Ordering, length, length-append, take, drop, get_or, Option, Some, None, refl, sym, ◌∙◌, ap, subst, arith}
use Rattle.std.specs.BTreeMap.{is_at}
use Rattle.std.specs.Cmp.Lexicographic.{slice_cmp}
use Rattle.std.specs.List.Sorted.{IsStrictlySortedBy}
use Rattle.std.specs.Map.{keys_of, lookup}
use Rattle.std.specs.Ordering.{is_eq, nat_cmp, ordering_reverse}
use Rattle.std.specs.declared.cmp.Ordering.TheVariants.{Less, Equal, Greater}
use Rattle.std.proofs.Math.Nat.{add_comm, mul-le-mul_right, suc-mul, zero-add, zero-mul}
use Rattle.std.proofs.Math.Numerals.{suc-eq-add-one}
use Rattle.std.proofs.Math.Seq.{drop-append_seam, drop-nil, take-append_seam}
use Rattle.std.proofs.lemmas.Cmp.{nat_list_cmp_total}
use Rattle.std.proofs.lemmas.List.{drop_more}
use Rattle.std.proofs.lemmas.Map.Keys.{Less-from_sorted}
use Rattle.row_search.specs.Laid.{Ascend, laid_at}
use Rattle.row_search.specs.Pairs.{found, pairs_of}
use Rattle.row_search.specs.Searched.{Searched}

-- ---- parts of lists

next : (n m : ℕ) → suc (n + m) ≡ suc n + m
next n m = omega arith

pub drop_both : {A : Type 0} (m n : ℕ) (xs : List A) → drop m (drop n xs) ≡ drop (n + m) xs
drop_both m zero xs = ap (λ k. drop k xs) (sym (zero-add m))
drop_both m (suc n) [] = drop-nil m ∙ sym (drop-nil (suc n + m))
drop_both m (suc n) (x ∷ xs) = drop_both m n xs ∙ ap (λ k. drop k (x ∷ xs)) (next n m)

pub first_part : {A : Type 0} (n : ℕ) (xs ys : List A) → length xs ≡ n → take n (xs ++ ys) ≡ xs
first_part n xs ys e = ap (λ k. take k (xs ++ ys)) (sym e) ∙ take-append_seam xs ys

pub later_part : {A : Type 0} (n : ℕ) (xs ys : List A) → length xs ≡ n → drop n (xs ++ ys) ≡ ys
later_part n xs ys e = ap (λ k. drop k (xs ++ ys)) (sym e) ∙ drop-append_seam xs ys

-- ---- rows of one length, side by side

pub row_more : (k n : ℕ) → suc k * n ≡ n + k * n
row_more k n = suc-mul k n ∙ add_comm (k * n) n

pub row_on : (at i n : ℕ) → at ≡ i * n → at + n ≡ (i + 1) * n
row_on at i n e = ap (λ k. k + n) e ∙ sym (suc-mul i n) ∙ ap (λ k. k * n) (suc-eq-add-one i)

pub row_back : (at i n : ℕ) → at ≡ i * n → 0 < i → (at - n ≡ (i - 1) * n) × (at ≡ (at - n) + n)
row_back at zero n e l = absurd (omega arith)
row_back at (suc i) n e l =
    let whole : at ≡ n + i * n = e ∙ row_more i n in
    let before : at - n ≡ i * n = omega arith in
    let last : suc i - 1 ≡ i = omega arith in
    (before ∙ ap (λ k. k * n) (sym last), omega arith)

pub row_within : (i k n len : ℕ) → i < k → len ≡ k * n → i * n + n ≤ len
row_within i k n len l e =
    let more : suc i * n ≤ k * n = mul-le-mul_right n l in
    let one : suc i * n ≡ n + i * n = row_more i n in
    omega arith

pub counted_more : (a b k n : ℕ) → a ≡ n → b ≡ k * n → a + b ≡ suc k * n
counted_more a b k n e f = (λ i. e i + f i) ∙ sym (row_more k n)

pub laid_first : (n : ℕ) (values : List ℕ) → laid_at n values 0 ≡ take n values
laid_first n values = ap (λ k. take n (drop k values)) (zero-mul n)

pub laid_tail : (n : ℕ) (values : List ℕ) (i : ℕ) → laid_at n (drop n values) i ≡ laid_at n values (suc i)
laid_tail n values i = ap (take n) (drop_both (i * n) n values ∙ ap (λ k. drop k values) (sym (row_more i n)))

-- the pairs from a row on
pub pairs_back : (n : ℕ) (values results : List ℕ) (at i : ℕ) → at ≡ i * n → 0 < i → i ≤ length results
    → pairs_of n (drop (at - n) values) (drop (i - 1) results)
    ≡ (take n (drop (at - n) values), get_or results (i - 1) 0) ∷ pairs_of n (drop at values) (drop i results)
pairs_back n values results at i e l m =
    let back = row_back at i n e l in
    let more : i - 1 + 1 ≡ i = omega arith in
    let rest : drop n (drop (at - n) values) ≡ drop at values = drop_both n (at - n) values ∙ ap (λ k. drop k values) (sym back.1) in
    ap (pairs_of n (drop (at - n) values)) (drop_more results (i - 1) 0 (omega arith) ∙ ap (λ k. get_or results (i - 1) 0 ∷ drop k results) more)
    ∙ ap (λ vs. (take n (drop (at - n) values), get_or results (i - 1) 0) ∷ pairs_of n vs (drop i results)) rest

-- ---- those of a map

-- the values of all, and the results
abbrev pub all_values : List (Vec ℕ Global × ℕ) → List ℕ
all_values [] = []
all_values (e ∷ es) = e.0.items ++ all_values es

abbrev pub all_results : List (Vec ℕ Global × ℕ) → List ℕ
all_results [] = []
all_results (e ∷ es) = e.1 ∷ all_results es

abbrev pub Counted : ℕ → List (Vec ℕ Global × ℕ) → Type 0
Counted n es = All (λ (k : Vec ℕ Global). length k.items ≡ n) (keys_of es)

counted_first : (n : ℕ) (e : Vec ℕ Global × ℕ) (es : List (Vec ℕ Global × ℕ)) → Counted n (e ∷ es) → length e.0.items ≡ n
counted_first n e es h = h 0 e.0 (omega arith)

counted_rest : (n : ℕ) (e : Vec ℕ Global × ℕ) (es : List (Vec ℕ Global × ℕ)) → Counted n (e ∷ es) → Counted n es
counted_rest n e es h = λ k d l. h (suc k) d (omega arith)

pub all_counted : (n : ℕ) (es : List (Vec ℕ Global × ℕ)) → Counted n es → length (all_values es) ≡ length (all_results es) * n
all_counted n [] h = sym (zero-mul n)
all_counted n (e ∷ es) h =
    length-append e.0.items (all_values es)
    ∙ counted_more (length e.0.items) (length (all_values es)) (length (all_results es)) n (counted_first n e es h) (all_counted n es (counted_rest n e es h))

pub all_found : (n : ℕ) (es : List (Vec ℕ Global × ℕ)) (xs : List ℕ) → Counted n es
    → found (pairs_of n (all_values es) (all_results es)) xs ≡ lookup (is_at (λ (k : Vec ℕ Global). slice_cmp nat_cmp xs k.items)) es
all_found n [] xs h = refl
all_found n (e ∷ es) xs h =
    let own = counted_first n e es h in
    (λ i. cond (is_eq (slice_cmp nat_cmp xs (first_part n e.0.items (all_values es) own i))) (Some e.1)
    (found (pairs_of n (later_part n e.0.items (all_values es) own i) (all_results es)) xs))
    ∙ ap (λ o. cond (is_eq (slice_cmp nat_cmp xs e.0.items)) (Some e.1) o) (all_found n es xs (counted_rest n e es h))

key_at : (n : ℕ) (es : List (Vec ℕ Global × ℕ)) (i : ℕ) (d : Vec ℕ Global) → Counted n es → i < length (all_results es) → laid_at n (all_values es) i ≡ (get_or (keys_of es) i d).items
key_at n [] i d h l = absurd (omega arith)
key_at n (e ∷ es) zero d h l = laid_first n (e.0.items ++ all_values es) ∙ first_part n e.0.items (all_values es) (counted_first n e es h)
key_at n (e ∷ es) (suc i) d h l =
    sym (laid_tail n (e.0.items ++ all_values es) i)
    ∙ ap (λ vs. laid_at n vs i) (later_part n e.0.items (all_values es) (counted_first n e es h))
    ∙ key_at n es i d (counted_rest n e es h) (omega arith)

keys_counted : (es : List (Vec ℕ Global × ℕ)) → length (keys_of es) ≡ length (all_results es)
keys_counted [] = refl
keys_counted (e ∷ es) = ap suc (keys_counted es)

abbrev pub key_cmp : Vec ℕ Global → Vec ℕ Global → Ordering
key_cmp j k = slice_cmp nat_cmp j.items k.items

pub all_ascend : (n : ℕ) (es : List (Vec ℕ Global × ℕ)) → Counted n es → IsStrictlySortedBy key_cmp (keys_of es) → Ascend (laid_at n (all_values es)) (length (all_results es))
all_ascend n [] h s i j l m = absurd (omega arith)
all_ascend n (e ∷ es) h s i j l m =
    let many : length (keys_of (e ∷ es)) ≡ length (all_results (e ∷ es)) = keys_counted (e ∷ es) in
    (λ k. slice_cmp nat_cmp (key_at n (e ∷ es) i e.0 h (omega arith) k) (key_at n (e ∷ es) j e.0 h m k))
    ∙ Less-from_sorted key_cmp (keys_of (e ∷ es)) i j e.0 s l (subst (λ k. j < k) (sym many) m)

-- ---- what a search finds

flipped : (r s : Ordering) → r ≡ ordering_reverse s → r ≡ Equal → s ≡ Equal
flipped r Less h g = absurd (cc)
flipped r Equal h g = refl
flipped r Greater h g = absurd (cc)

pub turned_equal : (xs ys : List ℕ) → slice_cmp nat_cmp xs ys ≡ Equal → slice_cmp nat_cmp ys xs ≡ Equal
turned_equal xs ys h = flipped (slice_cmp nat_cmp xs ys) (slice_cmp nat_cmp ys xs) (nat_list_cmp_total.antisymm xs ys) h

not_equal : (r : Ordering) → (r ≡ Equal → ⊥) → is_eq r ≡ false
not_equal Less h = refl
not_equal Equal h = absurd (h refl)
not_equal Greater h = refl

skipped : (b : Bool) (o p : Option ℕ) → b ≡ false → cond b o p ≡ p
skipped true o p h = absurd (cc)
skipped false o p h = refl

taken : (b : Bool) (o p : Option ℕ) → b ≡ true → cond b o p ≡ o
taken true o p h = refl
taken false o p h = absurd (cc)

-- the first row is at index 0, the others are one further on
at_first : (n : ℕ) (values xs : List ℕ) → (slice_cmp nat_cmp (laid_at n values 0) xs ≡ Equal → ⊥) → is_eq (slice_cmp nat_cmp xs (take n values)) ≡ false
at_first n values xs h = not_equal (slice_cmp nat_cmp xs (take n values)) (λ e. h (ap (λ vs. slice_cmp nat_cmp vs xs) (laid_first n values) ∙ turned_equal xs (take n values) e))

pub none_found : (n : ℕ) (values results xs : List ℕ) → ((i : ℕ) → i < length results → slice_cmp nat_cmp (laid_at n values i) xs ≡ Equal → ⊥)
    → found (pairs_of n values results) xs ≡ None
none_found n values [] xs h = refl
none_found n values (r ∷ rs) xs h =
    skipped (is_eq (slice_cmp nat_cmp xs (take n values))) (Some r) (found (pairs_of n (drop n values) rs) xs) (at_first n values xs (h 0 (omega arith)))
    ∙ none_found n (drop n values) rs xs (λ i l e. h (suc i) (omega arith) (ap (λ vs. slice_cmp nat_cmp vs xs) (sym (laid_tail n values i)) ∙ e))

pub first_found : (n : ℕ) (values results xs : List ℕ) (i : ℕ) → i < length results → slice_cmp nat_cmp (laid_at n values i) xs ≡ Equal
    → ((j : ℕ) → j < i → slice_cmp nat_cmp (laid_at n values j) xs ≡ Equal → ⊥) → found (pairs_of n values results) xs ≡ Some (get_or results i 0)
first_found n values [] xs i l e h = absurd (omega arith)
first_found n values (r ∷ rs) xs zero l e h =
    taken (is_eq (slice_cmp nat_cmp xs (take n values))) (Some r) (found (pairs_of n (drop n values) rs) xs) (ap is_eq (turned_equal (take n values) xs (ap (λ vs. slice_cmp nat_cmp vs xs) (sym (laid_first n values)) ∙ e)))
first_found n values (r ∷ rs) xs (suc i) l e h =
    skipped (is_eq (slice_cmp nat_cmp xs (take n values))) (Some r) (found (pairs_of n (drop n values) rs) xs) (at_first n values xs (h 0 (omega arith)))
    ∙ first_found n (drop n values) rs xs i (omega arith) (ap (λ vs. slice_cmp nat_cmp vs xs) (laid_tail n values i) ∙ e)
    (λ j k f. h (suc j) (omega arith) (ap (λ vs. slice_cmp nat_cmp vs xs) (sym (laid_tail n values j)) ∙ f))

is_less : (r s : Ordering) → r ≡ Less → s ≡ Equal → r ≡ s → ⊥
is_less r s h g e = cc

-- before a row of these values there is none in an order
none_before : (n : ℕ) (values xs : List ℕ) (m i j : ℕ) → Ascend (laid_at n values) m → i < m → j < i → slice_cmp nat_cmp (laid_at n values i) xs ≡ Equal
    → slice_cmp nat_cmp (laid_at n values j) xs ≡ Equal → ⊥
none_before n values xs m i j a l k e f =
    let less : slice_cmp nat_cmp (laid_at n values j) (laid_at n values i) ≡ Less = a j i k l in
    let same : slice_cmp nat_cmp (laid_at n values j) (laid_at n values i) ≡ slice_cmp nat_cmp xs (laid_at n values i) =
    nat_list_cmp_total.congr (laid_at n values j) xs (laid_at n values i) f in
    is_less (slice_cmp nat_cmp (laid_at n values j) (laid_at n values i)) (slice_cmp nat_cmp xs (laid_at n values i)) less (turned_equal (laid_at n values i) xs e) same

pub search_finds : (n : ℕ) (values results xs : List ℕ) (i : ℕ) → Ascend (laid_at n values) (length results) → Searched (laid_at n values) (length results) xs (Some i)
    → found (pairs_of n values results) xs ≡ Some (get_or results i 0)
search_finds n values results xs i a s = first_found n values results xs i s.0 s.1 (λ j k f. none_before n values xs (length results) i j a s.0 k s.1 f)
