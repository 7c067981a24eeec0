-- The numbers at which tables are true: row by row, and as they are listed.
use Rattle.std.proofs.Common.{◌≡◌, ℕ, suc, ◌-◌, ◌<◌, ◌≤◌, ◌^◌, ◌==◌, ◌&&◌, ◌||◌, nat_lt, Bool, true, false, cond, List, [], ◌∷◌, All, filter, length, slice_get, unwrap_or, Ordering, Some, if◌then◌else◌, arith, pow_mono, refl, sym, ap, ap₂, subst, ◌∙◌}
use Rattle.std.specs.List.{list_any}
use Rattle.std.specs.List.Sorted.{IsStrictlySortedBy}
use Rattle.std.specs.Ordering.{is_eq, nat_cmp}
use Rattle.std.specs.declared.cmp.Ordering.TheVariants.{Less, Equal, Greater}
use Rattle.std.specs.BTreeMap.{is_at}
use Rattle.std.proofs.lemmas.Bool.Decides.{nat_tests}
use Rattle.std.proofs.lemmas.List.Elements.{All-head, All-tail}
use Rattle.std.proofs.lemmas.List.Kept.{IsStrictlySortedBy-filter}
use Rattle.std.proofs.lemmas.Map.Keys.{sorted_head, sorted_tail}
use Rattle.cocoon_num.specs.FunTables.{looked, row_matches}
use Rattle.cocoon_num.specs.Lists.{ascend, has_number}
use Rattle.cocoon_num.specs.Rows.{values_match, first_match, has_bits}
use Rattle.cocoon_num.specs.Values.{fits_width}
use Rattle.cocoon_num.specs.declared.bits.Bits.{Bits}
use Rattle.cocoon_num.specs.declared.fun_table.FunRow.{FunRow}
use Rattle.cocoon_num.specs.declared.fun_table.FunTable.{FunTable}
use Rattle.runtime_defs.specs.Fitting.{all_ones, FitsRow}
use Rattle.runtime_defs.specs.Guards.{is_true_at, ListsTrue}
use Rattle.runtime_defs.specs.Places.{all_fit_widths, AllDeclared, HasShape}
use Rattle.runtime_defs.specs.TrueRows.{first_true, row_number, true_by}
use Rattle.runtime_defs.proofs.Looking.{below-width, both-true, kept, number-is}

-- ---- sets of numbers

pub at-number : (n k : ℕ) → is_at (nat_cmp n) k ≡ (n == k)
at-number n k = by (nat_cmp n k) refl
  where
    by : (o : Ordering) → nat_cmp n k ≡ o → is_eq (nat_cmp n k) ≡ (n == k)
    by Less e = rw e (sym (grind (arith, nat_tests, e)))
    by Equal e = rw e (sym (grind (arith, nat_tests, e)))
    by Greater e = rw e (sym (grind (arith, nat_tests, e)))

-- the keys of a set as numbers
pub key-number : (n : ℕ) (ks : List ℕ) → list_any (is_at (nat_cmp n)) ks ≡ has_number n ks
key-number n [] = refl
key-number n (k ∷ ks) = ap₂ (◌||◌) (at-number n k) (key-number n ks)

less-is : (m n : ℕ) → nat_cmp m n ≡ Less → nat_lt m n ≡ true
less-is m n h = grind (arith, nat_tests, h)

-- sorted numbers ascend
pub sorted-ascend : (ns : List ℕ) → IsStrictlySortedBy nat_cmp ns → ascend ns ≡ true
sorted-ascend [] s = refl
sorted-ascend (m ∷ []) s = refl
sorted-ascend (m ∷ n ∷ ns) s =
    ap (λ b. b && ascend (n ∷ ns)) (less-is m n (sorted_head nat_cmp m (n ∷ ns) s).0) ∙ sorted-ascend (n ∷ ns) (sorted_tail nat_cmp m (n ∷ ns) s)

same-test : (p : ℕ → Bool) (n m : ℕ) (b : Bool) → (n == m) ≡ b → p m ≡ false → (p n && b) ≡ false
same-test p n m true e h = ap (λ k. p k && true) (number-is n m e) ∙ ap (λ c. c && true) h
same-test p n m false e h = false-behind (p n)
  where
    false-behind : (c : Bool) → (c && false) ≡ false
    false-behind true = refl
    false-behind false = refl

spread : (a b c : Bool) → (a && (b || c)) ≡ ((a && b) || (a && c))
spread true b c = refl
spread false b c = refl

filter-step : (p : ℕ → Bool) (n m : ℕ) (ms : List ℕ) → has_number n (filter p ms) ≡ (p n && has_number n ms) → (b : Bool) → p m ≡ b
    → has_number n (cond b (m ∷ filter p ms) (filter p ms)) ≡ (p n && ((n == m) || has_number n ms))
filter-step p n m ms ih true e = same (n == m) refl
  where
    same : (c : Bool) → (n == m) ≡ c → ((n == m) || has_number n (filter p ms)) ≡ (p n && ((n == m) || has_number n ms))
    same true h = ap (λ c. c || has_number n (filter p ms)) h ∙ sym (ap₂ (λ a c. a && (c || has_number n ms)) (ap p (number-is n m h) ∙ e) h)
    same false h = ap (λ c. c || has_number n (filter p ms)) h ∙ ih ∙ sym (ap (λ c. p n && (c || has_number n ms)) h)
filter-step p n m ms ih false e =
    ih ∙ sym (spread (p n) (n == m) (has_number n ms) ∙ ap (λ c. c || (p n && has_number n ms)) (same-test p n m (n == m) refl e))

-- a number among those that pass a test
pub has-filtered : (p : ℕ → Bool) (n : ℕ) (ns : List ℕ) → has_number n (filter p ns) ≡ (p n && has_number n ns)
has-filtered p n [] = behind (p n)
  where
    behind : (c : Bool) → false ≡ (c && false)
    behind true = refl
    behind false = refl
has-filtered p n (m ∷ ms) = filter-step p n m ms (has-filtered p n ms) (p m) refl

-- ---- one table

-- the one value of a row
record OneValue (w : ℕ) (vs : List ℕ) : Type 0 where
  value : ℕ
  is : vs ≡ value ∷ []
  fits : fits_width w value ≡ true

one-value : (w : ℕ) (vs : List ℕ) → all_fit_widths (w ∷ []) vs ≡ true → OneValue w vs
one-value w [] h = absurd cc
one-value w (v ∷ []) h = record { value = v; is = refl; fits = (both-true (fits_width w v) true h).0 }
one-value w (v ∷ u ∷ vs) h = absurd (refused (fits_width w v) h)
  where
    refused : (b : Bool) → (b && false) ≡ true → ⊥
    refused true k = cc
    refused false k = cc

number-of-row : (row : FunRow) (v : ℕ) → row.values ≡ v ∷ [] → row_number row ≡ v
number-of-row row v h = ap (λ vs. unwrap_or (slice_get vs 0) 0) h

true-behind : (b : Bool) → (b && true) ≡ b
true-behind true = refl
true-behind false = refl

-- a literal row fits its number alone
row-at : (w n : ℕ) (row : FunRow) → all_fit_widths (w ∷ []) row.values ≡ true → row.masks ≡ all_ones (w ∷ []) → fits_width w n ≡ true → row_matches (n ∷ []) row ≡ (n == row_number row)
row-at w n row f m h =
    let one = one-value w row.values f in
    ap₂ (λ vs ms. values_match vs ms (n ∷ [])) one.is m ∙ true-behind (has_bits one.value (2 ^ w - 1) n)
    ∙ ap₂ (λ a b. a == b) (kept w n h) (kept w one.value one.fits) ∙ ap (λ v. n == v) (sym (number-of-row row one.value one.is))

pick-value : (a b : Bool) (x y : Bits) (c : Bool) → a ≡ b → (y.value == 1) ≡ c → ((if a then x else y).value == 1) ≡ (if b then x.value == 1 else c)
pick-value true true x y c e h = refl
pick-value true false x y c e h = absurd cc
pick-value false true x y c e h = absurd cc
pick-value false false x y c e h = h

abbrev MasksOnes : List ℕ → FunRow → Type 0
MasksOnes ws row = row.masks ≡ all_ones ws

rows-at : (w r n : ℕ) (rows : List FunRow) (d : Bits) → All (FitsRow (w ∷ []) r) rows → All (MasksOnes (w ∷ [])) rows → fits_width w n ≡ true → d.value ≡ 0
    → ((first_match (row_matches (n ∷ [])) (λ (row : FunRow). row.result) rows d).value == 1) ≡ first_true rows n
rows-at w r n [] d f m h z = ap (λ v. v == 1) z
rows-at w r n (row ∷ rows) d f m h z =
    pick-value (row_matches (n ∷ []) row) (n == row_number row) row.result (first_match (row_matches (n ∷ [])) (λ (row : FunRow). row.result) rows d) (first_true rows n)
    (row-at w n row (All-head (FitsRow (w ∷ []) r) row rows f).values_fit (All-head (MasksOnes (w ∷ [])) row rows m) h)
    (rows-at w r n rows d (All-tail (FitsRow (w ∷ []) r) row rows f) (All-tail (MasksOnes (w ∷ [])) row rows m) h z)

other-number : (w n v : ℕ) → fits_width w n ≡ false → fits_width w v ≡ true → (b : Bool) → (n == v) ≡ b → b ≡ false
other-number w n v h k true e = absurd (both (fits_width w n) h (ap (fits_width w) (number-is n v e) ∙ k))
  where
    both : (b : Bool) → b ≡ false → b ≡ true → ⊥
    both true x y = cc
    both false x y = cc
other-number w n v h k false e = refl

-- no row has a number that does not fit
none-at : (w r n : ℕ) (rows : List FunRow) → All (FitsRow (w ∷ []) r) rows → fits_width w n ≡ false → first_true rows n ≡ false
none-at w r n [] f h = refl
none-at w r n (row ∷ rows) f h =
    let one = one-value w row.values (All-head (FitsRow (w ∷ []) r) row rows f).values_fit in
    let other : (n == row_number row) ≡ false = other-number w n (row_number row) h (ap (fits_width w) (number-of-row row one.value one.is) ∙ one.fits) (n == row_number row) refl in
    ap (λ b. if b then row.result.value == 1 else first_true rows n) other ∙ none-at w r n rows (All-tail (FitsRow (w ∷ []) r) row rows f) h

true-by-width : (w r n : ℕ) (rows : List FunRow) (d : Bits) → All (FitsRow (w ∷ []) r) rows → All (MasksOnes (w ∷ [])) rows → d.value ≡ 0 → (b : Bool) → fits_width w n ≡ b
    → ((b && true) && ((first_match (row_matches (n ∷ [])) (λ (row : FunRow). row.result) rows d).value == 1)) ≡ first_true rows n
true-by-width w r n rows d f m z true h = rows-at w r n rows d f m h z
true-by-width w r n rows d f m z false h = sym (none-at w r n rows f h)

more-widths : (w v : ℕ) (ws : List ℕ) (n : ℕ) → all_fit_widths (w ∷ v ∷ ws) (n ∷ []) ≡ false
more-widths w v ws n = behind (fits_width w n)
  where
    behind : (c : Bool) → (c && false) ≡ false
    behind true = refl
    behind false = refl

not-one : (k : ℕ) → (suc (suc k) == 1) ≡ false
not-one k = grind (arith, nat_tests)

-- a table whose default is 0, and whose masks are ones
pub record IsLiteral (t : FunTable) : Type 0 where
  pub default_false : t.default.value ≡ 0
  pub masks_ones : All (λ (row : FunRow). row.masks ≡ all_ones t.widths) t.rows

-- a literal table is true at a number where its first row of the number is
true-at : (ws : List ℕ) (r n : ℕ) (rows : List FunRow) (d : Bits) → All (FitsRow ws r) rows → All (MasksOnes ws) rows → d.value ≡ 0
    → (all_fit_widths ws (n ∷ []) && ((first_match (row_matches (n ∷ [])) (λ (row : FunRow). row.result) rows d).value == 1)) ≡ ((length ws == 1) && first_true rows n)
true-at [] r n rows d f m z = refl
true-at (w ∷ []) r n rows d f m z = true-by-width w r n rows d f m z (fits_width w n) refl
true-at (w ∷ v ∷ ws) r n rows d f m z = ap (λ b. b && ((first_match (row_matches (n ∷ [])) (λ (row : FunRow). row.result) rows d).value == 1)) (more-widths w v ws n)
    ∙ sym (ap (λ b. b && first_true rows n) (not-one (length ws)))

pub table-true : (t : FunTable) (r n : ℕ) → All (FitsRow t.widths r) t.rows → IsLiteral t → is_true_at (Some t) n ≡ true_by (Some t) n
table-true t r n f l = true-at t.widths r n t.rows t.default f l.masks_ones l.default_false

-- ---- lists

fits-more : (w n : ℕ) → w ≤ 64 → fits_width w n ≡ true → fits_width 64 n ≡ true
fits-more w n l h =
    let a : n < 2 ^ w = below-width w n h in
    let b : 2 ^ w ≤ 2 ^ 64 = pow_mono l in
    fits-lt (omega (arith, a, b))
  where
    fits-lt : n < 2 ^ 64 → fits_width 64 n ≡ true
    fits-lt k = grind (arith, nat_tests, k)

absorbed : (a b : Bool) → (b ≡ true → a ≡ true) → (a && b) ≡ b
absorbed a true f = ap (λ c. c && true) (f refl)
absorbed true false f = refl
absorbed false false f = refl

fits-first : (ws : List ℕ) (n : ℕ) (b : Bool) → AllDeclared ws → (all_fit_widths ws (n ∷ []) && b) ≡ true → fits_width 64 n ≡ true
fits-first [] n b d h = absurd cc
fits-first (w ∷ ws) n b d h =
    fits-more w n d.1 (both-true (fits_width w n) (all_fit_widths ws []) (both-true (all_fit_widths (w ∷ ws) (n ∷ [])) b h).0).0

pub lists-all : (t : FunTable) (r : ℕ) (ns : List ℕ) → All (FitsRow t.widths r) t.rows → IsLiteral t → HasShape t → IsStrictlySortedBy nat_cmp ns → ((n : ℕ) → has_number n ns ≡ true_by (Some t) n) → ListsTrue 64 (Some t) ns
lists-all t r ns f l s o a = record {
  ascending = sorted-ascend ns o;
  listed = λ n. a n ∙ sym (table-true t r n f l) ∙ sym (absorbed (fits_width 64 n) (is_true_at (Some t) n) (fits-first t.widths n ((looked t (n ∷ [])).value == 1) s.widths));
}

pub lists-short : (t : FunTable) (r : ℕ) (ns ms : List ℕ) → All (FitsRow t.widths r) t.rows → IsLiteral t → IsStrictlySortedBy nat_cmp ns → ((n : ℕ) → has_number n ns ≡ true_by (Some t) n)
    → ms ≡ filter (fits_width 16) ns → ListsTrue 16 (Some t) ms
lists-short t r ns ms f l o a e = subst (ListsTrue 16 (Some t)) (sym e) (record {
  ascending = sorted-ascend (filter (fits_width 16) ns) (IsStrictlySortedBy-filter nat_cmp (fits_width 16) ns o);
  listed = λ n. has-filtered (fits_width 16) n ns ∙ ap (λ b. fits_width 16 n && b) (a n ∙ sym (table-true t r n f l));
})

-- ---- one row

turned : (a b : ℕ) → (a == b) ≡ (b == a)
turned a b = by (a == b) refl
  where
    by : (c : Bool) → (a == b) ≡ c → (a == b) ≡ (b == a)
    by true h = ap (λ x. x == b) (number-is a b h) ∙ ap (λ x. b == x) (sym (number-is a b h))
    by false h = h ∙ sym (grind (arith, nat_tests, h))

-- what a set says where a row's number was added or taken
pub noted : (row : FunRow) (key n : ℕ) (b old new : Bool) → key ≡ row_number row → (row.result.value == 1) ≡ b → new ≡ cond (is_at (nat_cmp key) n) b old
    → new ≡ (if n == row_number row then row.result.value == 1 else old)
noted row key n b old new k r u =
    u ∙ ap (λ t. cond t b old) (at-number key n ∙ turned key n ∙ ap (λ m. n == m) k) ∙ ap (λ c. if n == row_number row then c else old) (sym r)

pub not-one-is : (v : ℕ) → (v ≡ 1 → ⊥) → (v == 1) ≡ false
not-one-is v f = by (v == 1) refl
  where
    by : (b : Bool) → (v == 1) ≡ b → (v == 1) ≡ false
    by true e = absurd (f (number-is v 1 e))
    by false e = e
