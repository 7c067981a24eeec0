-- Rows and tables at numbers that fit their widths: the tables of the code give what those of the definitions give.
use Rattle.std.proofs.Common.{◌≡◌, ℕ, ◌-◌, ◌^◌, ◌<◌, ◌==◌, ◌&&◌, bit_and, Bool, true, false, List, [], ◌∷◌, map, All, if◌then◌else◌, arith, refl, ap, ap₂, ◌∙◌}
use Rattle.std.specs.List.{AllZip}
use Rattle.std.specs.Int.Bits.{and_self, and_zero_r}
use Rattle.std.proofs.Math.Nat.{mod-eq_of_lt}
use Rattle.std.proofs.lemmas.Bool.Decides.{nat_tests}
use Rattle.std.proofs.lemmas.List.Elements.{All-head, All-tail}
use Rattle.std.proofs.lemmas.Nat.{and_assoc, and_mask}
use Rattle.cocoon_num.specs.BitsOf.{value_of}
use Rattle.cocoon_num.specs.FunTables.{looked, row_matches}
use Rattle.cocoon_num.specs.Rows.{values_match, first_match, has_bits}
use Rattle.cocoon_num.specs.Sorts.{same_sort}
use Rattle.cocoon_num.specs.Tree.{ResultKind, of_width, of_truth, Pattern, literal, masked, any}
use Rattle.cocoon_num.specs.Values.{Value, number, truth, fits_width}
use Rattle.cocoon_num.specs.declared.bits.Bits.{Bits}
use Rattle.cocoon_num.specs.declared.fun_table.FunRow.{FunRow}
use Rattle.cocoon_num.specs.declared.fun_table.FunTable.{FunTable}
use Rattle.cocoon_types.specs.DefsRules.{pattern_fits, patterns_fit, sort_of_value}
use Rattle.cocoon_types.specs.Tables.{Row, all_match, look, matches}
use Rattle.cocoon_types.specs.Typing.{result_sort}
use Rattle.runtime_defs.specs.Bound.{as_bits, IsRow, pattern_mask, pattern_value}
use Rattle.runtime_defs.specs.Places.{all_fit_widths, result_value}

-- ---- numbers

pub below-width : (w n : ℕ) → fits_width w n ≡ true → n < 2 ^ w
below-width w n h = grind (arith, nat_tests, h)

-- a number that fits is itself in the bits of ones
pub kept : (w n : ℕ) → fits_width w n ≡ true → bit_and n (2 ^ w - 1) ≡ n
kept w n h = and_mask n w ∙ mod-eq_of_lt (below-width w n h)

pub number-is : (a b : ℕ) → (a == b) ≡ true → a ≡ b
number-is a b h = grind (arith, nat_tests, h)

pub both-true : (a b : Bool) → (a && b) ≡ true → (a ≡ true) × (b ≡ true)
both-true true b h = (refl, h)
both-true false b h = absurd cc

pub masked-twice : (n m : ℕ) → bit_and (bit_and n m) m ≡ bit_and n m
masked-twice n m = and_assoc m n m ∙ ap (bit_and n) (and_self m)

-- ---- patterns

one-match : (p : Pattern) (w x : ℕ) → pattern_fits p w ≡ true → fits_width w (pattern_value p) ≡ true → fits_width w x ≡ true → has_bits (pattern_value p) (pattern_mask p) x ≡ matches p x
one-match (literal v n) w x f k h =
    let e : v ≡ w = number-is v w f in
    ap₂ (λ a b. a == b) (ap (λ u. bit_and x (2 ^ u - 1)) e ∙ kept w x h) (ap (λ u. bit_and n (2 ^ u - 1)) e ∙ kept w n k)
one-match (masked v n u m) w x f k h = ap (λ a. bit_and x m == a) (masked-twice n m)
one-match any w x f k h = ap (λ a. a == 0) (and_zero_r x)

-- patterns match as their values and masks do
pub all-match : (ps : List Pattern) (ws xs : List ℕ) → patterns_fit ps ws ≡ true → all_fit_widths ws (map pattern_value ps) ≡ true → all_fit_widths ws xs ≡ true
    → values_match (map pattern_value ps) (map pattern_mask ps) xs ≡ all_match ps xs
all-match [] [] [] f k h = refl
all-match [] [] (x ∷ xs) f k h = absurd cc
all-match [] (w ∷ ws) xs f k h = absurd cc
all-match (p ∷ ps) [] xs f k h = absurd cc
all-match (p ∷ ps) (w ∷ ws) [] f k h = absurd cc
all-match (p ∷ ps) (w ∷ ws) (x ∷ xs) f k h =
    let fs = both-true (pattern_fits p w) (patterns_fit ps ws) f in
    let ks = both-true (fits_width w (pattern_value p)) (all_fit_widths ws (map pattern_value ps)) k in
    let hs = both-true (fits_width w x) (all_fit_widths ws xs) h in
    ap₂ (◌&&◌) (one-match p w x fs.0 ks.0 hs.0) (all-match ps ws xs fs.1 ks.1 hs.1)

-- ---- rows

-- the row has patterns of these widths, with values that fit, and a value of this kind
pub record RowFits (ws : List ℕ) (kind : ResultKind) (r : Row) : Type 0 where
  pub widths : patterns_fit r.patterns ws ≡ true
  pub values : all_fit_widths ws (map pattern_value r.patterns) ≡ true
  pub masks : all_fit_widths ws (map pattern_mask r.patterns) ≡ true
  pub sort : same_sort (result_sort kind) (sort_of_value r.value) ≡ true

row-matches : (ws xs : List ℕ) (kind : ResultKind) (r : Row) (row : FunRow) → IsRow r row → RowFits ws kind r → all_fit_widths ws xs ≡ true → row_matches xs row ≡ all_match r.patterns xs
row-matches ws xs kind r row i f h = ap₂ (λ vs ms. values_match vs ms xs) i.values i.masks ∙ all-match r.patterns ws xs f.widths f.values h

-- the value of one row more
one-row : (a b : Bool) (x y : Bits) (u v : Value) → a ≡ b → value_of x ≡ as_bits u → value_of y ≡ as_bits v → value_of (if a then x else y) ≡ as_bits (if b then u else v)
one-row true true x y u v e h k = h
one-row true false x y u v e h k = absurd cc
one-row false true x y u v e h k = absurd cc
one-row false false x y u v e h k = k

pub rows-look : (ws xs : List ℕ) (kind : ResultKind) (rs : List Row) (rows : List FunRow) (v : Value) (d : Bits) → AllZip IsRow rs rows → All (RowFits ws kind) rs → all_fit_widths ws xs ≡ true
    → value_of d ≡ as_bits v → value_of (first_match (row_matches xs) (λ (row : FunRow). row.result) rows d) ≡ as_bits (look rs v xs)
rows-look ws xs kind [] [] v d z f h e = e
rows-look ws xs kind [] (row ∷ rows) v d z f h e = absurd z
rows-look ws xs kind (r ∷ rs) [] v d z f h e = absurd z
rows-look ws xs kind (r ∷ rs) (row ∷ rows) v d z f h e =
    one-row (row_matches xs row) (all_match r.patterns xs) row.result (first_match (row_matches xs) (λ (row : FunRow). row.result) rows d) r.value (look rs v xs)
    (row-matches ws xs kind r row z.0 (All-head (RowFits ws kind) r rs f) h) z.0.result
    (rows-look ws xs kind rs rows v d z.1 (All-tail (RowFits ws kind) r rs f) h e)

sort-step : (b : Bool) (kind : ResultKind) (u v : Value) → same_sort (result_sort kind) (sort_of_value u) ≡ true → same_sort (result_sort kind) (sort_of_value v) ≡ true
    → same_sort (result_sort kind) (sort_of_value (if b then u else v)) ≡ true
sort-step true kind u v h k = h
sort-step false kind u v h k = k

look-sort : (ws xs : List ℕ) (kind : ResultKind) (rs : List Row) (v : Value) → All (RowFits ws kind) rs → same_sort (result_sort kind) (sort_of_value v) ≡ true
    → same_sort (result_sort kind) (sort_of_value (look rs v xs)) ≡ true
look-sort ws xs kind [] v f s = s
look-sort ws xs kind (r ∷ rs) v f s = sort-step (all_match r.patterns xs) kind r.value (look rs v xs) (All-head (RowFits ws kind) r rs f).sort (look-sort ws xs kind rs v (All-tail (RowFits ws kind) r rs f) s)

-- ---- results

truth-is : (b : Bits) (x : Bool) → value_of b ≡ number 1 (if x then 1 else 0) → truth (b.value == 1) ≡ truth x
truth-is b true h = let e : b.value ≡ 1 = cc in ap (λ n. truth (n == 1)) e
truth-is b false h = let e : b.value ≡ 0 = cc in ap (λ n. truth (n == 1)) e

pub result-is : (kind : ResultKind) (b : Bits) (v : Value) → same_sort (result_sort kind) (sort_of_value v) ≡ true → value_of b ≡ as_bits v → result_value kind b ≡ v
result-is (of_width w) b (number u n) s h = h
result-is (of_width w) b (truth x) s h = absurd cc
result-is of_truth b (number u n) s h = absurd cc
result-is of_truth b (truth x) s h = truth-is b x h

-- what a table gives is what the rows give
pub table-looks : (ws xs : List ℕ) (kind : ResultKind) (rs : List Row) (v : Value) (t : FunTable) → AllZip IsRow rs t.rows → All (RowFits ws kind) rs → same_sort (result_sort kind) (sort_of_value v) ≡ true
    → value_of t.default ≡ as_bits v → all_fit_widths ws xs ≡ true → result_value kind (looked t xs) ≡ look rs v xs
table-looks ws xs kind rs v t z f s e h = result-is kind (looked t xs) (look rs v xs) (look-sort ws xs kind rs v f s) (rows-look ws xs kind rs t.rows v t.default z f h e)
