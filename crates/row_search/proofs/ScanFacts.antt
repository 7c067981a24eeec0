-- Rows that are looked at in their order, and rows that have the same masks: they answer as the definition does.
use Rattle.std.proofs.Common.{All, ◌≡◌, ℕ, suc, ◌+◌, ◌*◌, ◌<◌, ◌==◌, ◌&&◌, Bool, true, false, cond, nat_eq, bit_and, if◌then◌else◌, List, [], ◌∷◌, ◌++◌, length, length-append, map, drop, get_or, Option, Some, refl, sym, ◌∙◌, ap, arith}
use Rattle.std.specs.Cmp.Lexicographic.{pointwise, slice_cmp}
use Rattle.std.specs.Ordering.{is_eq, nat_cmp}
use Rattle.std.specs.Prelude.{unwrap_or}
use Rattle.std.proofs.Math.Nat.{zero-mul}
use Rattle.std.proofs.lemmas.Bool.{and_parts, ne_eqb}
use Rattle.std.proofs.lemmas.List.{drop_more}
use Rattle.cocoon_num.specs.Lists.{each}
use Rattle.cocoon_num.specs.Names.{same_name}
use Rattle.cocoon_num.specs.Rows.{values_match}
use Rattle.p4_ir.specs.NetOf.{key_row_of}
use Rattle.p4_ir.specs.Switch.{table_result}
use Rattle.p4_ir.specs.declared.rows.KeyRow.{KeyRow as CodeRow}
use Rattle.row_search.specs.Held.{share_masks}
use Rattle.row_search.specs.Keyed.{HasKeys, keyed}
use Rattle.row_search.specs.Laid.{masked, masked_values, results_of}
use Rattle.row_search.specs.Pairs.{found, pairs_of}
use Rattle.row_search.specs.Scanned.{fits, row_tests, rows_tests, scanned}
use Rattle.row_search.specs.declared.scanned.KeyTest.{KeyTest}
use Rattle.row_search.proofs.FirstFacts.{same_compare, same_true}
use Rattle.row_search.proofs.PairFacts.{counted_more, drop_both, first_part, later_part}

-- `==` on numbers is that of names
pub same_is : (p s : List ℕ) → pointwise nat_eq p s ≡ same_name p s
same_is [] [] = refl
same_is [] (y ∷ s) = refl
same_is (x ∷ p) [] = refl
same_is (x ∷ p) (y ∷ s) = ap (λ r. (x == y) && r) (same_is p s)

-- ---- how many there are

pub keys_first : (n : ℕ) (r : CodeRow) (rows : List CodeRow) → All (HasKeys n) (r ∷ rows) → HasKeys n r
keys_first n r rows h = h 0 r (omega arith)

pub keys_rest : (n : ℕ) (r : CodeRow) (rows : List CodeRow) → All (HasKeys n) (r ∷ rows) → All (HasKeys n) rows
keys_rest n r rows h = λ k d l. h (suc k) d (omega arith)

pub keyed_counted : (meta keys : List ℕ) → length (keyed meta keys) ≡ length keys
keyed_counted meta [] = refl
keyed_counted meta (k ∷ keys) = ap suc (keyed_counted meta keys)

tests_of_row : (vs ms : List ℕ) → length vs ≡ length ms → length (row_tests vs ms) ≡ length ms
tests_of_row vs [] e = refl
tests_of_row [] (m ∷ ms) e = absurd (let bad : 0 ≡ suc (length ms) = e in omega arith)
tests_of_row (v ∷ vs) (m ∷ ms) e = ap suc (tests_of_row vs ms (cc))

row_counted : (n : ℕ) (r : CodeRow) → HasKeys n r → length (row_tests r.values r.masks) ≡ n
row_counted n r h = tests_of_row r.values r.masks (h.0 ∙ sym h.1) ∙ h.1

pub tests_counted : (n : ℕ) (rows : List CodeRow) → All (HasKeys n) rows → length (rows_tests (map key_row_of rows)) ≡ length (results_of (map key_row_of rows)) * n
tests_counted n [] h = sym (zero-mul n)
tests_counted n (r ∷ rows) h =
    length-append (row_tests r.values r.masks) (rows_tests (map key_row_of rows))
    ∙ counted_more (length (row_tests r.values r.masks)) (length (rows_tests (map key_row_of rows))) (length (results_of (map key_row_of rows))) n
    (row_counted n r (keys_first n r rows h)) (tests_counted n rows (keys_rest n r rows h))

pub masked_counted : (ms xs : List ℕ) → length xs ≡ length ms → length (masked ms xs) ≡ length ms
masked_counted [] xs e = refl
masked_counted (m ∷ ms) [] e = absurd (let bad : 0 ≡ suc (length ms) = e in omega arith)
masked_counted (m ∷ ms) (x ∷ xs) e = ap suc (masked_counted ms xs (cc))

pub values_counted : (ms : List ℕ) (rows : List CodeRow) → All (HasKeys (length ms)) rows
    → length (masked_values ms (map key_row_of rows)) ≡ length (results_of (map key_row_of rows)) * length ms
values_counted ms [] h = sym (zero-mul (length ms))
values_counted ms (r ∷ rows) h =
    length-append (masked ms r.values) (masked_values ms (map key_row_of rows))
    ∙ counted_more (length (masked ms r.values)) (length (masked_values ms (map key_row_of rows))) (length (results_of (map key_row_of rows))) (length ms)
    (masked_counted ms r.values (keys_first (length ms) r rows h).0) (values_counted ms rows (keys_rest (length ms) r rows h))

-- ---- one row after another

row_tests_match : (vs ms xs : List ℕ) (rest : List KeyTest) → length vs ≡ length xs → length ms ≡ length xs → fits (row_tests vs ms ++ rest) xs ≡ values_match vs ms xs
row_tests_match [] [] [] rest e f = refl
row_tests_match (v ∷ vs) ms [] rest e f = absurd (let bad : suc (length vs) ≡ 0 = e in omega arith)
row_tests_match [] (m ∷ ms) [] rest e f = absurd (let bad : suc (length ms) ≡ 0 = f in omega arith)
row_tests_match [] ms (x ∷ xs) rest e f = absurd (let bad : 0 ≡ suc (length xs) = e in omega arith)
row_tests_match (v ∷ vs) [] (x ∷ xs) rest e f = absurd (let bad : 0 ≡ suc (length xs) = f in omega arith)
row_tests_match (v ∷ vs) (m ∷ ms) (x ∷ xs) rest e f = ap (λ b. (bit_and x m == bit_and v m) && b) (row_tests_match vs ms xs rest (cc) (cc))

pub scanned_is : (n : ℕ) (rows : List CodeRow) (otherwise : ℕ) (xs : List ℕ) → All (HasKeys n) rows → length xs ≡ n
    → scanned n (rows_tests (map key_row_of rows)) (results_of (map key_row_of rows)) otherwise xs ≡ table_result (map key_row_of rows) otherwise xs
scanned_is n [] otherwise xs h l = refl
scanned_is n (r ∷ rows) otherwise xs h l =
    let own = keys_first n r rows h in
    let rest = rows_tests (map key_row_of rows) in
    (λ i. if row_tests_match r.values r.masks xs rest (own.0 ∙ sym l) (own.1 ∙ sym l) i then r.result
    else scanned n (later_part n (row_tests r.values r.masks) rest (row_counted n r own) i) (results_of (map key_row_of rows)) otherwise xs)
    ∙ ap (λ k. if values_match r.values r.masks xs then r.result else k) (scanned_is n rows otherwise xs (keys_rest n r rows h) l)

next_row : (b : Bool) (x y : ℕ) → b ≡ false → (if b then x else y) ≡ y
next_row true x y h = absurd (cc)
next_row false x y h = refl

-- the first test fails
pub first_fails : (tests : List KeyTest) (d : KeyTest) (xs : List ℕ) → 0 < length xs → (bit_and (get_or xs 0 0) (get_or tests 0 d).mask ≡ (get_or tests 0 d).value → ⊥) → fits tests xs ≡ false
first_fails tests d [] l h = absurd (omega arith)
first_fails [] d (x ∷ xs) l h = refl
first_fails (t ∷ tests) d (x ∷ xs) l h = and_right_false (bit_and x t.mask == t.value) (fits tests xs) (ne_eqb (bit_and x t.mask) t.value h)
  where
    and_right_false : (b c : Bool) → b ≡ false → (b && c) ≡ false
    and_right_false true c g = absurd (cc)
    and_right_false false c g = refl

-- a row that the numbers do not fit
pub scanned_on : (n : ℕ) (tests : List KeyTest) (results : List ℕ) (otherwise : ℕ) (xs : List ℕ) (at i : ℕ) → i < length results → fits (drop at tests) xs ≡ false
    → scanned n (drop (at + n) tests) (drop (i + 1) results) otherwise xs ≡ scanned n (drop at tests) (drop i results) otherwise xs
scanned_on n tests results otherwise xs at i l h =
    ap (λ ts. scanned n ts (drop (i + 1) results) otherwise xs) (sym (drop_both n at tests))
    ∙ sym (next_row (fits (drop at tests) xs) (get_or results i 0) (scanned n (drop n (drop at tests)) (drop (i + 1) results) otherwise xs) h)
    ∙ ap (λ rs. scanned n (drop at tests) rs otherwise xs) (sym (drop_more results i 0 l))

-- ---- rows with the same masks

masked_same : (ms vs xs : List ℕ) → length vs ≡ length ms → length xs ≡ length ms → same_name (masked ms xs) (masked ms vs) ≡ values_match vs ms xs
masked_same [] [] [] e f = refl
masked_same [] (v ∷ vs) xs e f = absurd (let bad : suc (length vs) ≡ 0 = e in omega arith)
masked_same [] [] (x ∷ xs) e f = absurd (let bad : suc (length xs) ≡ 0 = f in omega arith)
masked_same (m ∷ ms) [] xs e f = absurd (let bad : 0 ≡ suc (length ms) = e in omega arith)
masked_same (m ∷ ms) (v ∷ vs) [] e f = absurd (let bad : 0 ≡ suc (length ms) = f in omega arith)
masked_same (m ∷ ms) (v ∷ vs) (x ∷ xs) e f = ap (λ b. (bit_and x m == bit_and v m) && b) (masked_same ms vs xs (cc) (cc))

picked : (b : Bool) (r : ℕ) (o : Option ℕ) (otherwise : ℕ) → unwrap_or (cond b (Some r) o) otherwise ≡ (if b then r else unwrap_or o otherwise)
picked true r o otherwise = refl
picked false r o otherwise = refl

pub found_is : (ms : List ℕ) (rows : List CodeRow) (otherwise : ℕ) (xs : List ℕ) → All (HasKeys (length ms)) rows → each (share_masks ms) (map key_row_of rows) ≡ true → length xs ≡ length ms
    → unwrap_or (found (pairs_of (length ms) (masked_values ms (map key_row_of rows)) (results_of (map key_row_of rows))) (masked ms xs)) otherwise
    ≡ table_result (map key_row_of rows) otherwise xs
found_is ms [] otherwise xs h s l = refl
found_is ms (r ∷ rows) otherwise xs h s l =
    let n = length ms in
    let own = keys_first n r rows h in
    let shared = and_parts (share_masks ms (key_row_of r)) (each (share_masks ms) (map key_row_of rows)) s in
    let mine : r.masks ≡ ms = same_true r.masks ms shared.0 in
    let rest = masked_values ms (map key_row_of rows) in
    let many = masked_counted ms r.values own.0 in
    let others = found (pairs_of n rest (results_of (map key_row_of rows))) (masked ms xs) in
    (λ i. unwrap_or (cond (is_eq (slice_cmp nat_cmp (masked ms xs) (first_part n (masked ms r.values) rest many i))) (Some r.result)
    (found (pairs_of n (later_part n (masked ms r.values) rest many i) (results_of (map key_row_of rows))) (masked ms xs))) otherwise)
    ∙ picked (is_eq (slice_cmp nat_cmp (masked ms xs) (masked ms r.values))) r.result others otherwise
    ∙ (λ i. if (same_compare (masked ms xs) (masked ms r.values) ∙ masked_same ms r.values xs own.0 l ∙ ap (λ k. values_match r.values k xs) (sym mine)) i then r.result
    else found_is ms rows otherwise xs (keys_rest n r rows h) shared.1 l i)
