-- Parts of rows: the least of the places that they find is that of the first row of all that match.
use Rattle.std.proofs.Common.{All, ◌≡◌, ℕ, suc, ◌+◌, ◌<◌, ◌≤◌, ◌==◌, ◌&&◌, ◌||◌, Bool, true, false, nat_lt, if◌then◌else◌, List, [], ◌∷◌, ◌++◌, length, map, take, get_or, refl, sym, ◌∙◌, ap, subst, arith}
use Rattle.std.proofs.lemmas.Bool.{lt-ltb, le-ltb}
use Rattle.std.proofs.lemmas.Bool.Decides.{nat_tests}
use Rattle.std.proofs.lemmas.List.{get_or-map, length-map, take_more}
use Rattle.std.proofs.lemmas.List.Elements.{All-cons, All-push, All-weaker}
use Rattle.cocoon_num.specs.Rows.{values_match}
use Rattle.p4_ir.specs.NetOf.{key_row_of}
use Rattle.p4_ir.specs.P4Tree.{KeyRow}
use Rattle.p4_ir.specs.Switch.{table_result}
use Rattle.p4_ir.specs.declared.rows.KeyRow.{KeyRow as CodeRow}
use Rattle.row_search.specs.Held.{looked_up}
use Rattle.row_search.specs.Keyed.{HasKeys}
use Rattle.row_search.specs.declared.flat.FlatRows.{FlatRows}
use Rattle.row_search.specs.Least.{earlier, FindPlaces, FindsPlace, first_in, least_place}
use Rattle.row_search.specs.Placed.{placed, placed_in, results_of}

-- ---- the rows of one part

part_step : (i none : ℕ) (r : KeyRow) (rest : List KeyRow) (xs : List ℕ) (first : ℕ) (b : Bool) → table_result rest none xs ≡ first
    → table_result (if b then placed i r ∷ rest else rest) none xs ≡ (if b && values_match r.values r.masks xs then i else first)
part_step i none r rest xs first true e = ap (λ k. if values_match r.values r.masks xs then i else k) e
part_step i none r rest xs first false e = e

-- the first row of a part that matches gives its place
pub part_is : (part i none : ℕ) (ns : List ℕ) (rows : List KeyRow) (xs : List ℕ)
    → table_result (placed_in part i ns rows) none xs ≡ first_in (λ n. n == part) xs i none ns rows
part_is part i none [] rows xs = refl
part_is part i none (n ∷ ns) [] xs = refl
part_is part i none (n ∷ ns) (r ∷ rows) xs =
    part_step i none r (placed_in part (suc i) ns rows) xs (first_in (λ m. m == part) xs (suc i) none ns rows) (n == part) (part_is part (suc i) none ns rows xs)

abbrev pub IsKeyed : ℕ → KeyRow → Type 0
IsKeyed count r = (length r.values ≡ count) × (length r.masks ≡ count)

pub keyed_first : (count : ℕ) (r : CodeRow) (rows : List CodeRow) → All (HasKeys count) (r ∷ rows) → HasKeys count r
keyed_first count r rows h = h 0 r (omega arith)

pub keyed_rest : (count : ℕ) (r : CodeRow) (rows : List CodeRow) → All (HasKeys count) (r ∷ rows) → All (HasKeys count) rows
keyed_rest count r rows h = λ k d l. h (suc k) d (omega arith)

keyed_step : (count i : ℕ) (r : KeyRow) (rest : List KeyRow) (b : Bool) → IsKeyed count r → All (IsKeyed count) rest
    → All (IsKeyed count) (if b then placed i r ∷ rest else rest)
keyed_step count i r rest true own h = All-cons (IsKeyed count) (placed i r) rest own h
keyed_step count i r rest false own h = h

part_keyed : (count part i : ℕ) (ns : List ℕ) (rows : List CodeRow) → All (HasKeys count) rows → All (IsKeyed count) (placed_in part i ns (map key_row_of rows))
part_keyed count part i [] rows h = λ k d l. absurd (omega arith)
part_keyed count part i (n ∷ ns) [] h = λ k d l. absurd (omega arith)
part_keyed count part i (n ∷ ns) (r ∷ rows) h =
    keyed_step count i (key_row_of r) (placed_in part (suc i) ns (map key_row_of rows)) (n == part) (keyed_first count r rows h)
    (part_keyed count part (suc i) ns rows (keyed_rest count r rows h))

-- rows that stand for others have their keys
pub keyed_back : (count : ℕ) (made : List CodeRow) (rs : List KeyRow) → map key_row_of made ≡ rs → All (IsKeyed count) rs → All (HasKeys count) made
keyed_back count made rs e h = λ k d l.
    let all : All (IsKeyed count) (map key_row_of made) = subst (All (IsKeyed count)) (sym e) h in
    subst (IsKeyed count) (get_or-map key_row_of made k d (key_row_of d) l) (all k (key_row_of d) (subst (λ n. k < n) (sym (length-map made key_row_of)) l))

-- and so have those that are made of the rows of a part
pub made_keyed : (count part : ℕ) (ns : List ℕ) (rows made : List CodeRow) → map key_row_of made ≡ placed_in part 0 ns (map key_row_of rows) → All (HasKeys count) rows → All (HasKeys count) made
made_keyed count part ns rows made e h = keyed_back count made (placed_in part 0 ns (map key_row_of rows)) e (part_keyed count part 0 ns rows h)

-- ---- two parts

chosen_same : (b : Bool) (x : ℕ) → (if b then x else x) ≡ x
chosen_same true x = refl
chosen_same false x = refl

-- a row's place is before those of all rows behind it
first_behind : (test : ℕ → Bool) (xs : List ℕ) (i none : ℕ) (ns : List ℕ) (rows : List KeyRow) → i + length rows ≤ none → i ≤ first_in test xs i none ns rows
first_behind test xs i none [] rows l = omega (arith, l)
first_behind test xs i none (n ∷ ns) [] l = omega (arith, l)
first_behind test xs i none (n ∷ ns) (r ∷ rows) l =
    step (test n && values_match r.values r.masks xs) (first_behind test xs (suc i) none ns rows (omega (arith, l)))
  where
    step : (b : Bool) → suc i ≤ first_in test xs (suc i) none ns rows → i ≤ (if b then i else first_in test xs (suc i) none ns rows)
    step true k = omega arith
    step false k = omega (arith, k)

one_step : (b c m : Bool) (i x y z : ℕ) → i < x → i < y → earlier x y ≡ z → earlier (if b && m then i else x) (if c && m then i else y) ≡ (if (b || c) && m then i else z)
one_step true true true i x y z k l e = chosen_same (nat_lt i i) i
one_step true true false i x y z k l e = e
one_step true false true i x y z k l e = ap (λ b. if b then y else i) (le-ltb y i (omega (arith, l)))
one_step true false false i x y z k l e = e
one_step false true true i x y z k l e = ap (λ b. if b then i else x) (lt-ltb i x k)
one_step false true false i x y z k l e = e
one_step false false m i x y z k l e = e

both_parts : (p q : ℕ → Bool) (xs : List ℕ) (i none : ℕ) (ns : List ℕ) (rows : List KeyRow) → i + length rows ≤ none
    → earlier (first_in p xs i none ns rows) (first_in q xs i none ns rows) ≡ first_in (λ n. p n || q n) xs i none ns rows
both_parts p q xs i none [] rows l = chosen_same (nat_lt none none) none
both_parts p q xs i none (n ∷ ns) [] l = chosen_same (nat_lt none none) none
both_parts p q xs i none (n ∷ ns) (r ∷ rows) l =
    one_step (p n) (q n) (values_match r.values r.masks xs) i (first_in p xs (suc i) none ns rows) (first_in q xs (suc i) none ns rows) (first_in (λ m. p m || q m) xs (suc i) none ns rows)
    (first_behind p xs (suc i) none ns rows (omega (arith, l))) (first_behind q xs (suc i) none ns rows (omega (arith, l)))
    (both_parts p q xs (suc i) none ns rows (omega (arith, l)))

-- ---- all parts

or_next : (a b c : Bool) → c ≡ true → (a || c) ≡ true
or_next true b c e = refl
or_next false b c e = e

none_below : (xs : List ℕ) (i none : ℕ) (ns : List ℕ) (rows : List KeyRow) → none ≡ first_in (λ n. nat_lt n 0) xs i none ns rows
none_below xs i none [] rows = refl
none_below xs i none (n ∷ ns) [] = refl
none_below xs i none (n ∷ ns) (r ∷ rows) = none_below xs (suc i) none ns rows ∙ sym (skipped (nat_lt n 0) (values_match r.values r.masks xs) (le-ltb n 0 (omega arith)))
  where
    skipped : (b m : Bool) → b ≡ false → (if b && m then i else first_in (λ k. nat_lt k 0) xs (suc i) none ns rows) ≡ first_in (λ k. nat_lt k 0) xs (suc i) none ns rows
    skipped true m e = absurd (cc)
    skipped false m e = refl

pub no_parts : (count : ℕ) (ns : List ℕ) (rows : List KeyRow) → FindPlaces count (λ n. nat_lt n 0) ns rows []
no_parts count ns rows xs l = none_below xs 0 (length rows) ns rows

least_push : (i : ℕ) (fs : List FlatRows) (f : FlatRows) (xs : List ℕ) → least_place i (fs ++ f ∷ []) xs ≡ earlier (least_place i fs xs) (looked_up f xs)
least_push i [] f xs = refl
least_push i (g ∷ fs) f xs = least_push (earlier i (looked_up g xs)) fs f xs

below_next : (n part : ℕ) → (nat_lt n part || (n == part)) ≡ nat_lt n (part + 1)
below_next n part = grind (arith, nat_tests)

pub one_more : (count part : ℕ) (ns : List ℕ) (rows : List KeyRow) (fs : List FlatRows) (f : FlatRows)
    → FindPlaces count (λ n. nat_lt n part) ns rows fs → FindsPlace count part ns rows f → FindPlaces count (λ n. nat_lt n (part + 1)) ns rows (fs ++ f ∷ [])
one_more count part ns rows fs f h g xs l =
    let none = length rows in
    least_push none fs f xs
    ∙ (λ k. earlier (h xs l k) (g xs l k))
    ∙ both_parts (λ n. nat_lt n part) (λ n. n == part) xs 0 none ns rows (omega arith)
    ∙ (λ k. first_in (λ n. below_next n part k) xs 0 none ns rows)

below_all : (most : ℕ) (xs : List ℕ) (i none : ℕ) (ns : List ℕ) (rows : List KeyRow) → All (λ n. n < most) ns
    → first_in (λ n. nat_lt n most) xs i none ns rows ≡ first_in (λ n. true) xs i none ns rows
below_all most xs i none [] rows h = refl
below_all most xs i none (n ∷ ns) [] h = refl
below_all most xs i none (n ∷ ns) (r ∷ rows) h =
    (λ k. if lt-ltb n most (h 0 n (omega arith)) k && values_match r.values r.masks xs then i
    else below_all most xs (suc i) none ns rows (λ j d l. h (suc j) d (omega arith)) k)

pub all_parts : (count most : ℕ) (ns : List ℕ) (rows : List KeyRow) (fs : List FlatRows) → All (λ n. n < most) ns
    → FindPlaces count (λ n. nat_lt n most) ns rows fs → FindPlaces count (λ n. true) ns rows fs
all_parts count most ns rows fs h g xs l = g xs l ∙ below_all most xs 0 (length rows) ns rows h

-- ---- the result at the place

place_on : (test : ℕ → Bool) (xs : List ℕ) (i none : ℕ) (ns : List ℕ) (rows : List KeyRow) → first_in test xs (suc i) (suc none) ns rows ≡ suc (first_in test xs i none ns rows)
place_on test xs i none [] rows = refl
place_on test xs i none (n ∷ ns) [] = refl
place_on test xs i none (n ∷ ns) (r ∷ rows) = step (test n && values_match r.values r.masks xs) (place_on test xs (suc i) none ns rows)
  where
    step : (b : Bool) → first_in test xs (suc (suc i)) (suc none) ns rows ≡ suc (first_in test xs (suc i) none ns rows)
        → (if b then suc i else first_in test xs (suc (suc i)) (suc none) ns rows) ≡ suc (if b then i else first_in test xs (suc i) none ns rows)
    step true e = refl
    step false e = e

pub result_there : (xs : List ℕ) (otherwise : ℕ) (ns : List ℕ) (rows : List KeyRow) → length ns ≡ length rows
    → get_or (results_of rows) (first_in (λ n. true) xs 0 (length rows) ns rows) otherwise ≡ table_result rows otherwise xs
result_there xs otherwise [] [] e = refl
result_there xs otherwise (n ∷ ns) [] e = absurd (let bad : suc (length ns) ≡ 0 = e in omega arith)
result_there xs otherwise [] (r ∷ rows) e = absurd (let bad : 0 ≡ suc (length rows) = e in omega arith)
result_there xs otherwise (n ∷ ns) (r ∷ rows) e = step (values_match r.values r.masks xs) (result_there xs otherwise ns rows (cc))
  where
    behind : ℕ
    behind = first_in (λ m. true) xs 1 (suc (length rows)) ns rows

    step : (m : Bool) → get_or (results_of rows) (first_in (λ k. true) xs 0 (length rows) ns rows) otherwise ≡ table_result rows otherwise xs
        → get_or (r.result ∷ results_of rows) (if m then 0 else behind) otherwise ≡ (if m then r.result else table_result rows otherwise xs)
    step true h = refl
    step false h = ap (λ k. get_or (r.result ∷ results_of rows) k otherwise) (place_on (λ k. true) xs 0 (length rows) ns rows) ∙ h

-- ---- how many parts there are

pub below_more : (ns : List ℕ) (i d old new : ℕ) → i < length ns → All (λ n. n < old) (take i ns) → old ≤ new → get_or ns i d < new → All (λ n. n < new) (take (i + 1) ns)
below_more ns i d old new l h m p =
    subst (All (λ n. n < new)) (sym (take_more ns i d l))
    (All-push (λ n. n < new) (take i ns) (get_or ns i d) (All-weaker (λ n. n < old) (λ n. n < new) (λ n q. omega (arith, q, m)) (take i ns) h) p)
