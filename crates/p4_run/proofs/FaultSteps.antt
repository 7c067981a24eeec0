-- One table, row or group more, in the search of a fault.
use Rattle.std.proofs.Common.{◌≡◌, ◌⊎◌, ℕ, suc, ◌+◌, ◌<◌, ◌≤◌, ◌==◌, ◌&&◌, ◌||◌, ◌++◌, not, Bool, true, false, if◌then◌else◌, List, [], ◌∷◌, length, map, take, drop, set, get_or, Option, Some, None, refl, sym, ◌∙◌, ap, inl, inr, arith}
use Rattle.std.proofs.lemmas.Bool.{and_right, cases_eq, eq-eqb, ne_eqb, or_right}
use Rattle.std.proofs.lemmas.List.{drop_more, get_or-set_other, get_or-set_same}
use Rattle.cocoon_num.specs.Lists.{ascend, has_number}
use Rattle.numbering.specs.NumberPlaces.{place_of}
use Rattle.p4_ir.specs.Loading.{group_fits, key_fits, keys_fit, table_numbers}
use Rattle.p4_ir.specs.NetOf.{group_of, table_rows_of}
use Rattle.p4_ir.specs.P4Tree.{Group, meta_width, P4Table, Program, TableRows}
use Rattle.p4_ir.specs.Program.{table_of}
use Rattle.p4_ir.specs.declared.program.Table.{Table as CodeTable}
use Rattle.p4_ir.specs.declared.rows.Group.{Group as CodeGroup}
use Rattle.p4_ir.specs.declared.rows.TableRows.{TableRows as CodeRows}
use Rattle.p4_run.specs.Faults.{first_group_shape, first_missing, first_unknown}
use Rattle.p4_run.proofs.GroupSteps.{group_numbers}
use Rattle.p4_run.proofs.PlaceSteps.{is_first, numbers_more}
use Rattle.p4_run.proofs.TestSteps.{has_one_more}

pub ascend_short : (ns : List ℕ) → length ns ≤ 1 → ascend ns ≡ true
ascend_short [] l = refl
ascend_short (n ∷ []) l = refl
ascend_short (n ∷ m ∷ ns) l = absurd (omega arith)

-- ---- keys

pub values_counted : (p : Program) (exact : Bool) (is vs ms : List ℕ) → (length vs ≡ length is → ⊥) → keys_fit p exact is vs ms ≡ false
values_counted p exact [] [] [] h = absurd (h refl)
values_counted p exact [] [] (m ∷ ms) h = refl
values_counted p exact [] (v ∷ vs) ms h = refl
values_counted p exact (i ∷ is) [] ms h = refl
values_counted p exact (i ∷ is) (v ∷ vs) [] h = refl
values_counted p exact (i ∷ is) (v ∷ vs) (m ∷ ms) h =
    and_right (key_fits exact (meta_width p i) v m) (keys_fit p exact is vs ms) (values_counted p exact is vs ms (λ e. h (ap suc e)))

pub masks_counted : (p : Program) (exact : Bool) (is vs ms : List ℕ) → (length ms ≡ length is → ⊥) → keys_fit p exact is vs ms ≡ false
masks_counted p exact [] [] [] h = absurd (h refl)
masks_counted p exact [] [] (m ∷ ms) h = refl
masks_counted p exact [] (v ∷ vs) ms h = refl
masks_counted p exact (i ∷ is) [] ms h = refl
masks_counted p exact (i ∷ is) (v ∷ vs) [] h = refl
masks_counted p exact (i ∷ is) (v ∷ vs) (m ∷ ms) h =
    and_right (key_fits exact (meta_width p i) v m) (keys_fit p exact is vs ms) (masks_counted p exact is vs ms (λ e. h (ap suc e)))

-- ---- tables that are not given

missing_step : (b : Bool) (n m : ℕ) (x y : Option ℕ) → (x ≡ Some n → y ≡ Some n) → (if b then x else Some m) ≡ Some n → (if b then y else Some m) ≡ Some n
missing_step true n m x y ih h = ih h
missing_step false n m x y ih h = h

pub missing_in_prefix : (g : List ℕ) (xs ys : List P4Table) (n : ℕ) → first_missing g xs ≡ Some n → first_missing g (xs ++ ys) ≡ Some n
missing_in_prefix g [] ys n h = absurd (cc)
missing_in_prefix g (x ∷ xs) ys n h = missing_step (has_number x.number g) n x.number (first_missing g xs) (first_missing g (xs ++ ys)) (missing_in_prefix g xs ys n) h

behind_step : (b : Bool) (m : ℕ) (x y z : Option ℕ) → (x ≡ None → y ≡ z) → (if b then x else Some m) ≡ None → (if b then y else Some m) ≡ z
behind_step true m x y z ih h = ih h
behind_step false m x y z ih h = absurd (cc)

pub missing_behind : (g : List ℕ) (xs ys : List P4Table) → first_missing g xs ≡ None → first_missing g (xs ++ ys) ≡ first_missing g ys
missing_behind g [] ys h = refl
missing_behind g (x ∷ xs) ys h = behind_step (has_number x.number g) x.number (first_missing g xs) (first_missing g (xs ++ ys)) (first_missing g ys) (missing_behind g xs ys) h

missing_more : (g : List ℕ) (tables : List CodeTable) (i : ℕ) (t : CodeTable) → i < length tables → t ≡ get_or tables i t
    → first_missing g (map table_of (drop i tables)) ≡ (if has_number t.number g then first_missing g (map table_of (drop (i + 1) tables)) else Some t.number)
missing_more g tables i t l e = ap (λ ts. first_missing g (map table_of ts)) (drop_more tables i t l ∙ ap (λ x. x ∷ drop (i + 1) tables) (sym e))

pub missing_goes : (g : List ℕ) (tables : List CodeTable) (i : ℕ) (t : CodeTable) (whole : Option ℕ) → i < length tables → t ≡ get_or tables i t → has_number t.number g ≡ true
    → first_missing g (map table_of (drop i tables)) ≡ whole → first_missing g (map table_of (drop (i + 1) tables)) ≡ whole
missing_goes g tables i t whole l e h w =
    sym (ap (λ b. if b then first_missing g (map table_of (drop (i + 1) tables)) else Some t.number) h) ∙ sym (missing_more g tables i t l e) ∙ w

pub missing_stops : (g : List ℕ) (tables : List CodeTable) (i : ℕ) (t : CodeTable) (whole : Option ℕ) → i < length tables → t ≡ get_or tables i t → has_number t.number g ≡ false
    → first_missing g (map table_of (drop i tables)) ≡ whole → Some t.number ≡ whole
missing_stops g tables i t whole l e h w =
    sym (ap (λ b. if b then first_missing g (map table_of (drop (i + 1) tables)) else Some t.number) h) ∙ sym (missing_more g tables i t l e) ∙ w

-- ---- tables that are not known

-- a number is known, and stands first at this place
abbrev pub is_new : List ℕ → List CodeRows → ℕ → ℕ → Bool
is_new numbers tables i n = has_number n numbers && (place_of (table_numbers (map table_rows_of tables)) n == i)

unknown_more : (numbers : List ℕ) (tables : List CodeRows) (i : ℕ) (t : CodeRows) → i < length tables → t ≡ get_or tables i t
    → first_unknown numbers (table_numbers (map table_rows_of (take i tables))) (map table_rows_of (drop i tables))
    ≡ (if is_new numbers tables i t.number
    then first_unknown numbers (table_numbers (map table_rows_of (take (i + 1) tables))) (map table_rows_of (drop (i + 1) tables)) else Some t.number)
unknown_more numbers tables i t l e =
    let before = table_numbers (map table_rows_of (take i tables)) in
    let rest = map table_rows_of (drop (i + 1) tables) in
    let cut : drop i tables ≡ t ∷ drop (i + 1) tables = drop_more tables i t l ∙ ap (λ x. x ∷ drop (i + 1) tables) (sym e) in
    let more : table_numbers (map table_rows_of (take (i + 1) tables)) ≡ before ++ t.number ∷ [] = numbers_more table_rows_of (λ (r : TableRows). r.number) tables i t l e in
    let first : not (has_number t.number before) ≡ (place_of (table_numbers (map table_rows_of tables)) t.number == i) = is_first table_rows_of (λ (r : TableRows). r.number) tables i t l e in
    ap (λ xs. first_unknown numbers before (map table_rows_of xs)) cut
    ∙ (λ k. if has_number t.number numbers && first k then first_unknown numbers (sym more k) rest else Some t.number)

pub unknown_goes : (numbers : List ℕ) (tables : List CodeRows) (i : ℕ) (t : CodeRows) (whole : Option ℕ) → i < length tables → t ≡ get_or tables i t
    → is_new numbers tables i t.number ≡ true
    → first_unknown numbers (table_numbers (map table_rows_of (take i tables))) (map table_rows_of (drop i tables)) ≡ whole
    → first_unknown numbers (table_numbers (map table_rows_of (take (i + 1) tables))) (map table_rows_of (drop (i + 1) tables)) ≡ whole
unknown_goes numbers tables i t whole l e h w =
    let after = first_unknown numbers (table_numbers (map table_rows_of (take (i + 1) tables))) (map table_rows_of (drop (i + 1) tables)) in
    sym (ap (λ b. if b then after else Some t.number) h) ∙ sym (unknown_more numbers tables i t l e) ∙ w

pub unknown_stops : (numbers : List ℕ) (tables : List CodeRows) (i : ℕ) (t : CodeRows) (whole : Option ℕ) → i < length tables → t ≡ get_or tables i t
    → is_new numbers tables i t.number ≡ false
    → first_unknown numbers (table_numbers (map table_rows_of (take i tables))) (map table_rows_of (drop i tables)) ≡ whole
    → Some t.number ≡ whole
unknown_stops numbers tables i t whole l e h w =
    let after = first_unknown numbers (table_numbers (map table_rows_of (take (i + 1) tables))) (map table_rows_of (drop (i + 1) tables)) in
    sym (ap (λ b. if b then after else Some t.number) h) ∙ sym (unknown_more numbers tables i t l e) ∙ w

-- ---- groups

pub numbers_taken : (groups : List CodeGroup) (i : ℕ) (g : CodeGroup) → i < length groups → g ≡ get_or groups i g
    → group_numbers (map group_of (take (i + 1) groups)) ≡ group_numbers (map group_of (take i groups)) ++ g.number ∷ []
numbers_taken groups i g l e = numbers_more group_of (λ (x : Group). x.number) groups i g l e

shape_more : (groups : List CodeGroup) (i : ℕ) (g : CodeGroup) → i < length groups → g ≡ get_or groups i g
    → first_group_shape (group_numbers (map group_of (take i groups))) i (map group_of (drop i groups))
    ≡ (if not (has_number g.number (group_numbers (map group_of (take i groups)))) && group_fits (group_of g)
    then first_group_shape (group_numbers (map group_of (take (i + 1) groups))) (i + 1) (map group_of (drop (i + 1) groups)) else Some i)
shape_more groups i g l e =
    let before = group_numbers (map group_of (take i groups)) in
    let rest = map group_of (drop (i + 1) groups) in
    let cut : drop i groups ≡ g ∷ drop (i + 1) groups = drop_more groups i g l ∙ ap (λ x. x ∷ drop (i + 1) groups) (sym e) in
    let next : suc i ≡ i + 1 = omega arith in
    ap (λ xs. first_group_shape before i (map group_of xs)) cut
    ∙ (λ k. if not (has_number g.number before) && group_fits (group_of g) then first_group_shape (sym (numbers_taken groups i g l e) k) (next k) rest else Some i)

pub shape_goes : (groups : List CodeGroup) (i : ℕ) (g : CodeGroup) (whole : Option ℕ) → i < length groups → g ≡ get_or groups i g
    → (not (has_number g.number (group_numbers (map group_of (take i groups)))) && group_fits (group_of g)) ≡ true
    → first_group_shape (group_numbers (map group_of (take i groups))) i (map group_of (drop i groups)) ≡ whole
    → first_group_shape (group_numbers (map group_of (take (i + 1) groups))) (i + 1) (map group_of (drop (i + 1) groups)) ≡ whole
shape_goes groups i g whole l e h w =
    let after = first_group_shape (group_numbers (map group_of (take (i + 1) groups))) (i + 1) (map group_of (drop (i + 1) groups)) in
    sym (ap (λ b. if b then after else Some i) h) ∙ sym (shape_more groups i g l e) ∙ w

pub shape_stops : (groups : List CodeGroup) (i : ℕ) (g : CodeGroup) (whole : Option ℕ) → i < length groups → g ≡ get_or groups i g
    → (not (has_number g.number (group_numbers (map group_of (take i groups)))) && group_fits (group_of g)) ≡ false
    → first_group_shape (group_numbers (map group_of (take i groups))) i (map group_of (drop i groups)) ≡ whole
    → Some i ≡ whole
shape_stops groups i g whole l e h w =
    let after = first_group_shape (group_numbers (map group_of (take (i + 1) groups))) (i + 1) (map group_of (drop (i + 1) groups)) in
    sym (ap (λ b. if b then after else Some i) h) ∙ sym (shape_more groups i g l e) ∙ w

seen_at : (seen : List Bool) (ns : List ℕ) (n k limit : ℕ) → length seen ≡ limit → n < limit → get_or seen k false ≡ has_number k ns → (k ≡ n) ⊎ (k ≡ n → ⊥)
    → get_or (set seen n true) k false ≡ (has_number k ns || (k == n))
seen_at seen ns n k limit m l h (inl e) =
    ap (λ j. get_or (set seen n true) j false) e ∙ get_or-set_same seen n true false (omega arith)
    ∙ sym (or_right (has_number k ns) (k == n) (eq-eqb k n e))
seen_at seen ns n k limit m l h (inr e) =
    get_or-set_other seen n k true false e ∙ h ∙ sym (ap (λ b. has_number k ns || b) (ne_eqb k n e) ∙ or_none (has_number k ns))
  where
    or_none : (a : Bool) → (a || false) ≡ a
    or_none true = refl
    or_none false = refl

pub seen_more : (seen : List Bool) (ns : List ℕ) (n limit : ℕ) → length seen ≡ limit → n < limit → ((k : ℕ) → k < limit → get_or seen k false ≡ has_number k ns)
    → (k : ℕ) → k < limit → get_or (set seen n true) k false ≡ has_number k (ns ++ n ∷ [])
seen_more seen ns n limit m l h k j = seen_at seen ns n k limit m l (h k j) (cases_eq k n) ∙ sym (has_one_more ns n k)
