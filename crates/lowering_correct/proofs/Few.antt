-- There are no more groups than rows, and no more rows than a text of definitions has.
use Rattle.std.proofs.Common.{◌≡◌, ℕ, suc, ◌+◌, ◌≤◌, Bool, true, false, List, [], ◌∷◌, ◌++◌, map, fold, length, length-append, slice_get, Option, Some, None, is_some, if◌then◌else◌, arith, refl, sym, ap, ap₂, ◌∙◌}
use Rattle.std.specs.Prelude.{flat_map, filter_map, option_map}
use Rattle.std.specs.List.{AllZip, cons_option}
use Rattle.std.proofs.lemmas.List.{length-map}
use Rattle.cocoon_num.specs.Lists.{first_of, is_one_of}
use Rattle.cocoon_num.specs.Names.{same_name}
use Rattle.cocoon_num.specs.Tree.{Expr, FunctionDecl, Pattern, a_default, a_row, DefsText, Design, Name}
use Rattle.cocoon_num.specs.Values.{Value}
use Rattle.cocoon_num.specs.declared.fun_table.FunRow.{FunRow}
use Rattle.cocoon_num.specs.declared.fun_table.FunTable.{FunTable}
use Rattle.cocoon_types.specs.DefsRules.{fork_calls}
use Rattle.cocoon_types.specs.Design.{functions}
use Rattle.cocoon_types.specs.Rules.{WellFormed}
use Rattle.cocoon_types.specs.Tables.{Table, default_of, row_of}
use Rattle.declarations.proofs.NameFacts.{same-true}
use Rattle.declarations.specs.NameNumbers.{firsts, index_of, with_name}
use Rattle.lowering_correct.specs.Groups.{ForkGroup, fork_groups, before_last, groups_at, groups_of, members_at, table_groups, where_members}
use Rattle.lowering_correct.specs.Totals.{rows_in}
use Rattle.runtime_defs.proofs.Distinct.{once, once-more, other-name, OnceAfter}
use Rattle.runtime_defs.specs.Bound.{IsBound, IsPlace, IsRow, row_count}
use Rattle.runtime_defs.specs.Places.{Places}

-- ---- groups

with-count : (b : Bool) (x : List ℕ) (acc : List (List ℕ)) → length (if b then acc else acc ++ x ∷ []) ≤ suc (length acc)
with-count true x acc = omega arith
with-count false x acc = let l = length-append acc (x ∷ []) in omega (arith, l)

fold-count : (acc xs : List (List ℕ)) → length (fold with_name acc xs) ≤ length acc + length xs
fold-count acc [] = omega arith
fold-count acc (x ∷ xs) =
    let l = fold-count (with_name acc x) xs in
    let m = with-count (is_some (index_of x acc)) x acc in
    omega (arith, l, m)

where-count : (args ms : List ℕ) → length (where_members args ms) ≤ 1
where-count args [] = omega arith
where-count args (m ∷ ms) = omega arith

over-count : (t : FunTable) (lists : List (List ℕ)) → length (flat_map (λ args. where_members args (members_at t args)) lists) ≤ length lists
over-count t [] = omega arith
over-count t (a ∷ lists) =
    let l = over-count t lists in
    let m = where-count a (members_at t a) in
    let n = length-append (where_members a (members_at t a)) (flat_map (λ args. where_members args (members_at t args)) lists) in
    omega (arith, l, m, n)

table-count : (t : FunTable) → length (table_groups t) ≤ length t.rows
table-count t =
    let all_before_last = map (λ (row : FunRow). before_last row.values) t.rows in
    let l = over-count t (firsts all_before_last) in
    let m = fold-count [] all_before_last in
    let n = length-map t.rows (λ (row : FunRow). before_last row.values) in
    omega (arith, l, m, n)

place-count : (f : FunctionDecl) (o : Option FunTable) (places : Places) (n : ℕ) → n ≤ rows_in places → (b : Bool) → length (if b then groups_at f o else []) + n ≤ rows_in (o ∷ places)
place-count f None places n l true = omega (arith, l)
place-count f None places n l false = omega (arith, l)
place-count f (Some t) places n l true =
    let m = table-count t in
    let k = length-map {B = ForkGroup} (table_groups t) (λ g. record { function = f.name.text; grouped = g }) in
    omega (arith, l, m, k)
place-count f (Some t) places n l false = omega (arith, l)

groups-count : (forked : List (List ℕ)) (fs : List FunctionDecl) (places : Places) → length (groups_of forked fs places) ≤ rows_in places
groups-count forked [] places = omega arith
groups-count forked (f ∷ fs) [] = omega arith
groups-count forked (f ∷ fs) (o ∷ places) =
    let here = if is_one_of forked f.name.text then groups_at f o else [] in
    let l = length-append here (groups_of forked fs places) in
    let m = place-count f o places (length (groups_of forked fs places)) (groups-count forked fs places) (is_one_of forked f.name.text) in
    omega (arith, l, m)

pub groups-few : (d : Design) (places : Places) → length (fork_groups d places) ≤ rows_in places
groups-few d places = groups-count (fork_calls d) (functions d) places

-- ---- rows of a text

-- the rows of these functions
abbrev rows-for : List FunctionDecl → DefsText → ℕ
rows-for [] es = 0
rows-for (f ∷ fs) es = length (filter_map (row_of f.name.text) es) + rows-for fs es

zip-count : {A B : Type 0} (R : A → B → Type 0) (xs : List A) (ys : List B) → AllZip R xs ys → length ys ≡ length xs
zip-count R [] [] z = refl
zip-count R [] (y ∷ ys) z = absurd z
zip-count R (x ∷ xs) [] z = absurd z
zip-count R (x ∷ xs) (y ∷ ys) z = ap suc (zip-count R xs ys z.1)

some-table : (es : DefsText) (f : FunctionDecl) (o : Option Value) (t : Table) → option_map (λ v. record { function = f.name; rows = filter_map (row_of f.name.text) es; otherwise = v }) o ≡ Some t → t.rows ≡ filter_map (row_of f.name.text) es
some-table es f None t h = absurd cc
some-table es f (Some v) t h = sym (ap (λ (u : Table). u.rows) (some-same (record { function = f.name; rows = filter_map (row_of f.name.text) es; otherwise = v }) t h))
  where
    some-same : (x y : Table) → Some x ≡ Some y → x ≡ y
    some-same x y k = cc

table-rows : (es : DefsText) (f : FunctionDecl) (t : Table) (b : Option Expr)
    → elim b [ Some e ↦ None | None ↦ option_map (λ v. record { function = f.name; rows = filter_map (row_of f.name.text) es; otherwise = v }) (first_of (filter_map (default_of f.name.text) es)) ] ≡ Some t
    → t.rows ≡ filter_map (row_of f.name.text) es
table-rows es f t None h = some-table es f (first_of (filter_map (default_of f.name.text) es)) t h
table-rows es f t (Some x) h = absurd cc

place-rows : (es : DefsText) (f : FunctionDecl) (o : Option FunTable) (places : Places) (n : ℕ) → IsPlace es f o → rows_in places ≤ n → rows_in (o ∷ places) ≤ length (filter_map (row_of f.name.text) es) + n
place-rows es f None places n z l = omega (arith, l)
place-rows es f (Some table) places n z l =
    let a = zip-count IsRow z.0.rows table.rows z.2.rows in
    let b = ap length (table-rows es f z.0 f.body z.1) in
    omega (arith, a, b, l)

places-rows : (es : DefsText) (fs : List FunctionDecl) (places : Places) → AllZip (IsPlace es) fs places → rows_in places ≤ rows-for fs es
places-rows es [] [] z = omega arith
places-rows es [] (o ∷ places) z = absurd z
places-rows es (f ∷ fs) [] z = absurd z
places-rows es (f ∷ fs) (o ∷ places) z = place-rows es f o places (rows-for fs es) z.0 (places-rows es fs places z.1)

none-for : (fs : List FunctionDecl) → rows-for fs [] ≡ 0
none-for [] = refl
none-for (f ∷ fs) = let l = none-for fs in omega (arith, l)

default-for : (fs : List FunctionDecl) (g : Name) (v : Value) (es : DefsText) → rows-for fs (a_default g v ∷ es) ≡ rows-for fs es
default-for [] g v es = refl
default-for (f ∷ fs) g v es = ap (λ n. length (filter_map (row_of f.name.text) es) + n) (default-for fs g v es)

-- no function has this name
others-for : (fs : List FunctionDecl) (g : Name) (ps : List Pattern) (v : Value) (es : DefsText) → ((k : ℕ) (h : FunctionDecl) → slice_get fs k ≡ Some h → same_name h.name.text g.text ≡ false)
    → rows-for fs (a_row g ps v ∷ es) ≡ rows-for fs es
others-for [] g ps v es other = refl
others-for (f ∷ fs) g ps v es other =
    ap₂ (λ m n. m + n) (ap (λ b. length (cons_option (if b then Some (record { patterns = ps; value = v }) else None) (filter_map (row_of f.name.text) es))) (other 0 f refl))
    (others-for fs g ps v es (λ k h there. other (suc k) h there))

by-name : (f : FunctionDecl) (fs : List FunctionDecl) (seen : List Name) (g : Name) (ps : List Pattern) (v : Value) (es : DefsText) → OnceAfter seen (f ∷ fs) → rows-for fs (a_row g ps v ∷ es) ≤ suc (rows-for fs es)
    → (b : Bool) → same_name f.name.text g.text ≡ b → rows-for (f ∷ fs) (a_row g ps v ∷ es) ≤ suc (rows-for (f ∷ fs) es)
by-name f fs seen g ps v es o ih true e =
    let here = ap (λ b. length (cons_option (if b then Some (record { patterns = ps; value = v }) else None) (filter_map (row_of f.name.text) es))) e in
    let rest = others-for fs g ps v es (λ k h there. ap (same_name h.name.text) (sym (same-true f.name.text g.text e)) ∙ other-name seen f fs k h o there) in
    omega (arith, here, rest)
by-name f fs seen g ps v es o ih false e =
    let here = ap (λ b. length (cons_option (if b then Some (record { patterns = ps; value = v }) else None) (filter_map (row_of f.name.text) es))) e in
    omega (arith, here, ih)

row-for : (fs : List FunctionDecl) (seen : List Name) (g : Name) (ps : List Pattern) (v : Value) (es : DefsText) → OnceAfter seen fs → rows-for fs (a_row g ps v ∷ es) ≤ suc (rows-for fs es)
row-for [] seen g ps v es o = omega arith
row-for (f ∷ fs) seen g ps v es o = by-name f fs seen g ps v es o (row-for fs (f.name ∷ seen) g ps v es (once-more seen f fs o)) (same_name f.name.text g.text) refl

-- a text has no fewer rows than these functions
text-rows : (fs : List FunctionDecl) (es : DefsText) → OnceAfter [] fs → rows-for fs es ≤ row_count es
text-rows fs [] o = let l = none-for fs in omega (arith, l)
text-rows fs (a_default g v ∷ es) o =
    let l = default-for fs g v es in
    let m = text-rows fs es o in
    omega (arith, l, m)
text-rows fs (a_row g ps v ∷ es) o =
    let l = row-for fs [] g ps v es o in
    let m = text-rows fs es o in
    omega (arith, l, m)

pub rows-few : (d : Design) (es : DefsText) (places : Places) → WellFormed d → IsBound d es places → rows_in places ≤ row_count es
rows-few d es places w b =
    let l = places-rows es (functions d) places b.tables in
    let m = text-rows (functions d) es (once d w) in
    omega (arith, l, m)
