-- The members of a group are the choices at which its function is true.
use Rattle.std.proofs.Common.{◌≡◌, ℕ, ◌≤◌, ◌==◌, ◌&&◌, ◌||◌, nat_lt, Bool, true, false, List, [], ◌∷◌, ◌++◌, length, All, Some, if◌then◌else◌, arith, refl, sym, ap, ap₂, subst, ◌∙◌}
use Rattle.std.specs.Prelude.{flat_map}
use Rattle.std.specs.List.{list_any}
use Rattle.std.proofs.lemmas.Bool.Decides.{nat_tests}
use Rattle.std.proofs.lemmas.List.Elements.{All-head, All-tail}
use Rattle.std.proofs.lemmas.List.Folds.{list_any-append}
use Rattle.cocoon_num.specs.FunTables.{looked, row_matches}
use Rattle.cocoon_num.specs.Lists.{has_number, is_one_of}
use Rattle.cocoon_num.specs.Names.{same_name}
use Rattle.cocoon_num.specs.Rows.{values_match, first_match}
use Rattle.cocoon_num.specs.Tree.{Param, ResultKind, of_width, of_truth, FunctionDecl, Design}
use Rattle.cocoon_num.specs.Values.{truth}
use Rattle.cocoon_num.specs.declared.bits.Bits.{Bits}
use Rattle.cocoon_num.specs.declared.fun_table.FunRow.{FunRow}
use Rattle.cocoon_num.specs.declared.fun_table.FunTable.{FunTable}
use Rattle.cocoon_types.specs.DefsRules.{fork_calls, guard_calls, runtime_named}
use Rattle.cocoon_types.specs.Design.{widths_of}
use Rattle.cocoon_types.specs.Rules.{WellFormed}
use Rattle.cocoon_types.specs.Tables.{Defs}
use Rattle.declarations.proofs.NameFacts.{same-refl, same-true}
use Rattle.runtime_defs.specs.Printable.{literal_functions}
use Rattle.lowering.specs.Lower.{Made}
use Rattle.lowering_correct.specs.Groups.{ascending, before_last, last_of, members_at, put_in, true_choice}
use Rattle.lowering.specs.Serving.{GroupsServe, is_true, MembersFit}
use Rattle.lowering_correct.specs.SwitchRows.{switch_rows}
use Rattle.lowering_correct.proofs.Chosen.{members-are}
use Rattle.lowering_correct.proofs.Exact.{before-last-is, joined, last-is, ones-match}
use Rattle.lowering_correct.proofs.Found.{gives, params-fit, Tabled, tabled, widths-fit}
use Rattle.lowering_correct.specs.Logs.{filling}
use Rattle.runtime_defs.specs.Fitting.{all_ones, FitsDesign, FitsRow, IsLiteral, result_width}
use Rattle.runtime_defs.specs.Places.{Places, all_fit_widths, result_value}
use Rattle.runtime_defs.specs.Stands.{Stands}

number-is : (a b : ℕ) → (a == b) ≡ true → a ≡ b
number-is a b h = grind (arith, nat_tests, h)

same-number : (n : ℕ) → (n == n) ≡ true
same-number n = grind (arith, nat_tests)

-- ---- in order

has-cond : (x y z : ℕ) (zs us : List ℕ) → has_number x us ≡ ((x == y) || has_number x zs) → (a b : Bool) → (y == z) ≡ b
    → has_number x (if a then y ∷ z ∷ zs else (if b then z ∷ zs else z ∷ us)) ≡ ((x == y) || ((x == z) || has_number x zs))
has-cond x y z zs us h true b e = refl
has-cond x y z zs us h false true e = twice (x == z) ∙ ap (λ w. (x == w) || ((x == z) || has_number x zs)) (sym (number-is y z e))
  where
    twice : (c : Bool) → (c || has_number x zs) ≡ (c || (c || has_number x zs))
    twice true = refl
    twice false = refl
has-cond x y z zs us h false false e = ap (λ c. (x == z) || c) h ∙ turn (x == z) (x == y) (has_number x zs)
  where
    turn : (a b c : Bool) → (a || (b || c)) ≡ (b || (a || c))
    turn true true c = refl
    turn true false c = refl
    turn false true c = refl
    turn false false c = refl

has-put : (x y : ℕ) (zs : List ℕ) → has_number x (put_in y zs) ≡ ((x == y) || has_number x zs)
has-put x y [] = refl
has-put x y (z ∷ zs) = has-cond x y z zs (put_in y zs) (has-put x y zs) (nat_lt y z) (y == z) refl

has-ascending : (x : ℕ) (ys : List ℕ) → has_number x (ascending ys) ≡ has_number x ys
has-ascending x [] = refl
has-ascending x (y ∷ ys) = has-put x y (ascending ys) ∙ ap (λ b. (x == y) || b) (has-ascending x ys)

-- ---- one row

-- a row has this choice after these arguments
record RowOf (ns : List ℕ) (x : ℕ) (vs : List ℕ) : Type 0 where
  before_last : ns ≡ before_last vs
  last : x ≡ last_of vs

choice-of : (t : FunTable) (ns vs : List ℕ) (x : ℕ) (a b : Bool) → same_name ns (before_last vs) ≡ a → has_number x (if a && b then last_of vs ∷ [] else []) ≡ true → RowOf ns x vs
choice-of t ns vs x true true e h = record { before_last = same-true ns (before_last vs) e; last = only (x == last_of vs) refl h }
  where
    only : (c : Bool) → (x == last_of vs) ≡ c → (c || false) ≡ true → x ≡ last_of vs
    only true k l = number-is x (last_of vs) k
    only false k l = absurd cc
choice-of t ns vs x true false e h = absurd cc
choice-of t ns vs x false b e h = absurd cc

-- with as many values as widths, and at least one, a row is its arguments and its choice
row-of : (ps : List Param) (ns vs : List ℕ) (x : ℕ) → 1 ≤ length ps → all_fit_widths (widths_of ps) vs ≡ true → RowOf ns x vs → ns ++ (x ∷ []) ≡ vs
row-of [] ns vs x l f h = absurd (omega (arith, l))
row-of (p ∷ ps) ns [] x l f h = absurd cc
row-of (p ∷ ps) ns (v ∷ vs) x l f h = ap₂ (λ a b. a ++ (b ∷ [])) h.before_last h.last ∙ joined v vs

some-params : (ps : List Param) (ns : List ℕ) (x : ℕ) → all_fit_widths (widths_of ps) (ns ++ (x ∷ [])) ≡ true → 1 ≤ length ps
some-params [] [] x h = absurd cc
some-params [] (n ∷ ns) x h = absurd cc
some-params (p ∷ ps) ns x h = omega arith

-- the choice of a row that is these numbers
right-choice : (t : FunTable) (ns : List ℕ) (x : ℕ) (vs : List ℕ) → ns ++ (x ∷ []) ≡ vs
    → has_number x (if same_name ns (before_last vs) && ((looked t vs).value == 1) then last_of vs ∷ [] else []) ≡ ((looked t (ns ++ (x ∷ []))).value == 1)
right-choice t ns x vs e =
    ap (λ us. has_number x (if same_name ns (before_last us) && ((looked t us).value == 1) then last_of us ∷ [] else [])) (sym e)
    ∙ ap₂ (λ l m. has_number x (if same_name ns l && ((looked t (ns ++ (x ∷ []))).value == 1) then m ∷ [] else [])) (before-last-is ns x) (last-is ns x)
    ∙ ap (λ b. has_number x (if b && ((looked t (ns ++ (x ∷ []))).value == 1) then x ∷ [] else [])) (same-refl ns)
    ∙ alone ((looked t (ns ++ (x ∷ []))).value == 1)
  where
    alone : (b : Bool) → has_number x (if true && b then x ∷ [] else []) ≡ b
    alone true = ap (λ c. c || false) (same-number x)
    alone false = refl

wrong-choice : (t : FunTable) (ps : List Param) (ns : List ℕ) (x : ℕ) (vs : List ℕ) → 1 ≤ length ps → all_fit_widths (widths_of ps) vs ≡ true → same_name (ns ++ (x ∷ [])) vs ≡ false
    → (b : Bool) → has_number x (if same_name ns (before_last vs) && ((looked t vs).value == 1) then last_of vs ∷ [] else []) ≡ b → b ≡ false
wrong-choice t ps ns x vs l f s true h =
    absurd (clash (same_name (ns ++ (x ∷ [])) vs) (ap (λ us. same_name us vs) (row-of ps ns vs x l f (choice-of t ns vs x (same_name ns (before_last vs)) ((looked t vs).value == 1) refl h)) ∙ same-refl vs) s)
  where
    clash : (c : Bool) → c ≡ true → c ≡ false → ⊥
    clash true p q = cc
    clash false p q = cc
wrong-choice t ps ns x vs l f s false h = refl

one-choice : (t : FunTable) (ps : List Param) (ns : List ℕ) (x : ℕ) (row : FunRow) → 1 ≤ length ps → all_fit_widths (widths_of ps) row.values ≡ true → (b : Bool) → same_name (ns ++ (x ∷ [])) row.values ≡ b
    → has_number x (true_choice t ns row) ≡ (b && ((looked t (ns ++ (x ∷ []))).value == 1))
one-choice t ps ns x row l f true s = right-choice t ns x row.values (same-true (ns ++ (x ∷ [])) row.values s)
one-choice t ps ns x row l f false s = wrong-choice t ps ns x row.values l f s (has_number x (true_choice t ns row)) refl

-- ---- all rows

abbrev MasksOnes : List ℕ → FunRow → Type 0
MasksOnes ws row = row.masks ≡ all_ones ws

row-at : (ws xs : List ℕ) (r : ℕ) (row : FunRow) → FitsRow ws r row → MasksOnes ws row → all_fit_widths ws xs ≡ true → row_matches xs row ≡ same_name xs row.values
row-at ws xs r row f m h = ap (λ ms. values_match row.values ms xs) m ∙ ones-match ws row.values xs f.values_fit h

spread : (a b c : Bool) → ((a && c) || (b && c)) ≡ ((a || b) && c)
spread true true true = refl
spread true true false = refl
spread true false true = refl
spread true false false = refl
spread false b c = refl

choices-are : (t : FunTable) (ps : List Param) (r : ℕ) (ns : List ℕ) (x : ℕ) (rows : List FunRow) → 1 ≤ length ps → All (FitsRow (widths_of ps) r) rows → All (MasksOnes (widths_of ps)) rows
    → all_fit_widths (widths_of ps) (ns ++ (x ∷ [])) ≡ true
    → has_number x (flat_map (true_choice t ns) rows) ≡ (list_any (row_matches (ns ++ (x ∷ []))) rows && ((looked t (ns ++ (x ∷ []))).value == 1))
choices-are t ps r ns x [] l f m h = refl
choices-are t ps r ns x (row ∷ rows) l f m h =
    let fits = All-head (FitsRow (widths_of ps) r) row rows f in
    let ones = All-head (MasksOnes (widths_of ps)) row rows m in
    let value = (looked t (ns ++ (x ∷ []))).value == 1 in
    list_any-append (λ n. x == n) (true_choice t ns row) (flat_map (true_choice t ns) rows)
    ∙ ap₂ (◌||◌) (one-choice t ps ns x row l fits.values_fit (same_name (ns ++ (x ∷ [])) row.values) refl
    ∙ ap (λ b. b && value) (sym (row-at (widths_of ps) (ns ++ (x ∷ [])) r row fits ones h)))
    (choices-are t ps r ns x rows l (All-tail (FitsRow (widths_of ps) r) row rows f) (All-tail (MasksOnes (widths_of ps)) row rows m) h)
    ∙ spread (row_matches (ns ++ (x ∷ [])) row) (list_any (row_matches (ns ++ (x ∷ []))) rows) value

-- where no row matches there is the default
none-matches : (xs : List ℕ) (rows : List FunRow) (d : Bits) → list_any (row_matches xs) rows ≡ false → first_match (row_matches xs) (λ (row : FunRow). row.result) rows d ≡ d
none-matches xs [] d h = refl
none-matches xs (row ∷ rows) d h =
    let both = or-both (row_matches xs row) (list_any (row_matches xs) rows) h in
    ap (λ b. if b then row.result else first_match (row_matches xs) (λ (r : FunRow). r.result) rows d) both.0 ∙ none-matches xs rows d both.1
  where
    or-both : (a b : Bool) → (a || b) ≡ false → (a ≡ false) × (b ≡ false)
    or-both true b h = absurd cc
    or-both false b h = (refl, h)

matched : (t : FunTable) (xs : List ℕ) → (t.default.value == 1) ≡ false → (b : Bool) → list_any (row_matches xs) t.rows ≡ b → (b && ((looked t xs).value == 1)) ≡ ((looked t xs).value == 1)
matched t xs z true h = refl
matched t xs z false h = sym (ap (λ (b : Bits). b.value == 1) (none-matches xs t.rows t.default h) ∙ z)

-- ---- truth values

default-false : (kind : ResultKind) (b : Bits) → result_value kind b ≡ truth false → (kind ≡ of_truth) × ((b.value == 1) ≡ false)
default-false (of_width w) b h = absurd cc
default-false of_truth b h = (refl, cc)

literal-at : (d : Design) (places : Places) (f : List ℕ) (g : FunctionDecl) → FitsDesign d places → is_one_of (fork_calls d) f ≡ true → (t : Tabled d places f g) → IsLiteral g t.table
literal-at d places f g z m t = z.literal t.number g t.table t.there t.at (ap (is_one_of (literal_functions d)) (sym t.same) ∙ among)
  where
    either : (a b : Bool) → b ≡ true → (a || b) ≡ true
    either true b h = refl
    either false b h = h

    among : is_one_of (literal_functions d) f ≡ true
    among = list_any-append (λ y. same_name y f) (guard_calls d) (fork_calls d) ∙ either (is_one_of (guard_calls d) f) (is_one_of (fork_calls d) f) m

members-true : (t : FunTable) (g : FunctionDecl) (ns : List ℕ) (x : ℕ) → t.widths ≡ widths_of g.params → All (FitsRow t.widths (result_width g.result)) t.rows → IsLiteral g t
    → all_fit_widths (widths_of g.params) (ns ++ (x ∷ [])) ≡ true
    → has_number x (members_at t ns) ≡ is_true (Some (result_value g.result (looked t (ns ++ (x ∷ [])))))
members-true t g ns x e f l h =
    let truths = default-false g.result t.default l.default_false in
    let xs = ns ++ (x ∷ []) in
    has-ascending x (flat_map (true_choice t ns) t.rows)
    ∙ choices-are t g.params (result_width g.result) ns x t.rows (some-params g.params ns x h) (subst (λ ws. All (FitsRow ws (result_width g.result)) t.rows) e f)
    (subst (λ ws. All (MasksOnes ws) t.rows) e l.masks_ones) h
    ∙ matched t xs truths.1 (list_any (row_matches xs) t.rows) refl
    ∙ sym (ap (λ kind. is_true (Some (result_value kind (looked t xs)))) truths.0)

pub groups-serve : (d : Design) (places : Places) (defs : Defs) (made : List Made) (f : List ℕ) (g : FunctionDecl) → WellFormed d → FitsDesign d places → Stands d places defs
    → is_one_of (fork_calls d) f ≡ true → runtime_named d f ≡ Some g → GroupsServe (filling d places defs) (switch_rows d places made) f g.params
groups-serve d places defs made f g w z s m r ns x h =
    let t = tabled d places f g z r in
    let fits = widths-fit g.params (ns ++ (x ∷ [])) h in
    ap (has_number x) (members-are d places f ns g w m t)
    ∙ members-true t.table g ns x t.fits.widths_are t.fits.rows_fit (literal-at d places f g z m t) fits
    ∙ ap is_true (sym (gives d places defs f g s t (ns ++ (x ∷ [])) fits))

-- ---- members fit

fits-by : (t : FunTable) (ps : List Param) (ns : List ℕ) (x : ℕ) (row : FunRow) (rest : List ℕ) → 1 ≤ length ps → all_fit_widths (widths_of ps) row.values ≡ true
    → (has_number x rest ≡ true → all_fit_widths (widths_of ps) (ns ++ (x ∷ [])) ≡ true) → (b : Bool) → has_number x (true_choice t ns row) ≡ b → (b || has_number x rest) ≡ true
    → all_fit_widths (widths_of ps) (ns ++ (x ∷ [])) ≡ true
fits-by t ps ns x row rest l f ih true e h =
    ap (all_fit_widths (widths_of ps)) (row-of ps ns row.values x l f (choice-of t ns row.values x (same_name ns (before_last row.values)) ((looked t row.values).value == 1) refl e)) ∙ f
fits-by t ps ns x row rest l f ih false e h = ih h

choices-fit : (t : FunTable) (ps : List Param) (r : ℕ) (ns : List ℕ) (x : ℕ) (rows : List FunRow) → 1 ≤ length ps → All (FitsRow (widths_of ps) r) rows
    → has_number x (flat_map (true_choice t ns) rows) ≡ true → all_fit_widths (widths_of ps) (ns ++ (x ∷ [])) ≡ true
choices-fit t ps r ns x [] l f h = absurd cc
choices-fit t ps r ns x (row ∷ rows) l f h =
    fits-by t ps ns x row (flat_map (true_choice t ns) rows) l (All-head (FitsRow (widths_of ps) r) row rows f).values_fit
    (choices-fit t ps r ns x rows l (All-tail (FitsRow (widths_of ps) r) row rows f)) (has_number x (true_choice t ns row)) refl
    (sym (list_any-append (λ n. x == n) (true_choice t ns row) (flat_map (true_choice t ns) rows)) ∙ h)

pub members-fit : (d : Design) (places : Places) (defs : Defs) (made : List Made) (f : List ℕ) (g : FunctionDecl) → WellFormed d → FitsDesign d places → 1 ≤ length g.params
    → is_one_of (fork_calls d) f ≡ true → runtime_named d f ≡ Some g → MembersFit (filling d places defs) (switch_rows d places made) f g.params
members-fit d places defs made f g w z l m r ns x h k =
    let t = tabled d places f g z r in
    params-fit g.params (ns ++ (x ∷ []))
    (choices-fit t.table g.params (result_width g.result) ns x t.table.rows l (subst (λ ws. All (FitsRow ws (result_width g.result)) t.table.rows) t.fits.widths_are t.fits.rows_fit)
    (sym (has-ascending x (flat_map (true_choice t.table ns) t.table.rows)) ∙ ap (has_number x) (sym (members-are d places f ns g w m t)) ∙ k))
