-- The groups of a design have ascending members, each of 64 bits.
use Rattle.std.proofs.Common.{◌≡◌, ℕ, suc, ◌<◌, ◌^◌, ◌==◌, ◌&&◌, nat_lt, Bool, true, false, List, [], ◌∷◌, ◌++◌, map, All, slice_get, Option, Some, None, if◌then◌else◌, arith, refl, sym, ap₂, subst}
use Rattle.std.specs.Prelude.{flat_map}
use Rattle.std.specs.List.{AllZip}
use Rattle.std.proofs.lemmas.Bool.Decides.{nat_tests}
use Rattle.std.proofs.lemmas.List.Elements.{All-head, All-tail}
use Rattle.cocoon_num.specs.FunTables.{looked}
use Rattle.cocoon_num.specs.Lists.{ascend, each, is_one_of}
use Rattle.cocoon_num.specs.Names.{same_name}
use Rattle.cocoon_num.specs.Tree.{FunctionDecl, Design}
use Rattle.cocoon_num.specs.declared.fun_table.FunRow.{FunRow}
use Rattle.cocoon_num.specs.declared.fun_table.FunTable.{FunTable}
use Rattle.cocoon_types.specs.DefsRules.{fork_calls}
use Rattle.cocoon_types.specs.Design.{functions, widths_of}
use Rattle.cocoon_types.specs.Rules.{WellFormed}
use Rattle.lowering_correct.specs.Groups.{ForkGroup, Grouped, ascending, fork_groups, before_last, groups_at, groups_of, last_of, members_at, put_in, table_groups, true_choice, where_members}
use Rattle.lowering_correct.proofs.Found.{both-true}
use Rattle.lowering_correct.proofs.Widths.{AllNarrow, IsNarrow, narrow-function, narrow-numbers}
use Rattle.runtime_defs.specs.Fitting.{FitsDesign, FitsPlace, FitsRow, result_width}
use Rattle.runtime_defs.specs.Places.{Places}

-- each group has ascending members of 64 bits
abbrev pub GroupsRight : List ForkGroup → Type 0
GroupsRight [] = Unit {0}
GroupsRight (g ∷ gs) = (ascend g.grouped.members ≡ true) × (each (λ n. nat_lt n (2 ^ 64)) g.grouped.members ≡ true) × GroupsRight gs

-- ---- in order

-- the number is below the first of these
abbrev Leads : ℕ → List ℕ → Type 0
Leads x [] = Unit {0}
Leads x (y ∷ ys) = x < y

less-true : (x y : ℕ) → x < y → nat_lt x y ≡ true
less-true x y l = grind (arith, nat_tests, l)

ascend-cons : (x : ℕ) (ys : List ℕ) → Leads x ys → ascend ys ≡ true → ascend (x ∷ ys) ≡ true
ascend-cons x [] l h = refl
ascend-cons x (y ∷ ys) l h = ap₂ (◌&&◌) (less-true x y l) h

ascend-rest : (x : ℕ) (ys : List ℕ) → ascend (x ∷ ys) ≡ true → Leads x ys × (ascend ys ≡ true)
ascend-rest x [] h = (tt, refl)
ascend-rest x (y ∷ ys) h =
    let both = both-true (nat_lt x y) (ascend (y ∷ ys)) h in
    let under = both.0 in
    (grind (arith, nat_tests, under), both.1)

leads-put : (z x : ℕ) (ys : List ℕ) → z < x → Leads z ys → Leads z (put_in x ys)
leads-put z x [] l h = l
leads-put z x (y ∷ ys) l h = by (nat_lt x y) (x == y)
  where
    by : (a b : Bool) → Leads z (if a then x ∷ y ∷ ys else (if b then y ∷ ys else y ∷ put_in x ys))
    by true b = l
    by false true = h
    by false false = h

ascend-put : (x : ℕ) (ys : List ℕ) → ascend ys ≡ true → ascend (put_in x ys) ≡ true
ascend-put x [] h = refl
ascend-put x (y ∷ ys) h = by (nat_lt x y) (x == y) refl refl (ascend-rest y ys h) (ascend-put x ys)
  where
    by : (a b : Bool) → nat_lt x y ≡ a → (x == y) ≡ b → Leads y ys × (ascend ys ≡ true) → (ascend ys ≡ true → ascend (put_in x ys) ≡ true)
        → ascend (if a then x ∷ y ∷ ys else (if b then y ∷ ys else y ∷ put_in x ys)) ≡ true
    by true b e f r ih = ascend-cons x (y ∷ ys) (grind (arith, nat_tests, e)) h
    by false true e f r ih = h
    by false false e f r ih = ascend-cons y (put_in x ys) (leads-put y x ys (grind (arith, nat_tests, e, f)) r.0) (ih r.1)

ascend-all : (xs : List ℕ) → ascend (ascending xs) ≡ true
ascend-all [] = refl
ascend-all (x ∷ xs) = ascend-put x (ascending xs) (ascend-all xs)

-- ---- of 64 bits

abbrev Short : List ℕ → Type 0
Short ns = each (λ n. nat_lt n (2 ^ 64)) ns ≡ true

short-put : (x : ℕ) (ys : List ℕ) → nat_lt x (2 ^ 64) ≡ true → Short ys → Short (put_in x ys)
short-put x [] l h = ap₂ (◌&&◌) l h
short-put x (y ∷ ys) l h = by (nat_lt x y) (x == y) (both-true (nat_lt y (2 ^ 64)) (each (λ n. nat_lt n (2 ^ 64)) ys) h) (short-put x ys l)
  where
    by : (a b : Bool) → (nat_lt y (2 ^ 64) ≡ true) × Short ys → (Short ys → Short (put_in x ys)) → Short (if a then x ∷ y ∷ ys else (if b then y ∷ ys else y ∷ put_in x ys))
    by true b r ih = ap₂ (◌&&◌) l h
    by false true r ih = h
    by false false r ih = ap₂ (◌&&◌) r.0 (ih r.1)

short-all : (xs : List ℕ) → Short xs → Short (ascending xs)
short-all [] h = refl
short-all (x ∷ xs) h =
    let both = both-true (nat_lt x (2 ^ 64)) (each (λ n. nat_lt n (2 ^ 64)) xs) h in
    short-put x (ascending xs) both.0 (short-all xs both.1)

short-last : (vs : List ℕ) → Short vs → nat_lt (last_of vs) (2 ^ 64) ≡ true
short-last [] h = refl
short-last (v ∷ []) h = (both-true (nat_lt v (2 ^ 64)) true h).0
short-last (v ∷ u ∷ vs) h = short-last (u ∷ vs) (both-true (nat_lt v (2 ^ 64)) (each (λ n. nat_lt n (2 ^ 64)) (u ∷ vs)) h).1

short-both : (xs ys : List ℕ) → Short xs → Short ys → Short (xs ++ ys)
short-both [] ys h k = k
short-both (x ∷ xs) ys h k =
    let both = both-true (nat_lt x (2 ^ 64)) (each (λ n. nat_lt n (2 ^ 64)) xs) h in
    ap₂ (◌&&◌) both.0 (short-both xs ys both.1 k)

short-if : (b : Bool) (x : ℕ) → nat_lt x (2 ^ 64) ≡ true → Short (if b then x ∷ [] else [])
short-if true x h = ap₂ (◌&&◌) h refl
short-if false x h = refl

short-choices : (t : FunTable) (ws : List ℕ) (r : ℕ) (args : List ℕ) (rows : List FunRow) → AllNarrow ws → All (FitsRow ws r) rows → Short (flat_map (true_choice t args) rows)
short-choices t ws r args [] n f = refl
short-choices t ws r args (row ∷ rows) n f =
    short-both (true_choice t args row) (flat_map (true_choice t args) rows)
    (short-if (same_name args (before_last row.values) && ((looked t row.values).value == 1)) (last_of row.values)
    (short-last row.values (narrow-numbers ws row.values n (All-head (FitsRow ws r) row rows f).values_fit)))
    (short-choices t ws r args rows n (All-tail (FitsRow ws r) row rows f))

-- ---- all groups

right-both : (gs hs : List ForkGroup) → GroupsRight gs → GroupsRight hs → GroupsRight (gs ++ hs)
right-both [] hs h k = k
right-both (g ∷ gs) hs h k = (h.0, h.1, right-both gs hs h.2 k)

abbrev GroupedRight : List Grouped → Type 0
GroupedRight [] = Unit {0}
GroupedRight (g ∷ gs) = (ascend g.members ≡ true) × Short g.members × GroupedRight gs

grouped-both : (gs hs : List Grouped) → GroupedRight gs → GroupedRight hs → GroupedRight (gs ++ hs)
grouped-both [] hs h k = k
grouped-both (g ∷ gs) hs h k = (h.0, h.1, grouped-both gs hs h.2 k)

where-right : (args ms : List ℕ) → ascend ms ≡ true → Short ms → GroupedRight (where_members args ms)
where-right args [] h k = tt
where-right args (m ∷ ms) h k = (h, k, tt)

over-right : (t : FunTable) (r : ℕ) (lists : List (List ℕ)) → AllNarrow t.widths → All (FitsRow t.widths r) t.rows → GroupedRight (flat_map (λ args. where_members args (members_at t args)) lists)
over-right t r [] n f = tt
over-right t r (a ∷ lists) n f =
    grouped-both (where_members a (members_at t a)) (flat_map (λ args. where_members args (members_at t args)) lists)
    (where-right a (members_at t a) (ascend-all (flat_map (true_choice t a) t.rows)) (short-all (flat_map (true_choice t a) t.rows) (short-choices t t.widths r a t.rows n f)))
    (over-right t r lists n f)

named-right : (f : List ℕ) (gs : List Grouped) → GroupedRight gs → GroupsRight (map (λ g. record { function = f; grouped = g }) gs)
named-right f [] h = tt
named-right f (g ∷ gs) h = (h.0, h.1, named-right f gs h.2)

place-right : (h : FunctionDecl) (o : Option FunTable) → FitsPlace h o → AllNarrow (widths_of h.params) → GroupsRight (groups_at h o)
place-right h None z n = tt
place-right h (Some t) z n =
    named-right h.name.text (table_groups t) (over-right t (result_width h.result) _ (subst AllNarrow (sym z.1.widths_are) n) z.1.rows_fit)

right-if : (b : Bool) (gs : List ForkGroup) → GroupsRight gs → GroupsRight (if b then gs else [])
right-if true gs h = h
right-if false gs h = tt

all-right : (forked : List (List ℕ)) (fs : List FunctionDecl) (places : Places) → AllZip FitsPlace fs places → ((k : ℕ) (h : FunctionDecl) → slice_get fs k ≡ Some h → IsNarrow h) → GroupsRight (groups_of forked fs places)
all-right forked [] places z n = tt
all-right forked (h ∷ fs) [] z n = absurd z
all-right forked (h ∷ fs) (t ∷ places) z n =
    right-both (if is_one_of forked h.name.text then groups_at h t else []) (groups_of forked fs places)
    (right-if (is_one_of forked h.name.text) (groups_at h t) (place-right h t z.0 (n 0 h refl).params))
    (all-right forked fs places z.1 (λ k x there. n (suc k) x there))

pub groups-are-right : (d : Design) (places : Places) → WellFormed d → FitsDesign d places → GroupsRight (fork_groups d places)
groups-are-right d places w z = all-right (fork_calls d) (functions d) places z.places (narrow-function d w)
