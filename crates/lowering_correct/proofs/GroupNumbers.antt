-- The rows of a fork's table give the numbers of the groups.
use Rattle.std.proofs.Common.{◌≡◌, ℕ, suc, ◌&&◌, Bool, true, false, List, [], ◌∷◌, ◌++◌, map, All, slice_get, Option, Some, None, if◌then◌else◌, refl, sym, ap, ◌∙◌}
use Rattle.std.specs.Prelude.{flat_map}
use Rattle.std.specs.List.{AllZip}
use Rattle.std.proofs.lemmas.List.Elements.{All-head, All-tail}
use Rattle.cocoon_num.specs.Lists.{is_one_of}
use Rattle.cocoon_num.specs.Names.{same_name}
use Rattle.cocoon_num.specs.Rows.{values_match}
use Rattle.cocoon_num.specs.Tree.{FunctionDecl, Design}
use Rattle.cocoon_num.specs.declared.fun_table.FunRow.{FunRow}
use Rattle.cocoon_num.specs.declared.fun_table.FunTable.{FunTable}
use Rattle.cocoon_types.specs.DefsRules.{fork_calls, runtime_named}
use Rattle.cocoon_types.specs.Design.{functions, widths_of}
use Rattle.cocoon_types.specs.Rules.{WellFormed}
use Rattle.lowering.specs.Lower.{params_before_last}
use Rattle.lowering_correct.specs.Groups.{ForkGroup, Grouped, fork_groups, before_last, groups_at, groups_of, members_at, number_from, table_groups, where_members}
use Rattle.lowering_correct.specs.SwitchRows.{rows_from}
use Rattle.lowering_correct.proofs.Exact.{each-first, EachFits, before-last-fits, ones-match}
use Rattle.lowering_correct.proofs.Found.{only-one}
use Rattle.p4_ir.specs.Switch.{table_result}
use Rattle.runtime_defs.specs.Fitting.{all_ones, FitsDesign, FitsPlace, FitsRow, result_width}
use Rattle.runtime_defs.specs.Places.{Places, all_fit_widths}

-- the arguments of the groups of this function fit these widths
abbrev pub GroupsFit : List ℕ → List ℕ → List ForkGroup → Type 0
GroupsFit ws f [] = Unit {0}
GroupsFit ws f (g ∷ gs) = (same_name f g.function ≡ true → all_fit_widths ws g.grouped.args ≡ true) × GroupsFit ws f gs

groups-both : (ws f : List ℕ) (gs hs : List ForkGroup) → GroupsFit ws f gs → GroupsFit ws f hs → GroupsFit ws f (gs ++ hs)
groups-both ws f [] hs h k = k
groups-both ws f (g ∷ gs) hs h k = (h.0, groups-both ws f gs hs h.1 k)

-- ---- one function

-- the arguments of groups, where they fit if the function is this one
abbrev GroupedFit : List ℕ → Type 0 → List Grouped → Type 0
GroupedFit ws P [] = Unit {0}
GroupedFit ws P (g ∷ gs) = (P → all_fit_widths ws g.args ≡ true) × GroupedFit ws P gs

grouped-both : (ws : List ℕ) (P : Type 0) (gs hs : List Grouped) → GroupedFit ws P gs → GroupedFit ws P hs → GroupedFit ws P (gs ++ hs)
grouped-both ws P [] hs h k = k
grouped-both ws P (g ∷ gs) hs h k = (h.0, grouped-both ws P gs hs h.1 k)

where-fit : (ws : List ℕ) (P : Type 0) (args ms : List ℕ) → (P → all_fit_widths ws args ≡ true) → GroupedFit ws P (where_members args ms)
where-fit ws P args [] h = tt
where-fit ws P args (m ∷ ms) h = (h, tt)

all-grouped : (ws : List ℕ) (P : Type 0) (t : FunTable) (lists : List (List ℕ)) → (P → EachFits ws lists) → GroupedFit ws P (flat_map (λ args. where_members args (members_at t args)) lists)
all-grouped ws P t [] h = tt
all-grouped ws P t (a ∷ lists) h =
    grouped-both ws P (where_members a (members_at t a)) (flat_map (λ args. where_members args (members_at t args)) lists)
    (where-fit ws P a (members_at t a) (λ p. (h p).0)) (all-grouped ws P t lists (λ p. (h p).1))

named-groups : (ws f f' : List ℕ) (gs : List Grouped) → GroupedFit ws (same_name f f' ≡ true) gs → GroupsFit ws f (map (λ g. record { function = f'; grouped = g }) gs)
named-groups ws f f' [] h = tt
named-groups ws f f' (g ∷ gs) h = (h.0, named-groups ws f f' gs h.1)

each-before-last-fits : (g : FunctionDecl) (ws : List ℕ) (r : ℕ) (rows : List FunRow) → ws ≡ widths_of g.params → All (FitsRow ws r) rows → EachFits (widths_of (params_before_last g.params)) (map (λ (row : FunRow). before_last row.values) rows)
each-before-last-fits g ws r [] e f = tt
each-before-last-fits g ws r (row ∷ rows) e f =
    (before-last-fits g.params row.values (ap (λ us. all_fit_widths us row.values) (sym e) ∙ (All-head (FitsRow ws r) row rows f).values_fit), each-before-last-fits g ws r rows e (All-tail (FitsRow ws r) row rows f))

place-groups : (f : List ℕ) (g h : FunctionDecl) (o : Option FunTable) → FitsPlace h o → (same_name f h.name.text ≡ true → h ≡ g) → GroupsFit (widths_of (params_before_last g.params)) f (groups_at h o)
place-groups f g h None z one = tt
place-groups f g h (Some t) z one =
    named-groups (widths_of (params_before_last g.params)) f h.name.text (table_groups t)
    (all-grouped (widths_of (params_before_last g.params)) (same_name f h.name.text ≡ true) t _
    (λ s. each-first (widths_of (params_before_last g.params)) (map (λ (row : FunRow). before_last row.values) t.rows)
    (each-before-last-fits g t.widths (result_width h.result) t.rows (z.1.widths_are ∙ ap (λ (x : FunctionDecl). widths_of x.params) (one s)) z.1.rows_fit)))

-- ---- all functions

either-groups : (ws f : List ℕ) (b : Bool) (gs : List ForkGroup) → GroupsFit ws f gs → GroupsFit ws f (if b then gs else [])
either-groups ws f true gs h = h
either-groups ws f false gs h = tt

all-groups : (forked : List (List ℕ)) (f : List ℕ) (g : FunctionDecl) (fs : List FunctionDecl) (places : Places) → AllZip FitsPlace fs places
    → ((k : ℕ) (h : FunctionDecl) → slice_get fs k ≡ Some h → same_name f h.name.text ≡ true → h ≡ g) → GroupsFit (widths_of (params_before_last g.params)) f (groups_of forked fs places)
all-groups forked f g [] places z one = tt
all-groups forked f g (h ∷ fs) [] z one = absurd z
all-groups forked f g (h ∷ fs) (t ∷ places) z one =
    groups-both (widths_of (params_before_last g.params)) f (if is_one_of forked h.name.text then groups_at h t else []) (groups_of forked fs places)
    (either-groups (widths_of (params_before_last g.params)) f (is_one_of forked h.name.text) (groups_at h t) (place-groups f g h t z.0 (λ s. one 0 h refl s)))
    (all-groups forked f g fs places z.1 (λ k x there s. one (suc k) x there s))

pub groups-fit : (d : Design) (places : Places) (f : List ℕ) (g : FunctionDecl) → WellFormed d → FitsDesign d places → runtime_named d f ≡ Some g → GroupsFit (widths_of (params_before_last g.params)) f (fork_groups d places)
groups-fit d places f g w z r = all-groups (fork_calls d) f g (functions d) places z.places (only-one d w f g r)

-- ---- numbers

one-match : (a b : Bool) (k m n : ℕ) → a ≡ b → m ≡ n → (if a then k else m) ≡ (if b then k else n)
one-match true true k m n e h = refl
one-match true false k m n e h = absurd cc
one-match false true k m n e h = absurd cc
one-match false false k m n e h = h

row-step : (ws f ns : List ℕ) (k : ℕ) (g : ForkGroup) (gs : List ForkGroup) → (same_name f g.function ≡ true → all_fit_widths ws g.grouped.args ≡ true) → all_fit_widths ws ns ≡ true
    → table_result (rows_from (all_ones ws) (suc k) gs f) 0 ns ≡ number_from (suc k) gs f ns
    → (b : Bool) → same_name f g.function ≡ b
    → table_result ((if b then record { values = g.grouped.args; masks = all_ones ws; result = k } ∷ [] else []) ++ rows_from (all_ones ws) (suc k) gs f) 0 ns ≡ (if b && same_name ns g.grouped.args then k else number_from (suc k) gs f ns)
row-step ws f ns k g gs fits h ih true s =
    one-match (values_match g.grouped.args (all_ones ws) ns) (same_name ns g.grouped.args) k (table_result (rows_from (all_ones ws) (suc k) gs f) 0 ns) (number_from (suc k) gs f ns)
    (ones-match ws g.grouped.args ns (fits s) h) ih
row-step ws f ns k g gs fits h ih false s = ih

pub numbers-given : (ws f ns : List ℕ) (k : ℕ) (gs : List ForkGroup) → GroupsFit ws f gs → all_fit_widths ws ns ≡ true
    → table_result (rows_from (all_ones ws) k gs f) 0 ns ≡ number_from k gs f ns
numbers-given ws f ns k [] z h = refl
numbers-given ws f ns k (g ∷ gs) z h = row-step ws f ns k g gs z.0 h (numbers-given ws f ns (suc k) gs z.1 h) (same_name f g.function) refl
