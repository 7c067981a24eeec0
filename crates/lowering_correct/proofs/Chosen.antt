-- The members of the group of a number, by the arguments that the number is of.
use Rattle.std.proofs.Common.{◌≡◌, ℕ, zero, suc, ◌<◌, ◌≤◌, ◌==◌, ◌&&◌, ◌||◌, Bool, true, false, cond, List, [], ◌∷◌, ◌++◌, map, fold, slice_get, Option, Some, None, is_some, if◌then◌else◌, arith, refl, sym, ap, ap₂, ◌∙◌}
use Rattle.std.specs.Prelude.{flat_map, option_map}
use Rattle.std.specs.Option.{option_or}
use Rattle.std.specs.List.{find}
use Rattle.std.proofs.lemmas.Bool.Decides.{nat_tests}
use Rattle.cocoon_num.specs.FunTables.{looked}
use Rattle.cocoon_num.specs.Lists.{is_one_of}
use Rattle.cocoon_num.specs.Names.{same_name}
use Rattle.cocoon_num.specs.Tree.{Name, FunctionDecl, Design}
use Rattle.cocoon_num.specs.declared.fun_table.FunRow.{FunRow}
use Rattle.cocoon_num.specs.declared.fun_table.FunTable.{FunTable}
use Rattle.cocoon_types.specs.DefsRules.{fork_calls}
use Rattle.cocoon_types.specs.Design.{functions}
use Rattle.cocoon_types.specs.Rules.{WellFormed}
use Rattle.declarations.proofs.NameFacts.{index-append, same-refl, same-true}
use Rattle.declarations.specs.NameNumbers.{firsts, index_of, with_name}
use Rattle.lowering_correct.specs.Groups.{ForkGroup, Grouped, ascending, fork_groups, before_last, group_number, groups_at, groups_of, last_of, members_at, number_from, table_groups, true_choice, where_members}
use Rattle.lowering_correct.specs.SwitchRows.{groups_from}
use Rattle.lowering_correct.proofs.Found.{Tabled}
use Rattle.p4_ir.specs.Switch.{members}
use Rattle.runtime_defs.proofs.Distinct.{once, once-more, other-name, OnceAfter}
use Rattle.runtime_defs.specs.Places.{Places, table_at}

-- ---- by numbers

-- the members of the first group of a function with these arguments
abbrev pub chosen : List ForkGroup → List ℕ → List ℕ → List ℕ
chosen [] f ns = []
chosen (g ∷ gs) f ns = if same_name f g.function && same_name ns g.grouped.args then g.grouped.members else chosen gs f ns

before-cond : (j k n : ℕ) (b : Bool) → j < k → (j == n) ≡ false → (j == (if b then k else n)) ≡ false
before-cond j k n true l h = grind (arith, nat_tests, l)
before-cond j k n false l h = h

-- 0, or not below the first number
not-before : (j k : ℕ) (gs : List ForkGroup) (f ns : List ℕ) → 1 ≤ j → j < k → (j == number_from k gs f ns) ≡ false
not-before j k [] f ns p l = grind (arith, nat_tests, p)
not-before j k (g ∷ gs) f ns p l =
    before-cond j k (number_from (suc k) gs f ns) (same_name f g.function && same_name ns g.grouped.args) l (not-before j (suc k) gs f ns p (omega (arith, l)))

same-number : (n : ℕ) → (n == n) ≡ true
same-number n = grind (arith, nat_tests)

first-members : (k n : ℕ) (ms : List ℕ) (gs : List ForkGroup) (b : Bool) → (k == n) ≡ b
    → members (record { number = k; members = ms } ∷ groups_from (suc k) gs) n ≡ (if b then ms else members (groups_from (suc k) gs) n)
first-members k n ms gs true e = ap (λ c. elim (cond c (Some (record { number = k; members = ms })) (find (λ g. g.number == n) (groups_from (suc k) gs))) [ None ↦ [] | Some g ↦ g.members ]) e
first-members k n ms gs false e = ap (λ c. elim (cond c (Some (record { number = k; members = ms })) (find (λ g. g.number == n) (groups_from (suc k) gs))) [ None ↦ [] | Some g ↦ g.members ]) e

members-cond : (k : ℕ) (ms rest : List ℕ) (gs : List ForkGroup) (f ns : List ℕ) → 1 ≤ k → members (groups_from (suc k) gs) (number_from (suc k) gs f ns) ≡ rest → (b : Bool)
    → members (record { number = k; members = ms } ∷ groups_from (suc k) gs) (if b then k else number_from (suc k) gs f ns) ≡ (if b then ms else rest)
members-cond k ms rest gs f ns p ih true = first-members k k ms gs true (same-number k)
members-cond k ms rest gs f ns p ih false = first-members k (number_from (suc k) gs f ns) ms gs false (not-before k (suc k) gs f ns p (omega arith)) ∙ ih

pub members-chosen : (k : ℕ) (gs : List ForkGroup) (f ns : List ℕ) → 1 ≤ k → members (groups_from k gs) (number_from k gs f ns) ≡ chosen gs f ns
members-chosen k [] f ns p = refl
members-chosen k (g ∷ gs) f ns p =
    members-cond k g.grouped.members (chosen gs f ns) gs f ns p (members-chosen (suc k) gs f ns (omega (arith, p))) (same_name f g.function && same_name ns g.grouped.args)

-- ---- by functions

-- the members of the first group with these arguments
abbrev held : List Grouped → List ℕ → List ℕ
held [] ns = []
held (g ∷ gs) ns = if same_name ns g.args then g.members else held gs ns

abbrev of-function : List ℕ → List Grouped → List ForkGroup
of-function f gs = map (λ g. record { function = f; grouped = g }) gs

here-cond : (a b : Bool) (ms us vs : List ℕ) → a ≡ true → us ≡ vs → (if a && b then ms else us) ≡ (if b then ms else vs)
here-cond true true ms us vs h e = refl
here-cond true false ms us vs h e = e
here-cond false b ms us vs h e = absurd cc

there-cond : (a b : Bool) (ms us : List ℕ) → a ≡ false → (if a && b then ms else us) ≡ us
there-cond true b ms us h = absurd cc
there-cond false b ms us h = refl

of-this : (f f' ns : List ℕ) (gs : List Grouped) (rest : List ForkGroup) → same_name f f' ≡ true → chosen rest f ns ≡ [] → chosen (of-function f' gs ++ rest) f ns ≡ held gs ns
of-this f f' ns [] rest s h = h
of-this f f' ns (g ∷ gs) rest s h = here-cond (same_name f f') (same_name ns g.args) g.members (chosen (of-function f' gs ++ rest) f ns) (held gs ns) s (of-this f f' ns gs rest s h)

of-other : (f f' ns : List ℕ) (gs : List Grouped) (rest : List ForkGroup) → same_name f f' ≡ false → chosen (of-function f' gs ++ rest) f ns ≡ chosen rest f ns
of-other f f' ns [] rest s = refl
of-other f f' ns (g ∷ gs) rest s =
    there-cond (same_name f f') (same_name ns g.args) g.members (chosen (of-function f' gs ++ rest) f ns) s ∙ of-other f f' ns gs rest s

other-place : (f ns : List ℕ) (h : FunctionDecl) (o : Option FunTable) (rest : List ForkGroup) → same_name f h.name.text ≡ false → chosen (groups_at h o ++ rest) f ns ≡ chosen rest f ns
other-place f ns h None rest s = refl
other-place f ns h (Some t) rest s = of-other f h.name.text ns (table_groups t) rest s

other-forked : (f ns : List ℕ) (h : FunctionDecl) (o : Option FunTable) (rest : List ForkGroup) (b : Bool) → same_name f h.name.text ≡ false → chosen ((if b then groups_at h o else []) ++ rest) f ns ≡ chosen rest f ns
other-forked f ns h o rest true s = other-place f ns h o rest s
other-forked f ns h o rest false s = refl

-- no function of this name
none-chosen : (forked : List (List ℕ)) (f ns : List ℕ) (fs : List FunctionDecl) (places : Places) → ((k : ℕ) (h : FunctionDecl) → slice_get fs k ≡ Some h → same_name f h.name.text ≡ false) → chosen (groups_of forked fs places) f ns ≡ []
none-chosen forked f ns [] places never = refl
none-chosen forked f ns (h ∷ fs) [] never = refl
none-chosen forked f ns (h ∷ fs) (t ∷ places) never =
    other-forked f ns h t (groups_of forked fs places) (is_one_of forked h.name.text) (never 0 h refl) ∙ none-chosen forked f ns fs places (λ k x there. never (suc k) x there)

turned-false : (x y : List ℕ) → same_name y x ≡ false → same_name x y ≡ false
turned-false x y h = by (same_name x y) refl
  where
    by : (b : Bool) → same_name x y ≡ b → same_name x y ≡ false
    by true e = absurd (clash (same_name y x) (ap (λ z. same_name y z) (same-true x y e) ∙ same-refl y) h)
      where
        clash : (c : Bool) → c ≡ true → c ≡ false → ⊥
        clash true p q = cc
        clash false p q = cc
    by false e = e

-- the function with this number is the only one of its name
one-chosen : (forked : List (List ℕ)) (f ns : List ℕ) (seen : List Name) (fs : List FunctionDecl) (places : Places) (k : ℕ) (g : FunctionDecl) (t : FunTable) → OnceAfter seen fs
    → slice_get fs k ≡ Some g → table_at places k ≡ Some t → f ≡ g.name.text → is_one_of forked f ≡ true → chosen (groups_of forked fs places) f ns ≡ held (table_groups t) ns
one-chosen forked f ns seen [] places k g t o there at n m = absurd cc
one-chosen forked f ns seen (h ∷ fs) [] k g t o there at n m = absurd cc
one-chosen forked f ns seen (h ∷ fs) (p ∷ places) zero g t o there at n m =
    let same : h ≡ g = cc in
    let is : p ≡ Some t = at in
    let name : f ≡ h.name.text = n ∙ ap (λ (x : FunctionDecl). x.name.text) (sym same) in
    let self : same_name f h.name.text ≡ true = ap (λ x. same_name f x) (sym name) ∙ same-refl f in
    ap (λ b. chosen ((if b then groups_at h p else []) ++ groups_of forked fs places) f ns) (ap (is_one_of forked) (sym name) ∙ m)
    ∙ ap (λ q. chosen (groups_at h q ++ groups_of forked fs places) f ns) is
    ∙ of-this f h.name.text ns (table_groups t) (groups_of forked fs places) self
    (none-chosen forked f ns fs places (λ j x later. turned-false f x.name.text (ap (same_name x.name.text) name ∙ other-name seen h fs j x o later)))
one-chosen forked f ns seen (h ∷ fs) (p ∷ places) (suc k) g t o there at n m =
    other-forked f ns h p (groups_of forked fs places) (is_one_of forked h.name.text) (ap (λ x. same_name x h.name.text) n ∙ other-name seen h fs k g o there)
    ∙ one-chosen forked f ns (h.name ∷ seen) fs places k g t (once-more seen h fs o) there at n m

-- ---- by rows

-- whether a list is one of some
abbrev stands : List ℕ → List (List ℕ) → Bool
stands x xs = is_some (index_of x xs)

stands-cons : (x y : List ℕ) (ys : List (List ℕ)) → stands x (y ∷ ys) ≡ (same_name x y || stands x ys)
stands-cons x y ys = by (same_name x y)
  where
    some-suc : (o : Option ℕ) → is_some (option_map suc o) ≡ is_some o
    some-suc None = refl
    some-suc (Some i) = refl

    by : (b : Bool) → is_some (if b then Some 0 else option_map suc (index_of x ys)) ≡ (b || stands x ys)
    by true = refl
    by false = some-suc (index_of x ys)

stands-snoc : (x y : List ℕ) (ys : List (List ℕ)) → stands x (ys ++ y ∷ []) ≡ (stands x ys || same_name x y)
stands-snoc x y ys = ap is_some (index-append x ys y) ∙ either (index_of x ys) (same_name x y) _
  where
    either : (o : Option ℕ) (b : Bool) (n : ℕ) → is_some (option_or o (if b then Some n else None)) ≡ (is_some o || b)
    either None true n = refl
    either None false n = refl
    either (Some i) b n = refl

absorb : (a b : Bool) → (b ≡ true → a ≡ true) → a ≡ (a || b)
absorb true b h = refl
absorb false true h = h refl
absorb false false h = refl

stands-with : (x y : List ℕ) (ys : List (List ℕ)) → stands x (with_name ys y) ≡ (stands x ys || same_name x y)
stands-with x y ys = by (stands y ys) refl
  where
    by : (b : Bool) → stands y ys ≡ b → stands x (if b then ys else ys ++ y ∷ []) ≡ (stands x ys || same_name x y)
    by true e = absorb (stands x ys) (same_name x y) (λ s. ap (λ z. stands z ys) (same-true x y s) ∙ e)
    by false e = stands-snoc x y ys

or-assoc : (a b c : Bool) → ((a || b) || c) ≡ (a || (b || c))
or-assoc true b c = refl
or-assoc false b c = refl

or-false : (a : Bool) → a ≡ (a || false)
or-false true = refl
or-false false = refl

stands-folded : (x : List ℕ) (acc xs : List (List ℕ)) → stands x (fold with_name acc xs) ≡ (stands x acc || stands x xs)
stands-folded x acc [] = or-false (stands x acc)
stands-folded x acc (y ∷ xs) =
    stands-folded x (with_name acc y) xs ∙ ap (λ b. b || stands x xs) (stands-with x y acc) ∙ or-assoc (stands x acc) (same_name x y) (stands x xs)
    ∙ ap (λ b. stands x acc || b) (sym (stands-cons x y xs))

stands-first : (x : List ℕ) (xs : List (List ℕ)) → stands x (firsts xs) ≡ stands x xs
stands-first x xs = stands-folded x [] xs

or-both : (a b : Bool) → (a || b) ≡ false → (a ≡ false) × (b ≡ false)
or-both true b h = absurd cc
or-both false b h = (refl, h)

no-choice : (t : FunTable) (ns : List ℕ) (rows : List FunRow) → stands ns (map (λ (row : FunRow). before_last row.values) rows) ≡ false → flat_map (true_choice t ns) rows ≡ []
no-choice t ns [] h = refl
no-choice t ns (row ∷ rows) h =
    let both = or-both (same_name ns (before_last row.values)) (stands ns (map (λ (r : FunRow). before_last r.values) rows)) (sym (stands-cons ns (before_last row.values) _) ∙ h) in
    ap₂ (◌++◌) (ap (λ b. if b && ((looked t row.values).value == 1) then last_of row.values ∷ [] else []) both.0) (no-choice t ns rows both.1)

no-members : (t : FunTable) (ns : List ℕ) → stands ns (firsts (map (λ (row : FunRow). before_last row.values) t.rows)) ≡ false → members_at t ns ≡ []
no-members t ns h = ap ascending (no-choice t ns t.rows (sym (stands-first ns (map (λ (row : FunRow). before_last row.values) t.rows)) ∙ h))

abbrev groups-over : FunTable → List (List ℕ) → List Grouped
groups-over t lists = flat_map (λ args. where_members args (members_at t args)) lists

none-here : (t : FunTable) (ns a : List ℕ) (m : ℕ) (ms rest : List ℕ) → members_at t ns ≡ [] → rest ≡ [] → members_at t a ≡ m ∷ ms → (b : Bool) → same_name ns a ≡ b → (if b then m ∷ ms else rest) ≡ []
none-here t ns a m ms rest h ih e true s = sym e ∙ ap (members_at t) (sym (same-true ns a s)) ∙ h
none-here t ns a m ms rest h ih e false s = ih

none-at : (t : FunTable) (ns a : List ℕ) (gs : List Grouped) → members_at t ns ≡ [] → held gs ns ≡ [] → (ms : List ℕ) → members_at t a ≡ ms → held (where_members a ms ++ gs) ns ≡ []
none-at t ns a gs h ih [] e = ih
none-at t ns a gs h ih (m ∷ ms) e = none-here t ns a m ms (held gs ns) h ih e (same_name ns a) refl

-- where there are no members there is no group
held-none : (t : FunTable) (ns : List ℕ) (lists : List (List ℕ)) → members_at t ns ≡ [] → held (groups-over t lists) ns ≡ []
held-none t ns [] h = refl
held-none t ns (a ∷ lists) h = none-at t ns a (groups-over t lists) h (held-none t ns lists h) (members_at t a) refl

skipped : (ns a : List ℕ) (gs : List Grouped) (us : List ℕ) → same_name ns a ≡ false → held (where_members a us ++ gs) ns ≡ held gs ns
skipped ns a gs [] e = refl
skipped ns a gs (u ∷ us) e = ap (λ b. if b then u ∷ us else held gs ns) e

taken : (ns a : List ℕ) (m : ℕ) (ms : List ℕ) (gs : List Grouped) (us : List ℕ) → us ≡ m ∷ ms → same_name ns a ≡ true → held (where_members a us ++ gs) ns ≡ m ∷ ms
taken ns a m ms gs [] k e = absurd cc
taken ns a m ms gs (u ∷ us) k e = ap (λ b. if b then u ∷ us else held gs ns) e ∙ k

some-at : (t : FunTable) (ns a : List ℕ) (m : ℕ) (ms : List ℕ) (lists : List (List ℕ)) → members_at t ns ≡ m ∷ ms → (stands ns lists ≡ true → held (groups-over t lists) ns ≡ m ∷ ms)
    → (b : Bool) → same_name ns a ≡ b → (b || stands ns lists) ≡ true → held (where_members a (members_at t a) ++ groups-over t lists) ns ≡ m ∷ ms
some-at t ns a m ms lists h ih true e s = taken ns a m ms (groups-over t lists) (members_at t a) (ap (members_at t) (sym (same-true ns a e)) ∙ h) e
some-at t ns a m ms lists h ih false e s = skipped ns a (groups-over t lists) (members_at t a) e ∙ ih s

held-some : (t : FunTable) (ns : List ℕ) (m : ℕ) (ms : List ℕ) (lists : List (List ℕ)) → members_at t ns ≡ m ∷ ms → stands ns lists ≡ true → held (groups-over t lists) ns ≡ m ∷ ms
held-some t ns m ms [] h s = absurd cc
held-some t ns m ms (a ∷ lists) h s = some-at t ns a m ms lists h (held-some t ns m ms lists h) (same_name ns a) refl (sym (stands-cons ns a lists) ∙ s)

held-members : (t : FunTable) (ns : List ℕ) → held (table_groups t) ns ≡ members_at t ns
held-members t ns = by (members_at t ns) refl
  where
    all_before_last : List (List ℕ)
    all_before_last = firsts (map (λ (row : FunRow). before_last row.values) t.rows)

    there : (m : ℕ) (ms : List ℕ) → members_at t ns ≡ m ∷ ms → (b : Bool) → stands ns all_before_last ≡ b → stands ns all_before_last ≡ true
    there m ms e true s = s
    there m ms e false s = absurd (clash (sym e ∙ no-members t ns s))
      where
        clash : m ∷ ms ≡ [] → ⊥
        clash k = cc

    by : (ms : List ℕ) → members_at t ns ≡ ms → held (table_groups t) ns ≡ members_at t ns
    by [] e = held-none t ns all_before_last e ∙ sym e
    by (m ∷ ms) e = held-some t ns m ms all_before_last e (there m ms e (stands ns all_before_last) refl) ∙ sym e

-- the members of the group of a function at some arguments are those of its table there
pub members-are : (d : Design) (places : Places) (f ns : List ℕ) (g : FunctionDecl) → WellFormed d → is_one_of (fork_calls d) f ≡ true → (t : Tabled d places f g)
    → members (groups_from 1 (fork_groups d places)) (group_number d places f ns) ≡ members_at t.table ns
members-are d places f ns g w m t =
    members-chosen 1 (fork_groups d places) f ns (omega arith)
    ∙ one-chosen (fork_calls d) f ns [] (functions d) places t.number g t.table (once d w) t.there t.at t.same m
    ∙ held-members t.table ns
