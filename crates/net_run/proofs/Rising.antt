-- The ends of a packet ascend by their choices, where the members of each group do.
use Rattle.std.proofs.Common.{◌≡◌, inl, inr, ℕ, zero, suc, ◌<◌, ◌==◌, ◌&&◌, not, Bool, true, false, nat_lt, if◌then◌else◌, List, [], ◌∷◌, ◌++◌, map, Option, Some, None, refl, subst, arith}
use Rattle.std.proofs.lemmas.Bool.{and_parts, and_from, ltb-true}
use Rattle.std.proofs.lemmas.Bool.Decides.{nat_tests}
use Rattle.std.specs.List.{find, flat_map}
use Rattle.cocoon_num.specs.Lists.{ascend, each}
use Rattle.p4_ir.specs.Loading.{group_fits, rows_load}
use Rattle.p4_ir.specs.NetRuns.{attach_at, link_at, switch_at}
use Rattle.p4_ir.specs.NetTree.{LinkEnd, to_switch, to_host, SwitchFiles, NetData}
use Rattle.p4_ir.specs.P4Tree.{Group, RowsFile}
use Rattle.p4_ir.specs.Switch.{Departure, members, switch_go}
use Rattle.p4_run.specs.Visits.{after_ingress, ingress_left}
use Rattle.p4_run.specs.declared.visits.Next.{Next}
use Rattle.p4_run.specs.declared.visits.Next.TheVariants.{Drop, Port, Copies}
use Rattle.net_run.specs.Ascending.{Ahead, AheadOfAll, Ascending}
use Rattle.net_run.specs.Departures.{Departed, departing, departures_at, put, ways_after}
use Rattle.net_run.specs.Ends.{behind, End, ends, ends_from, followed, from_attached, onward}

-- the rows of each switch load, and with it the members of groups ascend
abbrev pub AllLoad : NetData → Type 0
AllLoad net = each (λ (f : SwitchFiles). rows_load f.program f.rows) net.switches ≡ true

-- ---- ends by their choices

abbrev pub choices_of : List End → List (List ℕ)
choices_of es = map (λ (e : End). e.choices) es

abbrev AheadOfEnds : List ℕ → List End → Type 0
AheadOfEnds cs es = AheadOfAll cs (choices_of es)

abbrev pub EndsAscend : List End → Type 0
EndsAscend es = Ascending (choices_of es)

-- ---- lists put together

abbrev AllAhead : List End → List End → Type 0
AllAhead [] ys = Unit {0}
AllAhead (x ∷ xs) ys = AheadOfEnds x.choices ys × AllAhead xs ys

ahead_of_both : (cs : List ℕ) (xs ys : List End) → AheadOfEnds cs xs → AheadOfEnds cs ys → AheadOfEnds cs (xs ++ ys)
ahead_of_both cs [] ys a b = b
ahead_of_both cs (x ∷ xs) ys a b = (a.0, ahead_of_both cs xs ys a.1 b)

joined : (xs ys : List End) → EndsAscend xs → EndsAscend ys → AllAhead xs ys → EndsAscend (xs ++ ys)
joined [] ys a b c = b
joined (x ∷ xs) ys a b c = (ahead_of_both x.choices xs ys a.0 c.0, joined xs ys a.1 b c.1)

nothing_behind : (xs : List End) → EndsAscend xs → EndsAscend (xs ++ [])
nothing_behind [] a = tt
nothing_behind (x ∷ xs) a = (ahead_of_both x.choices xs [] a.0 tt, nothing_behind xs a.1)

-- ---- the same members before all

ahead_behind : (way cs ds : List ℕ) → Ahead cs ds → Ahead (way ++ cs) (way ++ ds)
ahead_behind [] cs ds a = a
ahead_behind (w ∷ ws) cs ds a = inr (refl, ahead_behind ws cs ds a)

all_behind : (way cs : List ℕ) (es : List End) → AheadOfEnds cs es → AheadOfEnds (way ++ cs) (behind way es)
all_behind way cs [] a = tt
all_behind way cs (e ∷ es) a = (ahead_behind way cs e.choices a.0, all_behind way cs es a.1)

behind_ascends : (way : List ℕ) (es : List End) → EndsAscend es → EndsAscend (behind way es)
behind_ascends way [] a = tt
behind_ascends way (e ∷ es) a = (all_behind way e.choices es a.0, behind_ascends way es a.1)

-- ---- members that ascend

abbrev BeginsAbove : ℕ → List ℕ → Type 0
BeginsAbove m [] = ⊥
BeginsAbove m (c ∷ cs) = m < c

-- all begin with a number above m
abbrev Above : ℕ → List End → Type 0
Above m [] = Unit {0}
Above m (e ∷ es) = BeginsAbove m e.choices × Above m es

above_both : (m : ℕ) (xs ys : List End) → Above m xs → Above m ys → Above m (xs ++ ys)
above_both m [] ys a b = b
above_both m (x ∷ xs) ys a b = (a.0, above_both m xs ys a.1 b)

above_behind : (m n : ℕ) (es : List End) → m < n → Above m (behind (n ∷ []) es)
above_behind m n [] l = tt
above_behind m n (e ∷ es) l = (l, above_behind m n es l)

ahead_begins : (m : ℕ) (cs ds : List ℕ) → BeginsAbove m ds → Ahead (m ∷ cs) ds
ahead_begins m cs [] b = absurd b
ahead_begins m cs (d ∷ ds) b = inl b

ahead_of_above : (m : ℕ) (cs : List ℕ) (ys : List End) → Above m ys → AheadOfEnds (m ∷ cs) ys
ahead_of_above m cs [] a = tt
ahead_of_above m cs (y ∷ ys) a = (ahead_begins m cs y.choices a.0, ahead_of_above m cs ys a.1)

all_ahead : (m : ℕ) (xs ys : List End) → Above m ys → AllAhead (behind (m ∷ []) xs) ys
all_ahead m [] ys a = tt
all_ahead m (x ∷ xs) ys a = (ahead_of_above m x.choices ys a, all_ahead m xs ys a)

-- ---- one visit

abbrev after_put : NetData → (ℕ → ℕ → List ℕ → List End) → ℕ → List Departed → List End
after_put net go s ds = flat_map (followed net go s) ds

abbrev Rises : (ℕ → ℕ → List ℕ → List End) → Type 0
Rises go = (s p : ℕ) (bytes : List ℕ) → EndsAscend (go s p bytes)

onward_ascends : (go : ℕ → ℕ → List ℕ → List End) → Rises go → (l : Option LinkEnd) (bytes : List ℕ) → EndsAscend (onward go l bytes)
onward_ascends go r None bytes = tt
onward_ascends go r (Some (to_host h)) bytes = (tt, tt)
onward_ascends go r (Some (to_switch s p)) bytes = r s p bytes

followed_ascends : (net : NetData) (go : ℕ → ℕ → List ℕ → List End) → Rises go → (s : ℕ) (d : Departed) → EndsAscend (followed net go s d)
followed_ascends net go r s d = behind_ascends d.way (onward go (link_at net.links s d.port) d.bytes) (onward_ascends go r (link_at net.links s d.port) d.bytes)

put_above : (net : NetData) (go : ℕ → ℕ → List ℕ → List End) (s m n : ℕ) (o : Departure) (rest : List Departed) → m < n → Above m (after_put net go s rest) → Above m (after_put net go s (put (n ∷ []) o rest))
put_above net go s m n None rest l a = a
put_above net go s m n (Some d) rest l a =
    above_both m (behind (n ∷ []) (onward go (link_at net.links s d.0) d.1)) (after_put net go s rest) (above_behind m n (onward go (link_at net.links s d.0) d.1) l) a

later_above : (net : NetData) (go : ℕ → ℕ → List ℕ → List End) (s m : ℕ) (visit : List ℕ → Departure) (ns : List ℕ) → each (nat_lt m) ns ≡ true
    → Above m (after_put net go s (departing visit (map (λ rid. rid ∷ []) ns)))
later_above net go s m visit [] e = tt
later_above net go s m visit (n ∷ ns) e =
    let p = and_parts (nat_lt m n) (each (nat_lt m) ns) e in
    put_above net go s m n (visit (n ∷ [])) (departing visit (map (λ rid. rid ∷ []) ns)) (ltb-true m n p.0) (later_above net go s m visit ns p.1)

put_ascends : (net : NetData) (go : ℕ → ℕ → List ℕ → List End) → Rises go → (s n : ℕ) (o : Departure) (rest : List Departed) → Above n (after_put net go s rest) → EndsAscend (after_put net go s rest)
    → EndsAscend (after_put net go s (put (n ∷ []) o rest))
put_ascends net go r s n None rest a b = b
put_ascends net go r s n (Some d) rest a b =
    joined (behind (n ∷ []) (onward go (link_at net.links s d.0) d.1)) (after_put net go s rest)
    (behind_ascends (n ∷ []) (onward go (link_at net.links s d.0) d.1) (onward_ascends go r (link_at net.links s d.0) d.1)) b
    (all_ahead n (onward go (link_at net.links s d.0) d.1) (after_put net go s rest) a)

-- each is below all behind it
abbrev rises : List ℕ → Bool
rises [] = true
rises (n ∷ ns) = each (nat_lt n) ns && rises ns

lt_trans : (m n k : ℕ) → nat_lt m n ≡ true → nat_lt n k ≡ true → nat_lt m k ≡ true
lt_trans m n k a b = grind (arith, nat_tests, a, b)

higher : (m n : ℕ) (ns : List ℕ) → nat_lt m n ≡ true → each (nat_lt n) ns ≡ true → each (nat_lt m) ns ≡ true
higher m n [] l e = refl
higher m n (k ∷ ks) l e =
    let p = and_parts (nat_lt n k) (each (nat_lt n) ks) e in
    and_from _ _ (lt_trans m n k l p.0) (higher m n ks l p.1)

numbers_rise : (ns : List ℕ) → ascend ns ≡ true → rises ns ≡ true
numbers_rise [] e = refl
numbers_rise (n ∷ []) e = refl
numbers_rise (m ∷ n ∷ ns) e =
    let p = and_parts (nat_lt m n) (ascend (n ∷ ns)) e in
    let r = numbers_rise (n ∷ ns) p.1 in
    and_from _ _ (and_from _ _ p.0 (higher m n ns p.0 (and_parts _ _ r).0)) r

copies_ascend : (net : NetData) (go : ℕ → ℕ → List ℕ → List End) → Rises go → (s : ℕ) (visit : List ℕ → Departure) (ns : List ℕ) → rises ns ≡ true
    → EndsAscend (after_put net go s (departing visit (map (λ rid. rid ∷ []) ns)))
copies_ascend net go r s visit [] e = tt
copies_ascend net go r s visit (n ∷ ns) e =
    let p = and_parts (each (nat_lt n) ns) (rises ns) e in
    put_ascends net go r s n (visit (n ∷ [])) (departing visit (map (λ rid. rid ∷ []) ns)) (later_above net go s n visit ns p.0) (copies_ascend net go r s visit ns p.1)

alone_ascends : (net : NetData) (go : ℕ → ℕ → List ℕ → List End) → Rises go → (s : ℕ) (o : Departure) → EndsAscend (after_put net go s (put [] o []))
alone_ascends net go r s None = tt
alone_ascends net go r s (Some d) =
    nothing_behind (behind [] (onward go (link_at net.links s d.0) d.1)) (behind_ascends [] (onward go (link_at net.links s d.0) d.1) (onward_ascends go r (link_at net.links s d.0) d.1))

found_ascends : (gs : List Group) (n : ℕ) → each group_fits gs ≡ true → ascend (members gs n) ≡ true
found_ascends [] n e = refl
found_ascends (g ∷ gs) n e =
    let p = and_parts (group_fits g) (each group_fits gs) e in
    chosen (g.number == n) g (and_parts (not (g.number == 0)) (ascend g.members) p.0).1 (find (λ (k : Group). k.number == n) gs) (found_ascends gs n p.1)
  where
    chosen : (b : Bool) (g : Group) → ascend g.members ≡ true → (o : Option Group) → ascend (elim o [ None ↦ [] | Some k ↦ k.members ]) ≡ true
        → ascend (elim (if b then Some g else o) [ None ↦ [] | Some k ↦ k.members ]) ≡ true
    chosen true g e o h = e
    chosen false g e o h = h

next_ascends : (net : NetData) (go : ℕ → ℕ → List ℕ → List End) → Rises go → (s : ℕ) (visit : List ℕ → Departure) (rows : RowsFile) → each group_fits rows.groups ≡ true
    → (next : Next) → EndsAscend (after_put net go s (departing visit (ways_after rows next)))
next_ascends net go r s visit rows e Drop = tt
next_ascends net go r s visit rows e (Port port) = alone_ascends net go r s (visit [])
next_ascends net go r s visit rows e (Copies group) = copies_ascend net go r s visit (members rows.groups group) (numbers_rise (members rows.groups group) (found_ascends rows.groups group e))

-- ---- networks

the_same : (k f : SwitchFiles) → ◌≡◌ {A = Option SwitchFiles} (Some k) (Some f) → k ≡ f
the_same k f h = cc

found_loads : (fs : List SwitchFiles) (s : ℕ) (f : SwitchFiles) → each (λ (k : SwitchFiles). rows_load k.program k.rows) fs ≡ true → switch_at fs s ≡ Some f → rows_load f.program f.rows ≡ true
found_loads [] s f e h = absurd (cc)
found_loads (k ∷ ks) s f e h =
    let p = and_parts (rows_load k.program k.rows) (each (λ (j : SwitchFiles). rows_load j.program j.rows) ks) e in
    chosen (k.number == s) k f p.0 (switch_at ks s) (found_loads ks s f p.1) h
  where
    chosen : (b : Bool) (k f : SwitchFiles) → rows_load k.program k.rows ≡ true → (o : Option SwitchFiles) → (o ≡ Some f → rows_load f.program f.rows ≡ true) → (if b then Some k else o) ≡ Some f
        → rows_load f.program f.rows ≡ true
    chosen true k f e o g h = subst (λ (x : SwitchFiles). rows_load x.program x.rows ≡ true) (the_same k f h) e
    chosen false k f e o g h = g h

switch_ascends : (net : NetData) (go : ℕ → ℕ → List ℕ → List End) → Rises go → (s p : ℕ) (bytes : List ℕ) (o : Option SwitchFiles) → ((f : SwitchFiles) → o ≡ Some f → rows_load f.program f.rows ≡ true)
    → EndsAscend (after_put net go s (departures_at o p bytes))
switch_ascends net go r s p bytes None e = tt
switch_ascends net go r s p bytes (Some f) e =
    next_ascends net go r s (switch_go f.program f.rows 0 p bytes) f.rows (and_parts _ (each group_fits f.rows.groups) (e f refl)).1 (after_ingress (ingress_left f.program f.rows p bytes))

pub from_ascends : (net : NetData) → AllLoad net → (n s p : ℕ) (bytes : List ℕ) → EndsAscend (ends_from net n s p bytes)
from_ascends net e zero s p bytes = (tt, tt)
from_ascends net e (suc n) s p bytes =
    switch_ascends net (ends_from net n) (from_ascends net e n) s p bytes (switch_at net.switches s) (λ f h. found_loads net.switches s f e h)

pub ends_ascend : (net : NetData) → AllLoad net → (a : ℕ) (bytes : List ℕ) (n : ℕ) → EndsAscend (ends net a bytes n)
ends_ascend net e a bytes n = attached_ascend (attach_at net.hosts a)
  where
    attached_ascend : (o : Option (ℕ × ℕ)) → EndsAscend (from_attached (ends_from net n) o bytes)
    attached_ascend None = tt
    attached_ascend (Some at) = from_ascends net e n at.0 at.1 bytes
