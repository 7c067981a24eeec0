-- What is known of a design that was read, with definitions of a text, and of its network.
use Rattle.std.proofs.Common.{◌≡◌, ◌+◌, ◌<◌, ◌≤◌, ◌^◌, ◌==◌, ◌&&◌, ◌||◌, ℕ, Bool, true, false, nat_lt, All, List, [], ◌∷◌, length, map, slice_get, if◌then◌else◌, Some, None, arith, refl, sym, ap, ap₂, subst, ◌∙◌}
use Rattle.std.proofs.lemmas.Bool.{and_parts}
use Rattle.std.proofs.lemmas.Bool.Decides.{nat_tests}
use Rattle.std.proofs.lemmas.List.Elements.{All-cons, All-head, All-nil, All-tail}
use Rattle.cocoon_num.specs.Lists.{has_number}
use Rattle.cocoon_num.specs.Tokens.{is_shallow}
use Rattle.cocoon_num.specs.Tree.{Design, DefsText}
use Rattle.cocoon_num.specs.Values.{fits_width}
use Rattle.cocoon_num.specs.declared.limit_name.LimitName.TheVariants as limit
use Rattle.p4_ir.specs.NetTree.{NetData}
use Rattle.p4_ir.specs.Program.{program_of}
use Rattle.shared_net.specs.Shared.{shared_switch}
use Rattle.shared_net.specs.declared.network.SharedSwitches.{SharedSwitches}
use Rattle.p4_ir.specs.P4Kinds.{kinds_fit}
use Rattle.p4_ir.specs.P4Text.{p4_bounds, program_tokens}
use Rattle.p4_ir.specs.P4Tree.{Program}
use Rattle.p4_ir.specs.WellKinded.{is_well_kinded}
use Rattle.runtime_defs.specs.Guards.{host_table, is_true_at, switch_table}
use Rattle.runtime_defs.specs.Places.{Places}
use Rattle.sound_types.specs.Defined.{HasDefinitions, HasTables}
use Rattle.lowering.specs.Log.{tables_in}
use Rattle.lowering.specs.Lower.{Made, a_field, a_group, a_table}
use Rattle.lowering.specs.Whole.{SwitchRole, role_lowered}
use Rattle.lowering_correct.specs.Counts.{Counted, FirstOver, counts, first_over}
use Rattle.lowering_correct.specs.Groups.{ForkGroup, fork_groups}
use Rattle.lowering_correct.specs.Network.{IsNetwork, switch_files}
use Rattle.lowering.specs.Roles.{NetParts, net_parts}
use Rattle.lowering.specs.SwitchProgram.{fields_in, switch_made, switch_program}
use Rattle.lower_net.specs.Refused.{FirstSwitch}
use Rattle.lower_p4.specs.Grounds.{Grounds, HoldsFields}
use Rattle.lower_p4.specs.Lowering.{RunPrograms}
use Rattle.lower_p4.specs.Lowers.{RunsProgram}
use Rattle.lower_p4.proofs.OneNetwork.{one_list, one_parts}

pub has_tables : (d : Design) (es : DefsText) (places : Places) → Grounds d es places → HasTables d places
has_tables d es places g = record { rules = g.rules; literals = g.literals; fits = g.fits }

pub has_definitions : (d : Design) (es : DefsText) (places : Places) → Grounds d es places → HasDefinitions d es
has_definitions d es places g = record { rules = g.rules; literals = g.literals; fits = g.of_text.bound.fits; values_fit = g.of_text.fit }

-- each switch of these numbers runs the program of its number
runs_all : (d : Design) (places : Places) (parts : NetParts) → net_parts d ≡ Some parts → (switches : List ℕ) → RunPrograms (RunsProgram d) (map (switch_files d places parts) switches)
unfolding RunsProgram
runs_all d places parts h [] = tt
runs_all d places parts h (s ∷ switches) = ((parts, h, refl), runs_all d places parts h switches)

pub run_programs : (d : Design) (places : Places) (net : NetData) → IsNetwork d places net → RunPrograms (RunsProgram d) net.switches
run_programs d places net n =
    subst (λ (m : NetData). RunPrograms (RunsProgram d) m.switches) (sym n.net_is) (runs_all d places n.parts n.parts_are n.switches)

-- ---- limits

lt_false : (m n : ℕ) → nat_lt m n ≡ false → n ≤ m
lt_false m n h = grind (arith, nat_tests, h)

below_width : (w n : ℕ) → fits_width w n ≡ true → n < 2 ^ w
below_width w n h = grind (arith, nat_tests, h)

-- where no count is over its limit, the first is not, and none of the others
none_over : (c : Counted) (cs : List Counted) → first_over (c ∷ cs) ≡ None → (c.count ≤ c.most) × (first_over cs ≡ None)
none_over c cs h = by (nat_lt c.most c.count) refl h
  where
    by : (b : Bool) → nat_lt c.most c.count ≡ b → (if b then Some (c.limit, c.count) else first_over cs) ≡ None → (c.count ≤ c.most) × (first_over cs ≡ None)
    by true e k = absurd cc
    by false e k = (lt_false c.most c.count e, k)

-- so many tables and forks have the programs
pub record Few (r : SwitchRole) (s : ℕ) : Type 0 where
  pub tables : length (tables_in (switch_made r s)) ≤ 256
  pub forks : length (role_lowered r s).sites ≤ 255

few_by : (a b t f : Counted) (cs : List Counted) → first_over (a ∷ b ∷ t ∷ f ∷ cs) ≡ None → (t.count ≤ t.most) × (f.count ≤ f.most)
few_by a b t f cs h =
    let one = none_over a (b ∷ t ∷ f ∷ cs) h in
    let two = none_over b (t ∷ f ∷ cs) one.1 in
    let three = none_over t (f ∷ cs) two.1 in
    (three.0, (none_over f cs three.1).0)

first_few : (d : Design) (places : Places) (r : SwitchRole) (s : ℕ) (switches hosts : List ℕ) → first_over (counts d places r (s ∷ switches) hosts) ≡ None → Few r s
first_few d places r s switches hosts h =
    let few = few_by (record { limit = limit.Switches; count = length (s ∷ switches); most = 64 }) (record { limit = limit.Hosts; count = length hosts; most = 1024 })
    (record { limit = limit.Tables; count = length (tables_in (switch_made r s)); most = 256 }) (record { limit = limit.Sites; count = length (role_lowered r s).sites; most = 255 })
    (map (λ (g : ForkGroup). record { limit = limit.Members; count = length g.grouped.members; most = 256 }) (fork_groups d places)) h in
    record { tables = few.0; forks = few.1 }

abbrev pub CountAlike : Type 0
CountAlike = ((r : SwitchRole) (s t : ℕ) → length (tables_in (switch_made r s)) ≡ length (tables_in (switch_made r t)))
    × ((r : SwitchRole) (s t : ℕ) → length (role_lowered r s).sites ≡ length (role_lowered r t).sites)

all_few : CountAlike → (d : Design) (places : Places) (r : SwitchRole) (switches hosts : List ℕ) → first_over (counts d places r switches hosts) ≡ None
    → (s : ℕ) → has_number s switches ≡ true → Few r s
all_few alike d places r [] hosts h s l = absurd cc
all_few alike d places r (t ∷ switches) hosts h s l =
    let few = first_few d places r t switches hosts h in
    record { tables = subst (λ n. n ≤ 256) (alike.0 r t s) few.tables; forks = subst (λ n. n ≤ 255) (alike.1 r t s) few.forks }

pub few_of : CountAlike → (d : Design) (places : Places) (net : NetData) (n : IsNetwork d places net) → FirstOver d places None → (s : ℕ) → has_number s n.switches ≡ true → Few n.parts.role s
few_of alike d places net n f s l =
    let parts = one_parts d f.parts n.parts f.parts_are n.parts_are in
    let switches = one_list 16 (switch_table d places) f.switches n.switches f.numbers.switches_are n.numbers.switches_are in
    let hosts = one_list 64 (host_table d places) f.hosts n.hosts f.numbers.hosts_are n.numbers.hosts_are in
    all_few alike d places n.parts.role n.switches n.hosts (sym (f.over_is ∙ (λ i. first_over (counts d places (parts i).role (switches i) (hosts i))))) s l

pub short_number : (d : Design) (places : Places) (net : NetData) (n : IsNetwork d places net) (s : ℕ) → has_number s n.switches ≡ true → s < 2 ^ 16
short_number d places net n s l = below_width 16 s (and_parts (fits_width 16 s) (is_true_at (switch_table d places) s) (sym (n.numbers.switches_are.listed s) ∙ l)).0

-- ---- what was made

made_count : (ms : List Made) → length ms ≡ length (fields_in ms) + length (tables_in ms)
made_count [] = refl
made_count (a_field x i w ∷ ms) = let h = made_count ms in omega (arith, h)
made_count (a_table t f ps ∷ ms) = let h = made_count ms in omega (arith, h)
made_count (a_group t f ps ∷ ms) = let h = made_count ms in omega (arith, h)

held_by : (P : ℕ → Type 0) (s t : ℕ) (switches : List ℕ) (b : Bool) → (s == t) ≡ b → P t → (has_number s switches ≡ true → P s) → b || has_number s switches ≡ true → P s
held_by P s t switches true e first rest k = let is : s ≡ t = grind (arith, nat_tests, e) in subst P (sym is) first
held_by P s t switches false e first rest k = rest k

held_at : (d : Design) (places : Places) (parts : NetParts) (switches : List ℕ) → All HoldsFields (map (switch_files d places parts) switches)
    → (s : ℕ) → has_number s switches ≡ true → HoldsFields (switch_files d places parts s)
held_at d places parts [] a s h = absurd cc
held_at d places parts (t ∷ switches) a s h =
    held_by (λ n. HoldsFields (switch_files d places parts n)) s t switches (s == t) refl
    (All-head HoldsFields (switch_files d places parts t) (map (switch_files d places parts) switches) a)
    (held_at d places parts switches (All-tail HoldsFields (switch_files d places parts t) (map (switch_files d places parts) switches) a) s) h

pub made_by : (r : SwitchRole) (s : ℕ) → Few r s → length (switch_program r s).meta < 2 ^ 63 → length (switch_made r s) ≤ 2 ^ 64
made_by r s f held =
    let made = made_count (switch_made r s) in
    let tables = f.tables in
    omega (arith, held, made, tables)

pub few_made : (d : Design) (places : Places) (net : NetData) (n : IsNetwork d places net) → All HoldsFields net.switches → (s : ℕ) → has_number s n.switches ≡ true → Few n.parts.role s
    → length (switch_made n.parts.role s) ≤ 2 ^ 64
few_made d places net n a s l f =
    made_by n.parts.role s f (held_at d places n.parts n.switches (subst (λ (m : NetData). All HoldsFields m.switches) n.net_is a) s l)

-- ---- the first switch

pub few_first : (d : Design) (places : Places) (s : ℕ) (h : FirstSwitch d places (Some s)) → Few h.within.parts.role s
few_first d places s h = by h.within.switches h.first (sym h.within.over_is)
  where
    by : (switches : List ℕ) → Some s ≡ slice_get switches 0 → first_over (counts d places h.within.parts.role switches h.within.hosts) ≡ None
        → Few h.within.parts.role s
    by [] k o = absurd cc
    by (t ∷ switches) k o =
        let is : t ≡ s = cc in
        subst (Few h.within.parts.role) is (first_few d places h.within.parts.role t switches h.within.hosts o)

has_first : (s : ℕ) (switches : List ℕ) → Some s ≡ slice_get switches 0 → has_number s switches ≡ true
has_first s [] k = absurd cc
has_first s (t ∷ switches) k =
    let is : t ≡ s = cc in
    let same : (s == t) ≡ true = grind (arith, nat_tests, is) in
    ap (λ b. b || has_number s switches) same

pub short_first : (d : Design) (places : Places) (s : ℕ) → FirstSwitch d places (Some s) → s < 2 ^ 16
short_first d places s h =
    let w = h.within in
    below_width 16 s (and_parts (fits_width 16 s) (is_true_at (switch_table d places) s)
    (sym (w.numbers.switches_are.listed s) ∙ has_first s w.switches h.first)).0

-- the program of a switch is that of its role
pub program_of_role : (d : Design) (s : ℕ) (p : Program) (parts : NetParts) → net_parts d ≡ Some parts → RunsProgram d s p → p ≡ switch_program parts.role s
unfolding RunsProgram
program_of_role d s p parts h (q, k, e) = e ∙ ap (λ (x : NetParts). switch_program x.role s) (one_parts d q parts k h)

-- kinds that fit and a shallow text make a program well kinded
pub well_kinded : (p : Program) → kinds_fit p ≡ true → is_shallow p4_bounds (program_tokens p) ≡ true → is_well_kinded p ≡ true
well_kinded p h k = ap₂ (λ a b. a && b) h k

-- ---- the fields of all programs

pub all_held : (ss : SharedSwitches) → length (program_of ss.program).meta < 2 ^ 63 → (ns : List ℕ) → All HoldsFields (map (shared_switch ss) ns)
all_held ss h [] = All-nil HoldsFields
all_held ss h (n ∷ ns) = All-cons HoldsFields (shared_switch ss n) (map (shared_switch ss) ns) h (all_held ss h ns)
