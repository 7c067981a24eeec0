-- The wiring of the network of a design: its numbers are in their ranges, its lists ascend, and what it names is there.
use Rattle.std.proofs.Common.{◌≡◌, ◌⊎◌, inl, inr, ℕ, zero, suc, ◌^◌, ◌<◌, ◌≤◌, ◌==◌, ◌&&◌, ◌||◌, Bool, true, false, List, [], ◌∷◌, ◌++◌, map, Option, Some, None, nat_lt, refl, sym, ap, subst, ◌∙◌, arith}
use Rattle.std.specs.Prelude.{flat_map, option_and_then}
use Rattle.std.proofs.lemmas.Bool.{lt-ltb, ltb-true}
use Rattle.cocoon_num.specs.Lists.{ascend, each, has_number}
use Rattle.cocoon_num.specs.Tree.{Design}
use Rattle.cocoon_num.specs.Values.{fits_width, truth}
use Rattle.cocoon_types.specs.Rules.{WellFormed}
use Rattle.cocoon_types.specs.Runs.{Loc, entry_at, sink_at}
use Rattle.cocoon_types.specs.Taken.{guard_at}
use Rattle.p4_ir.specs.NetFits.{switch_numbers, wiring_of}
use Rattle.p4_ir.specs.NetTree.{Link, LinkEnd, to_host, to_switch}
use Rattle.p4_ir.specs.Wiring.{Wiring, attach_fits, end_fits, host_fits, host_numbers, is_location, link_fits, pairs_ascend, wiring_fits}
use Rattle.lowering_correct.specs.Network.{HasNumbers, network, numbers_from, switch_files}
use Rattle.lowering.specs.Roles.{NetParts}
use Rattle.lowering_correct.specs.Wires.{as_end, as_port, exit_at, last_world, led, link_with}
use Rattle.runtime_defs.specs.Guards.{is_true_at, host_table, switch_table}
use Rattle.runtime_defs.specs.Places.{Places}
use Rattle.lowering_correct.specs.Ingress.{IngressIs}
use Rattle.lowering_correct.specs.Followed.{into_at}
use Rattle.lowering_correct.proofs.Facts.{entry_is_wire, out_is_wire}
use Rattle.lowering_correct.proofs.Lookups.{all_links, host_with, in_number, link_is, number_in}
use Rattle.sound_types.proofs.Members.{In}
use Rattle.sound_types.proofs.Options.{both_true, same_self, then_there, true_both}
use Rattle.lowering_correct.proofs.Steps.{end_is, host_listed, port_is, switch_listed, wire_wired}

-- ---- tests of each

each_in : {A : Type 0} (f : A → Bool) (xs : List A) → ((x : A) → In x xs → f x ≡ true) → each f xs ≡ true
each_in f [] h = refl
each_in f (x ∷ xs) h = true_both (f x) (each f xs) (h x (inl refl)) (each_in f xs (λ y i. h y (inr i)))

-- the first of an ascending list is below each further one
above : (x : ℕ) (xs : List ℕ) → ascend (x ∷ xs) ≡ true → (y : ℕ) → In y xs → x < y
above x [] h y i = absurd i
above x (z ∷ zs) h y i =
    let both = both_true (nat_lt x z) (ascend (z ∷ zs)) h in
    let less : x < z = ltb-true x z both.0 in
    elim i [
      | inl e ↦ subst (λ n. x < n) (sym e) less
      | inr j ↦ let more = above z zs both.1 y j in omega (arith, less, more)
    ]

further : (x : ℕ) (xs : List ℕ) → ascend (x ∷ xs) ≡ true → ascend xs ≡ true
further x [] h = refl
further x (z ∷ zs) h = (both_true (nat_lt x z) (ascend (z ∷ zs)) h).1

-- ---- links ascend

abbrev place : Link → ℕ × ℕ
place l = (l.switch, l.port)

-- the first of these, if there is one, is at this switch from a port on, or at a later switch
abbrev From : (switch port : ℕ) → List Link → Type 0
From s k [] = Unit {0}
From s k (l ∷ ls) = (s < l.switch) ⊎ ((s ≡ l.switch) × (k ≤ l.port))

-- or at a later switch alone
abbrev Beyond : ℕ → List Link → Type 0
Beyond s [] = Unit {0}
Beyond s (l ∷ ls) = s < l.switch

from_beyond : (s k : ℕ) (ls : List Link) → Beyond s ls → From s k ls
from_beyond s k [] h = tt
from_beyond s k (l ∷ ls) h = inl h

from_next : (s k : ℕ) (ls : List Link) → From s (suc k) ls → From s k ls
from_next s k [] h = tt
from_next s k (l ∷ ls) h = elim h [
  | inl e ↦ inl e
  | inr e ↦ let m = e.1 in inr (e.0, omega (arith, m))
]

or_left : (a b : Bool) → a ≡ true → (a || b) ≡ true
or_left true b h = refl
or_left false b h = absurd (cc)

or_right : (a b : Bool) → b ≡ true → (a || b) ≡ true
or_right true b h = refl
or_right false b h = h

ascends_more : (s k : ℕ) (e : LinkEnd) (ls : List Link) → pairs_ascend (map place ls) ≡ true → From s (suc k) ls → pairs_ascend (map place (record { switch = s; port = k; to = e } ∷ ls)) ≡ true
ascends_more s k e [] h f = refl
ascends_more s k e (l ∷ ls) h f = true_both (nat_lt s l.switch || ((s == l.switch) && nat_lt k l.port)) (pairs_ascend (map place (l ∷ ls))) (elim f [
  | inl less ↦ or_left (nat_lt s l.switch) ((s == l.switch) && nat_lt k l.port) (lt-ltb s l.switch less)
  | inr same ↦
      let m = same.1 in
      or_right (nat_lt s l.switch) ((s == l.switch) && nat_lt k l.port)
      (true_both (s == l.switch) (nat_lt k l.port) (ap (λ x. s == x) (sym same.0) ∙ same_self s) (lt-ltb k l.port (omega (arith, m))))
]) h

-- a port with or without a link before
record Ascends (s k : ℕ) (ls : List Link) : Type 0 where
  pairs : pairs_ascend (map place ls) ≡ true
  from : From s k ls

one_port : (s k : ℕ) (o : Option LinkEnd) (xs rest : List Link) → Ascends s (suc k) (xs ++ rest) → Ascends s k ((link_with s k o ++ xs) ++ rest)
one_port s k None xs rest h = record { pairs = h.pairs; from = from_next s k (xs ++ rest) h.from }
one_port s k (Some e) xs rest h = record { pairs = ascends_more s k e (xs ++ rest) h.pairs h.from; from = inr (refl, omega arith) }

module _ (end : ℕ → ℕ → Option LinkEnd) (ports : ℕ) where
  one_switch : (s k n : ℕ) (rest : List Link) → pairs_ascend (map place rest) ≡ true → Beyond s rest → Ascends s k (flat_map (λ p. link_with s p (end s p)) (numbers_from k n) ++ rest)
  one_switch s k zero rest h b = record { pairs = h; from = from_beyond s k rest b }
  one_switch s k (suc n) rest h b = one_port s k (end s k) (flat_map (λ p. link_with s p (end s p)) (numbers_from (suc k) n)) rest (one_switch s (suc k) n rest h b)

  beyond : (s : ℕ) (switches : List ℕ) → ascend (s ∷ switches) ≡ true → (ls : List Link) → ((l : Link) → In l ls → In l (all_links end ports switches)) → Beyond s ls
  beyond s switches a [] f = tt
  beyond s switches a (l ∷ ls) f = above s switches a l.switch (number_in l.switch switches (link_is end ports switches l (f l (inl refl))).0)

  pub links_ascend : (switches : List ℕ) → ascend switches ≡ true → pairs_ascend (map place (all_links end ports switches)) ≡ true
  links_ascend [] a = refl
  links_ascend (s ∷ switches) a =
      (one_switch s 0 ports (all_links end ports switches) (links_ascend switches (further s switches a)) (beyond s switches a (all_links end ports switches) (λ l i. i))).pairs

-- ---- numbers

switches_of : (d : Design) (places : Places) (parts : NetParts) (switches : List ℕ) → switch_numbers (map (switch_files d places parts) switches) ≡ switches
switches_of d places parts [] = refl
switches_of d places parts (s ∷ switches) = ap (λ ns. s ∷ ns) (switches_of d places parts switches)

hosts_of : (attach : ℕ → Option (ℕ × ℕ)) (hosts : List ℕ) → host_numbers (map (host_with attach) hosts) ≡ hosts
hosts_of attach [] = refl
hosts_of attach (a ∷ hosts) = ap (λ ns. a ∷ ns) (hosts_of attach hosts)

-- ---- all of it

abbrev head_or : ℕ → List ℕ → ℕ
head_or x [] = x
head_or x (y ∷ ys) = y

abbrev second_or : ℕ → List ℕ → ℕ
second_or x [] = x
second_or x (y ∷ ys) = head_or x ys

module _ (d : Design) (places : Places) (rules : WellFormed d) (parts : NetParts) (are : IngressIs d parts) (switches hosts : List ℕ) (numbers : HasNumbers d places switches hosts)
    (few : parts.switches.ports < 2 ^ 16) where
  attach : ℕ → Option (ℕ × ℕ)
  attach a = option_and_then (as_port parts.switches) (led d places (entry_at parts.hosts a))

  abbrev wired_so : Wiring
  wired_so = record {
    ports = parts.switches.ports;
    switches = switches;
    links = all_links (λ s p. option_and_then (as_end parts.switches parts.hosts) (led d places (exit_at parts.switches s p))) parts.switches.ports switches;
    hosts = map (host_with (λ a. option_and_then (as_port parts.switches) (led d places (entry_at parts.hosts a)))) hosts;
  }

  small_switch : (s : ℕ) → In s switches → nat_lt s (2 ^ 16) ≡ true
  small_switch s i = (both_true (fits_width 16 s) (is_true_at (switch_table d places) s) (sym (numbers.switches_are.listed s) ∙ in_number s switches i)).0

  small_host : (a : ℕ) → In a hosts → nat_lt a (2 ^ 64) ≡ true
  small_host a i = (both_true (fits_width 64 a) (is_true_at (host_table d places) a) (sym (numbers.hosts_are.listed a) ∙ in_number a hosts i)).0

  -- a port whose guard is true is one of the network
  port_there : (s p : ℕ) → guard_at (last_world d places) (into_at parts.switches s p) ≡ Some (truth true) → is_location wired_so s p ≡ true
  port_there s p g =
      let l = switch_listed d places rules parts.hosts are.hosts_are parts.switches are.switches_are are.role are.role_is switches hosts numbers (into_at parts.switches s p) (inl refl) g in
      let switch_is : l.switch ≡ s = ap (head_or 0) (sym l.values_are) in
      let port_is : l.port ≡ p = ap (second_or 0) (sym l.values_are) in
      true_both (has_number s switches) (nat_lt p parts.switches.ports)
      (ap (λ x. has_number x switches) (sym switch_is) ∙ l.is_switch)
      (lt-ltb p parts.switches.ports (subst (λ x. x < parts.switches.ports) port_is l.is_port))

  attach_there : (a : ℕ) (o : Option (ℕ × ℕ)) → option_and_then (as_port parts.switches) (led d places (entry_at parts.hosts a)) ≡ o → attach_fits wired_so o ≡ true
  attach_there a None e = refl
  attach_there a (Some x) e =
      let at = entry_at parts.hosts a in
      let to = then_there (as_port parts.switches) (led d places at) x e in
      let is = entry_is_wire d rules parts.hosts are.hosts_are parts.switches are.switches_are in
      let w = wire_wired d places rules parts.hosts are.hosts_are parts.switches are.switches_are at to.0 is to.1 in
      port_there x.0 x.1 (ap (guard_at (last_world d places)) (sym (port_is parts.switches to.0 x to.2)) ∙ w.to_true)

  host_there : (hs : List ℕ) → ((a : ℕ) → In a hs → nat_lt a (2 ^ 64) ≡ true)
      → each (host_fits wired_so) (map (host_with (λ a. option_and_then (as_port parts.switches) (led d places (entry_at parts.hosts a)))) hs) ≡ true
  host_there [] f = refl
  host_there (a ∷ hs) f =
      let own = true_both (nat_lt a (2 ^ 64)) (attach_fits wired_so (option_and_then (as_port parts.switches) (led d places (entry_at parts.hosts a)))) (f a (inl refl)) (attach_there a _ refl) in
      true_both _ (each (host_fits wired_so) (map (host_with (λ a. option_and_then (as_port parts.switches) (led d places (entry_at parts.hosts a)))) hs)) own (host_there hs (λ b i. f b (inr i)))

  end_there : (to : Loc) (e : LinkEnd) → as_end parts.switches parts.hosts to ≡ Some e → guard_at (last_world d places) to ≡ Some (truth true) → end_fits wired_so e ≡ true
  end_there to (to_switch s p) k g = port_there s p (ap (guard_at (last_world d places)) (sym (end_is parts.switches parts.hosts to (to_switch s p) k)) ∙ g)
  end_there to (to_host b) k g =
      let at : guard_at (last_world d places) (sink_at parts.hosts b) ≡ Some (truth true) = ap (guard_at (last_world d places)) (sym (end_is parts.switches parts.hosts to (to_host b) k)) ∙ g in
      let l = host_listed d places rules parts.hosts are.hosts_are parts.switches are.switches_are are.role are.role_is switches hosts numbers (sink_at parts.hosts b) (inr refl) at in
      let same : l.0 ≡ b = ap (head_or 0) (sym l.1) in
      ap (has_number b) (hosts_of (λ a. option_and_then (as_port parts.switches) (led d places (entry_at parts.hosts a))) hosts)
      ∙ ap (λ x. has_number x hosts) (sym same) ∙ l.2

  link_there : (l : Link) → In l wired_so.links → link_fits wired_so l ≡ true
  link_there l i =
      let is = link_is (λ s p. option_and_then (as_end parts.switches parts.hosts) (led d places (exit_at parts.switches s p))) parts.switches.ports switches l i in
      let at = exit_at parts.switches l.switch l.port in
      let to = then_there (as_end parts.switches parts.hosts) (led d places at) l.to is.2 in
      let wire = out_is_wire d rules parts.hosts are.hosts_are parts.switches are.switches_are in
      let w = wire_wired d places rules parts.hosts are.hosts_are parts.switches are.switches_are at to.0 wire to.1 in
      true_both (is_location wired_so l.switch l.port) (end_fits wired_so l.to)
      (true_both (has_number l.switch switches) (nat_lt l.port parts.switches.ports) is.0 (lt-ltb l.port parts.switches.ports is.1))
      (end_there to.0 l.to to.2 w.to_true)

  wired_fits : wiring_fits wired_so ≡ true
  wired_fits =
      true_both _ _ (true_both _ _ (true_both _ _ (true_both _ _ (true_both _ _ (true_both _ _
      (lt-ltb parts.switches.ports (2 ^ 16) few)
      (each_in (λ s. nat_lt s (2 ^ 16)) switches small_switch))
      numbers.switches_are.ascending)
      (host_there hosts small_host))
      (ap ascend (hosts_of (λ a. option_and_then (as_port parts.switches) (led d places (entry_at parts.hosts a))) hosts) ∙ numbers.hosts_are.ascending))
      (each_in (link_fits wired_so) wired_so.links link_there))
      (links_ascend (λ s p. option_and_then (as_end parts.switches parts.hosts) (led d places (exit_at parts.switches s p))) parts.switches.ports switches numbers.switches_are.ascending)

  pub fits : wiring_fits (wiring_of (network d places parts switches hosts)) ≡ true
  fits = ap (λ ns. wiring_fits (record wired_so { switches = ns })) (switches_of d places parts switches) ∙ wired_fits
