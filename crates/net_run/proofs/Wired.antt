-- The lists of a network whose wires fit ascend, and what is found in them is what the definitions find.
use Rattle.std.proofs.Common.{◌≡◌, ℕ, zero, suc, ◌≤◌, ◌==◌, ◌&&◌, ◌||◌, Bool, true, false, if◌then◌else◌, is_some, List, [], ◌∷◌, length, map, slice_get, arith, Option, Some, None, option_map, option_and_then, refl, sym, ◌∙◌, ap}
use Rattle.std.proofs.lemmas.Bool.{and_parts, ltb-false, ltb-true}
use Rattle.std.proofs.lemmas.Bool.Decides.{nat_tests}
use Rattle.std.specs.List.{find}
use Rattle.std.specs.Slice.{IsItemAt}
use denote.Ref.{Bor}
use Rattle.cocoon_num.specs.Lists.{ascend, has_number}
use Rattle.p4_ir.specs.NetFits.{wiring_of}
use Rattle.p4_ir.specs.NetOf.{end_of, host_port_of, link_of}
use Rattle.p4_ir.specs.NetRuns.{attach_at, link_at, switch_at}
use Rattle.p4_ir.specs.NetTree as tree
use Rattle.p4_ir.specs.Wiring.{host_numbers, pairs_ascend, wiring_fits}
use Rattle.p4_ir.specs.declared.network.HostPort.{HostPort}
use Rattle.p4_ir.specs.declared.network.Link.{Link}
use Rattle.net_run.specs.Locations.{location_of}
use Rattle.net_run.specs.Nets.{net_in}
use Rattle.net_run.specs.Runs.{runs_in, runs_of}
use Rattle.net_run.specs.Switches.{switch_in}
use Rattle.net_run.specs.declared.net.Net.{Net}
use Rattle.net_run.specs.declared.switch.LoadedSwitch.{LoadedSwitch}
use Rattle.net_run.proofs.Searching.{indexed}

mapped : {A B C : Type 0} (g : B → C) (f : A → B) (xs : List A) → map g (map f xs) ≡ map (λ x. g (f x)) xs
mapped g f [] = refl
mapped g f (x ∷ xs) = ap (λ ys. g (f x) ∷ ys) (mapped g f xs)

-- ---- what ascends

pub record Rising (n : Net) : Type 0 where
  pub switches : ascend (map (λ (s : LoadedSwitch). s.number) n.switches.items) ≡ true
  pub hosts : ascend (map (λ (h : HostPort). h.host) n.hosts) ≡ true
  pub links : pairs_ascend (map location_of n.links) ≡ true

pub rising : (n : Net) → Rising n
rising n =
    let fit : wiring_fits (wiring_of (net_in n)) ≡ true = n.wired in
    let links = and_parts _ _ fit in
    let each_link = and_parts _ _ links.0 in
    let hosts = and_parts _ _ each_link.0 in
    let each_host = and_parts _ _ hosts.0 in
    let switches = and_parts _ _ each_host.0 in
    record {
      switches = ap ascend (sym (mapped (λ (s : tree.SwitchFiles). s.number) switch_in n.switches.items)) ∙ switches.1;
      hosts = ap ascend (sym (mapped (λ (h : tree.HostPort). h.host) host_port_of n.hosts)) ∙ hosts.1;
      links = ap pairs_ascend (sym (mapped (λ (l : tree.Link). (l.switch, l.port)) link_of n.links)) ∙ links.1;
    }

-- ---- what is found

pub attached : (hs : List HostPort) (a : ℕ) → attach_at (map host_port_of hs) a ≡ option_and_then (λ (h : HostPort). h.attach) (find (λ (h : HostPort). h.host == a) hs)
attached [] a = refl
attached (h ∷ hs) a = chosen (h.host == a) h (attach_at (map host_port_of hs) a) (find (λ (k : HostPort). k.host == a) hs) (attached hs a)
  where
    chosen : (b : Bool) (h : HostPort) (x : Option (ℕ × ℕ)) (o : Option HostPort) → x ≡ option_and_then (λ (k : HostPort). k.attach) o
        → (if b then h.attach else x) ≡ option_and_then (λ (k : HostPort). k.attach) (if b then Some h else o)
    chosen true h x o e = refl
    chosen false h x o e = e

pub linked : (ls : List Link) (s p : ℕ) → link_at (map link_of ls) s p ≡ option_map (λ (l : Link). end_of l.to) (find (λ (l : Link). (l.switch == s) && (l.port == p)) ls)
linked [] s p = refl
linked (l ∷ ls) s p = chosen ((l.switch == s) && (l.port == p)) l (link_at (map link_of ls) s p) (find (λ (k : Link). (k.switch == s) && (k.port == p)) ls) (linked ls s p)
  where
    chosen : (b : Bool) (l : Link) (x : Option tree.LinkEnd) (o : Option Link) → x ≡ option_map (λ (k : Link). end_of k.to) o
        → (if b then Some (end_of l.to) else x) ≡ option_map (λ (k : Link). end_of k.to) (if b then Some l else o)
    chosen true l x o e = refl
    chosen false l x o e = e

turned : (m n : ℕ) → (m == n) ≡ (n == m)
turned m n = grind (arith, nat_tests)

pub has_host : (hs : List HostPort) (a : ℕ) → is_some (find (λ (h : HostPort). h.host == a) hs) ≡ has_number a (host_numbers (map host_port_of hs))
has_host [] a = refl
has_host (h ∷ hs) a =
    chosen (h.host == a) h (find (λ (k : HostPort). k.host == a) hs) (has_number a (host_numbers (map host_port_of hs))) (has_host hs a)
    ∙ ap (λ b. b || has_number a (host_numbers (map host_port_of hs))) (turned h.host a)
  where
    chosen : (b : Bool) (h : HostPort) (o : Option HostPort) (t : Bool) → is_some o ≡ t → is_some (if b then Some h else o) ≡ (b || t)
    chosen true h o t e = refl
    chosen false h o t e = e

found_mapped : (ss : List LoadedSwitch) (s : ℕ) → switch_at (map switch_in ss) s ≡ option_map switch_in (find (λ (l : LoadedSwitch). l.number == s) ss)
found_mapped [] s = refl
found_mapped (l ∷ ss) s = chosen (l.number == s) l (switch_at (map switch_in ss) s) (find (λ (k : LoadedSwitch). k.number == s) ss) (found_mapped ss s)
  where
    chosen : (b : Bool) (l : LoadedSwitch) (x : Option tree.SwitchFiles) (o : Option LoadedSwitch) → x ≡ option_map switch_in o
        → (if b then Some (switch_in l) else x) ≡ option_map switch_in (if b then Some l else o)
    chosen true l x o e = refl
    chosen false l x o e = e

twice_mapped : (o : Option LoadedSwitch) → option_map runs_of (option_map switch_in o) ≡ option_map (λ l. runs_in l.loaded) o
twice_mapped None = refl
twice_mapped (Some l) = refl

-- what the switch runs that is found
pub found_runs : (ss : List LoadedSwitch) (s : ℕ) (o : Option LoadedSwitch) → o ≡ find (λ (l : LoadedSwitch). l.number == s) ss
    → option_map (λ l. runs_in l.loaded) o ≡ option_map runs_of (switch_at (map switch_in ss) s)
found_runs ss s o h =
    ap (option_map (λ l. runs_in l.loaded)) h ∙ sym (twice_mapped (find (λ (l : LoadedSwitch). l.number == s) ss)) ∙ ap (option_map runs_of) (sym (found_mapped ss s))

pub is_some_mapped : {A B : Type 0} (f : A → B) (o : Option A) → is_some (option_map f o) ≡ is_some o
is_some_mapped f None = refl
is_some_mapped f (Some x) = refl

past : {A : Type 0} (xs : List A) (i : ℕ) → length xs ≤ i → slice_get xs i ≡ None
past [] i l = refl
past (x ∷ xs) zero l = absurd (omega (arith, l))
past (x ∷ xs) (suc i) l = past xs i (omega (arith, l))

-- what `get` lends
pub got : {A : Type 0} (xs : List A) (i : ℕ) (r : Option (Bor A)) → IsItemAt xs i r → option_map (λ (x : Bor A). x.now) r ≡ slice_get xs i
got xs i None h = sym (past xs i (ltb-false i (length xs) (sym h.0)))
got xs i (Some x) h = sym (indexed xs i x.now (ltb-true i (length xs) (sym h.0)) h.1)
