-- What the network of a design delivers is what its last level delivers.
use Rattle.std.proofs.Common.{◌≡◌, ◌↔◌, inl, inr, ℕ, zero, suc, ◌+◌, ◌*◌, ◌^◌, ◌<◌, List, [], ◌∷◌, ◌++◌, true, false, Option, Some, None, refl, sym, ap, subst, ◌∙◌, arith}
use Rattle.std.specs.Prelude.{option_and_then}
use Rattle.cocoon_num.specs.Lists.{has_number}
use Rattle.cocoon_num.specs.Names.{same_name}
use Rattle.cocoon_num.specs.PacketForms.{PacketFits}
use Rattle.cocoon_num.specs.Packets.{Packet, enter, leave}
use Rattle.cocoon_num.specs.Tree.{Block, Role, HostDecl, Design}
use Rattle.cocoon_num.specs.Values.{truth}
use Rattle.cocoon_types.specs.Design.{last_level, layout}
use Rattle.cocoon_types.specs.Rules.{WellFormed}
use Rattle.cocoon_types.specs.Runs.{Go, IsSink, LastGo, Loc, Walk, World, entry_at, sink_at, world}
use Rattle.cocoon_types.specs.Tables.{Defs}
use Rattle.cocoon_types.specs.Taken.{RunsAreTaken, guard_at}
use Rattle.p4_ir.specs.NetRuns.{NetGo, Onward, Visits, attach_at, link_at, switch_at}
use Rattle.p4_ir.specs.NetTree.{LinkEnd, NetData, SwitchFiles, to_host, to_switch}
use Rattle.p4_ir.specs.Switch.{switch_go}
use Rattle.lowering.specs.Departs.{departure}
use Rattle.lowering_correct.specs.Network.{HasNumbers, network, switch_files}
use Rattle.lowering.specs.Roles.{NetParts}
use Rattle.lowering_correct.specs.Wires.{as_end, as_port, exit_at, led}
use Rattle.runtime_defs.specs.Places.{Places}
use Rattle.lowering_correct.specs.Ingress.{IngressIs}
use Rattle.lowering_correct.specs.Followed.{AreFollowed, body_departs, bytes_depart, into_at}
use Rattle.lowering_correct.proofs.Facts.{entry_is_wire, out_is_wire, roles_apart, sink_bodiless, sink_last}
use Rattle.lowering_correct.proofs.Lookups.{attach_found, attach_there, linked, linked_there, switch_found, switch_there}
use Rattle.sound_types.proofs.Options.{text_self, then_there}
use Rattle.lowering_correct.proofs.Steps.{SameGuards, SameRuns, end_is, ends_there, guard_down, guard_up, host_listed, loc_of, port_is, ports_there, switch_listed, wire_goes, wire_leads, wire_wired}

-- ---- lists of values

abbrev head_or : ℕ → List ℕ → ℕ
head_or x [] = x
head_or x (y ∷ ys) = y

abbrev tail_of : List ℕ → List ℕ
tail_of [] = []
tail_of (y ∷ ys) = ys

one_two : (b s p : ℕ) → b ∷ [] ≡ s ∷ p ∷ [] → ⊥
one_two b s p h = let no : [] ≡ p ∷ [] = ap tail_of h in absurd (cc)

-- a location of two values is no location of the sink
sink_two : (h : HostDecl) (b : ℕ) (role : List ℕ) (s p : ℕ) → sink_at h b ≡ record { role = role; values = s ∷ p ∷ [] } → ⊥
sink_two h b role s p e = one_two b s p (ap (λ (x : Loc). x.values) e)

-- ---- the network

module _ (d : Design) (places : Places) (defs : Defs) (same_guards : SameGuards d places defs) (same_runs : SameRuns d places defs) (taken : RunsAreTaken)
    (entered : (bytes : List ℕ) (packet : Packet) (payload : List ℕ) → enter (layout d) bytes ≡ Some (packet, payload) → PacketFits (layout d) packet)
    (again : (packet : Packet) (payload : List ℕ) → PacketFits (layout d) packet → enter (layout d) (leave (layout d) packet payload) ≡ Some (packet, payload))
    (rules : WellFormed d) (parts : NetParts) (are : IngressIs d parts) (switches hosts : List ℕ) (numbers : HasNumbers d places switches hosts) (followed : AreFollowed d places defs parts) where
  -- the last level, and the network
  abbrev level : World
  level = world (last_level d) d defs

  abbrev net : NetData
  net = network d places parts switches hosts

  abbrev IsTrueThere : Loc → Type 0
  IsTrueThere at = guard_at level at ≡ Some (truth true)

  -- ---- sinks

  is_sink : (b : ℕ) → IsSink level (sink_at parts.hosts b)
  is_sink b =
      let r = sink_last d rules parts.hosts are.hosts_are in
      (r.0, r.1, sink_bodiless d rules parts.hosts are.hosts_are r.0 r.1)

  no_body : (r q : Role) (b : Block) → Some r ≡ Some q → r.body ≡ None → q.body ≡ Some b → ⊥
  no_body r q b e k l = let same : r ≡ q = cc in let no : None ≡ Some b = sym k ∙ ap (λ (x : Role). x.body) same ∙ l in cc

  -- no body runs at the sink
  stuck : (b : ℕ) (p : Packet) (cs : List ℕ) (to : Loc) (sent : Packet) → Go level (sink_at parts.hosts b) p cs to sent → ⊥
  stuck b p cs to sent g =
      let s = is_sink b in
      no_body s.0 g.role g.body (sym s.1 ∙ g.role_is) s.2 g.body_is

  -- ---- links

  link_leads : (s p : ℕ) (end : LinkEnd) (packet : Packet) → PacketFits (layout d) packet → link_at net.links s p ≡ Some end
      → Go level (exit_at parts.switches s p) packet [] (loc_of parts.switches parts.hosts end) packet
      × IsTrueThere (exit_at parts.switches s p) × IsTrueThere (loc_of parts.switches parts.hosts end)
  link_leads s p end packet fits h =
      let at = exit_at parts.switches s p in
      let l = linked (λ x q. option_and_then (as_end parts.switches parts.hosts) (led d places (exit_at parts.switches x q))) parts.switches.ports switches s p end h in
      let to = then_there (as_end parts.switches parts.hosts) (led d places at) end l.2 in
      let is = out_is_wire d rules parts.hosts are.hosts_are parts.switches are.switches_are in
      let wired = wire_wired d places rules parts.hosts are.hosts_are parts.switches are.switches_are at to.0 is to.1 in
      let goes = wire_leads d places defs same_guards same_runs taken rules parts.hosts are.hosts_are parts.switches are.switches_are at to.0 packet is fits to.1 in
      let there = end_is parts.switches parts.hosts to.0 end to.2 in (
        subst (λ x. Go level at packet [] x packet) there goes,
        guard_up d places defs same_guards same_runs at wired.from_true,
        subst IsTrueThere there (guard_up d places defs same_guards same_runs to.0 wired.to_true),
      )

  link_goes : (s p : ℕ) (packet : Packet) (cs : List ℕ) (to : Loc) (sent : Packet) → PacketFits (layout d) packet → Go level (exit_at parts.switches s p) packet cs to sent
      → (end : LinkEnd) × (link_at net.links s p ≡ Some end) × (to ≡ loc_of parts.switches parts.hosts end) × (sent ≡ packet) × (cs ≡ []) × IsTrueThere to
  link_goes s p packet cs to sent fits g =
      let at = exit_at parts.switches s p in
      let is = out_is_wire d rules parts.hosts are.hosts_are parts.switches are.switches_are in
      let t = wire_goes d places defs same_guards same_runs taken rules parts.hosts are.hosts_are parts.switches are.switches_are at packet cs to sent is fits g in
      let end = ends_there d places rules parts.hosts are.hosts_are parts.switches are.switches_are are.role are.role_is switches hosts numbers at.role to t.0.may t.0.to_true in
      let listed = switch_listed d places rules parts.hosts are.hosts_are parts.switches are.switches_are are.role are.role_is switches hosts numbers at (inr refl) t.0.from_true in
      let switch_is : listed.switch ≡ s = ap (head_or 0) (sym listed.values_are) in
      let port_is : listed.port ≡ p = ap (λ xs. head_or 0 (tail_of xs)) (sym listed.values_are) in
      let found = linked_there (λ x q. option_and_then (as_end parts.switches parts.hosts) (led d places (exit_at parts.switches x q))) parts.switches.ports switches s p end.0
      (ap (λ x. has_number x switches) (sym switch_is) ∙ listed.is_switch) (subst (λ x. x < parts.switches.ports) port_is listed.is_port)
      (ap (option_and_then (as_end parts.switches parts.hosts)) t.0.leads ∙ end.1) in
      (end.0, found, end_is parts.switches parts.hosts to end.0 end.1, t.1, t.2, guard_up d places defs same_guards same_runs to t.0.to_true)

  -- ---- hosts

  host_leads : (a s p : ℕ) (packet : Packet) → PacketFits (layout d) packet → attach_at net.hosts a ≡ Some (s, p)
      → Go level (entry_at parts.hosts a) packet [] (into_at parts.switches s p) packet × IsTrueThere (into_at parts.switches s p)
  host_leads a s p packet fits h =
      let at = entry_at parts.hosts a in
      let l = attach_found (λ x. option_and_then (as_port parts.switches) (led d places (entry_at parts.hosts x))) hosts a (s, p) h in
      let to = then_there (as_port parts.switches) (led d places at) (s, p) l.1 in
      let is = entry_is_wire d rules parts.hosts are.hosts_are parts.switches are.switches_are in
      let wired = wire_wired d places rules parts.hosts are.hosts_are parts.switches are.switches_are at to.0 is to.1 in
      let goes = wire_leads d places defs same_guards same_runs taken rules parts.hosts are.hosts_are parts.switches are.switches_are at to.0 packet is fits to.1 in
      let there = port_is parts.switches to.0 (s, p) to.2 in (
        subst (λ x. Go level at packet [] x packet) there goes,
        subst IsTrueThere there (guard_up d places defs same_guards same_runs to.0 wired.to_true),
      )

  host_goes : (a : ℕ) (packet : Packet) (cs : List ℕ) (to : Loc) (sent : Packet) → PacketFits (layout d) packet → Go level (entry_at parts.hosts a) packet cs to sent
      → (x : ℕ × ℕ) × (attach_at net.hosts a ≡ Some x) × (to ≡ into_at parts.switches x.0 x.1) × (sent ≡ packet) × (cs ≡ []) × IsTrueThere to
  host_goes a packet cs to sent fits g =
      let at = entry_at parts.hosts a in
      let is = entry_is_wire d rules parts.hosts are.hosts_are parts.switches are.switches_are in
      let t = wire_goes d places defs same_guards same_runs taken rules parts.hosts are.hosts_are parts.switches are.switches_are at packet cs to sent is fits g in
      let x = ports_there d places rules parts.hosts are.hosts_are parts.switches are.switches_are are.role are.role_is switches hosts numbers to t.0.may t.0.to_true in
      let listed = host_listed d places rules parts.hosts are.hosts_are parts.switches are.switches_are are.role are.role_is switches hosts numbers at (inl refl) t.0.from_true in
      let same : listed.0 ≡ a = ap (head_or 0) (sym listed.1) in
      let found : attach_at net.hosts a ≡ Some x.0 =
      attach_there (λ y. option_and_then (as_port parts.switches) (led d places (entry_at parts.hosts y))) hosts a (ap (λ y. has_number y hosts) (sym same) ∙ listed.2)
      ∙ ap (option_and_then (as_port parts.switches)) t.0.leads ∙ x.1 in
      (x.0, found, port_is parts.switches to x.0 x.1, t.1, t.2, guard_up d places defs same_guards same_runs to t.0.to_true)

  -- ---- one visit

  -- the numbers of a location of the ingress role
  into_listed : (s p : ℕ) → IsTrueThere (into_at parts.switches s p) → (has_number s switches ≡ true) × (s < 2 ^ 16) × (p < 2 ^ 16)
  into_listed s p g =
      let at = into_at parts.switches s p in
      let listed = switch_listed d places rules parts.hosts are.hosts_are parts.switches are.switches_are are.role are.role_is switches hosts numbers at (inl refl) (guard_down d places defs same_guards same_runs at g) in
      let switch_is : listed.switch ≡ s = ap (head_or 0) (sym listed.values_are) in
      let port_is : listed.port ≡ p = ap (λ xs. head_or 0 (tail_of xs)) (sym listed.values_are) in (
        ap (λ x. has_number x switches) (sym switch_is) ∙ listed.is_switch,
        subst (λ x. x < 2 ^ 16) switch_is listed.switch_fits,
        subst (λ x. x < 2 ^ 16) port_is listed.port_fits,
      )

  -- what a visit sends goes where its link leads, if there is one
  visit_leads : (s p : ℕ) → IsTrueThere (into_at parts.switches s p) → (bytes : List ℕ) (packet : Packet) (payload : List ℕ) → enter (layout d) bytes ≡ Some (packet, payload)
      → (f : SwitchFiles) (port : ℕ) (left first : List ℕ) (end : LinkEnd) → switch_at net.switches s ≡ Some f
      → switch_go f.program f.rows 0 p bytes first ≡ Some (port, left) → link_at net.links s port ≡ Some end
      → (sent : Packet) × Go level (into_at parts.switches s p) packet first (exit_at parts.switches s port) sent
      × (left ≡ leave (layout d) sent payload) × PacketFits (layout d) sent
  visit_leads s p g bytes packet payload enters f port left first end found went link =
      let n = into_listed s p g in
      let file = switch_found (switch_files d places parts) (λ x. refl) switches s f found in
      let fits = entered bytes packet payload enters in
      let visit : bytes_depart (layout d) parts.role defs s p bytes first ≡ Some (port, left) =
      sym (followed.visits s p n.1 n.2 0 bytes first) ∙ ap (λ (x : SwitchFiles). switch_go x.program x.rows 0 p bytes first) (sym file.1) ∙ went in
      let departs : option_and_then (departure (layout d) payload) (body_departs parts.role defs s p packet first) ≡ Some (port, left) =
      ap (option_and_then (λ (x : Packet × List ℕ). option_and_then (departure (layout d) x.1) (body_departs parts.role defs s p x.0 first))) (sym enters) ∙ visit in
      let to = then_there (departure (layout d) payload) (body_departs parts.role defs s p packet first) (port, left) departs in
      let exits = followed.exits s p n.1 n.2 packet fits first to.0.0 to.0.1 to.1 in
      let gone : ◌≡◌ {A = Option (ℕ × List ℕ)} (Some (exits.0, leave (layout d) to.0.1 payload)) (Some (port, left)) =
      ap (λ (x : Loc). departure (layout d) payload (x, to.0.1)) (sym exits.1) ∙ to.2 in
      let same : ◌≡◌ {A = ℕ × List ℕ} (exits.0, leave (layout d) to.0.1 payload) (port, left) = cc in
      let at : to.0.0 ≡ exit_at parts.switches s port = exits.1 ∙ ap (λ (x : ℕ × List ℕ). exit_at parts.switches s x.0) same in
      let leads = link_leads s port end to.0.1 exits.2 link in (
        to.0.1,
        (followed.runs s p n.1 n.2 packet fits first (exit_at parts.switches s port) to.0.1).1
            (g, to.1 ∙ ap (λ x. Some (x, to.0.1)) at, leads.1),
        ap (λ (x : ℕ × List ℕ). x.1) (sym same),
        exits.2,
      )

  -- what the body sends, a visit sends
  visit_goes : (s p : ℕ) (packet : Packet) (first : List ℕ) (mid : Loc) (sent : Packet) → IsTrueThere (into_at parts.switches s p) → PacketFits (layout d) packet
      → Go level (into_at parts.switches s p) packet first mid sent → (bytes payload : List ℕ) → enter (layout d) bytes ≡ Some (packet, payload)
      → (port : ℕ) × (mid ≡ exit_at parts.switches s port) × PacketFits (layout d) sent
      × (switch_at net.switches s ≡ Some (switch_files d places parts s))
      × (switch_go (switch_files d places parts s).program (switch_files d places parts s).rows 0 p bytes first ≡ Some (port, leave (layout d) sent payload))
  visit_goes s p packet first mid sent g fits go bytes payload enters =
      let n = into_listed s p g in
      let runs = (followed.runs s p n.1 n.2 packet fits first mid sent).0 go in
      let exits = followed.exits s p n.1 n.2 packet fits first mid sent runs.1 in (
        exits.0,
        exits.1,
        exits.2,
        switch_there (switch_files d places parts) (λ x. refl) switches s n.0,
        followed.visits s p n.1 n.2 0 bytes first
            ∙ ap (option_and_then (λ (x : Packet × List ℕ). option_and_then (departure (layout d) x.1) (body_departs parts.role defs s p x.0 first))) enters
            ∙ ap (option_and_then (departure (layout d) payload)) (runs.1 ∙ ap (λ x. Some (x, sent)) exits.1),
      )

  -- ---- all visits

  double : (n : ℕ) → 2 * suc n ≡ suc (suc (2 * n))
  double n = omega arith

  -- a walk that ends at the sink
  abbrev EndsAt : (bodies : ℕ) → Loc → Packet → (payload choices : List ℕ) → (b : ℕ) → (out : List ℕ) → Type 0
  EndsAt n from packet payload cs b out = (sent : Packet) × Walk level n from packet cs (sink_at parts.hosts b) sent × (out ≡ leave (layout d) sent payload)

  at_sink : (n b : ℕ) (packet : Packet) (payload : List ℕ) → EndsAt n (sink_at parts.hosts b) packet payload [] b (leave (layout d) packet payload)
  at_sink zero b packet payload = (packet, (is_sink b, refl, refl, refl), refl)
  at_sink (suc n) b packet payload = (packet, inl (is_sink b, refl, refl, refl), refl)

  from_sink : (n a b : ℕ) (packet sent : Packet) (cs : List ℕ) → Walk level n (sink_at parts.hosts a) packet cs (sink_at parts.hosts b) sent → (a ≡ b) × (sent ≡ packet) × (cs ≡ [])
  from_sink zero a b packet sent cs k = (ap (λ (x : Loc). head_or 0 x.values) (sym k.2), k.3, k.1)
  from_sink (suc n) a b packet sent cs k = elim k [
    | inl i ↦ (ap (λ (x : Loc). head_or 0 x.values) (sym i.2), i.3, i.1)
    | inr j ↦ absurd (stuck a packet j.2 j.0 j.1 j.4)
  ]

  one_more : (n : ℕ) (from mid : Loc) (packet between : Packet) (payload first more : List ℕ) (b : ℕ) (out : List ℕ) → Go level from packet first mid between
      → EndsAt n mid between payload more b out → EndsAt (suc n) from packet payload (first ++ more) b out
  one_more n from mid packet between payload first more b out g e = (e.0, inr (mid, between, first, more, g, e.1, refl), e.2)

  -- visits are walks
  visits_walk : (n b : ℕ) (out : List ℕ) (s p : ℕ) (bytes rids : List ℕ) (packet : Packet) (payload : List ℕ) → IsTrueThere (into_at parts.switches s p) → enter (layout d) bytes ≡ Some (packet, payload)
      → Visits net n b out s p bytes rids → EndsAt (2 * n) (into_at parts.switches s p) packet payload rids b out
  visits_walk zero b out s p bytes rids packet payload g enters v = absurd v
  visits_walk (suc n) b out s p bytes rids packet payload g enters (f, port, left, first, more, found, went, joined, onward) =
      by_link (link_at net.links s port) refl onward (visits_walk n b out)
    where
      by_link : (o : Option LinkEnd) → link_at net.links s port ≡ o
          → Onward (Visits net n b out) o left more b out
          → ((x q : ℕ) (bs cs : List ℕ) (pk : Packet) (pl : List ℕ) → IsTrueThere (into_at parts.switches x q) → enter (layout d) bs ≡ Some (pk, pl)
          → Visits net n b out x q bs cs → EndsAt (2 * n) (into_at parts.switches x q) pk pl cs b out)
          → EndsAt (2 * suc n) (into_at parts.switches s p) packet payload rids b out
      by_link None link on ih = absurd on
      by_link (Some end) link on ih =
          let v = visit_leads s p g bytes packet payload enters f port left first end found went link in
          let l = link_leads s port end v.0 v.3 link in
          let rest = by_end end on l.2 in
          subst (λ k. EndsAt k (into_at parts.switches s p) packet payload rids b out) (sym (double n))
          (subst (λ cs. EndsAt (suc (suc (2 * n))) (into_at parts.switches s p) packet payload cs b out) (sym joined)
          (one_more (suc (2 * n)) (into_at parts.switches s p) (exit_at parts.switches s port) packet v.0 payload first more b out v.1
          (one_more (2 * n) (exit_at parts.switches s port) (loc_of parts.switches parts.hosts end) v.0 v.0 payload [] more b out l.0 rest)))
        where
          by_end : (e : LinkEnd) → Onward (Visits net n b out) (Some e) left more b out
              → IsTrueThere (loc_of parts.switches parts.hosts e)
              → EndsAt (2 * n) (loc_of parts.switches parts.hosts e) (visit_leads s p g bytes packet payload enters f port left first end found went link).0 payload more b out
          by_end (to_host x) on' there =
              let v = visit_leads s p g bytes packet payload enters f port left first end found went link in
              subst (λ y. EndsAt (2 * n) (sink_at parts.hosts y) v.0 payload more b out) (sym on'.0)
              (subst (λ cs. EndsAt (2 * n) (sink_at parts.hosts b) v.0 payload cs b out) (sym on'.2)
              (subst (λ o. EndsAt (2 * n) (sink_at parts.hosts b) v.0 payload [] b o) (sym v.2 ∙ on'.1) (at_sink (2 * n) b v.0 payload)))
          by_end (to_switch x q) on' there =
              let v = visit_leads s p g bytes packet payload enters f port left first end found went link in
              ih x q left more v.0 payload there (ap (enter (layout d)) v.2 ∙ again v.0 payload v.3) on'

  -- and walks are visits
  walk_visits : (n b : ℕ) (out : List ℕ) (s p : ℕ) (bytes rids : List ℕ) (packet : Packet) (payload : List ℕ) → IsTrueThere (into_at parts.switches s p) → enter (layout d) bytes ≡ Some (packet, payload)
      → (sent : Packet) → Walk level (2 * n) (into_at parts.switches s p) packet rids (sink_at parts.hosts b) sent → out ≡ leave (layout d) sent payload
      → Visits net n b out s p bytes rids
  walk_visits zero b out s p bytes rids packet payload g enters sent k o = absurd (sink_two parts.hosts b parts.switches.into.text s p k.2)
  walk_visits (suc n) b out s p bytes rids packet payload g enters sent k o =
      elim (subst (λ m. Walk level m (into_at parts.switches s p) packet rids (sink_at parts.hosts b) sent) (double n) k) [
        | inl i ↦ absurd (sink_two parts.hosts b parts.switches.into.text s p i.2)
        | inr j ↦ visited j.0 j.1 j.2 j.3 j.4 j.5 j.6 (walk_visits n b out)
      ]
    where
      visited : (mid : Loc) (between : Packet) (first more : List ℕ) → Go level (into_at parts.switches s p) packet first mid between
          → Walk level (suc (2 * n)) mid between more (sink_at parts.hosts b) sent → rids ≡ first ++ more
          → ((x q : ℕ) (bs cs : List ℕ) (pk : Packet) (pl : List ℕ) → IsTrueThere (into_at parts.switches x q) → enter (layout d) bs ≡ Some (pk, pl)
          → (st : Packet) → Walk level (2 * n) (into_at parts.switches x q) pk cs (sink_at parts.hosts b) st → out ≡ leave (layout d) st pl
          → Visits net n b out x q bs cs)
          → Visits net (suc n) b out s p bytes rids
      visited mid between first more go rest joined ih =
          let fits = entered bytes packet payload enters in
          let v = visit_goes s p packet first mid between g fits go bytes payload enters in
          linked_on v.0 v.1 v.2 v.3 v.4
        where
          linked_on : (port : ℕ) → mid ≡ exit_at parts.switches s port → PacketFits (layout d) between
              → switch_at net.switches s ≡ Some (switch_files d places parts s)
              → switch_go (switch_files d places parts s).program (switch_files d places parts s).rows 0 p bytes first ≡ Some (port, leave (layout d) between payload)
              → Visits net (suc n) b out s p bytes rids
          linked_on port is fits found went =
              elim (subst (λ x. Walk level (suc (2 * n)) x between more (sink_at parts.hosts b) sent) is rest) [
                | inl i ↦ absurd (sink_two parts.hosts b parts.switches.out.text s port i.2)
                | inr j ↦
                    let l = link_goes s port between j.2 j.0 j.1 fits j.4 in
                    let unused : more ≡ j.3 = j.6 ∙ ap (λ cs. cs ++ j.3) l.4 in
                    let onward = arrives l.0 j.3 (subst IsTrueThere l.2 l.5)
                    (subst (λ x. Walk level (2 * n) (loc_of parts.switches parts.hosts l.0) x j.3 (sink_at parts.hosts b) sent) l.3
                    (subst (λ x. Walk level (2 * n) x j.1 j.3 (sink_at parts.hosts b) sent) l.2 j.5)) in (
                      switch_files d places parts s,
                      port,
                      leave (layout d) between payload,
                      first,
                      more,
                      found,
                      went,
                      joined,
                      subst (λ x. Onward (Visits net n b out) x (leave (layout d) between payload) more b out) (sym l.1)
                          (subst (λ cs. Onward (Visits net n b out) (Some l.0) (leave (layout d) between payload) cs b out) (sym unused) onward),
                    )
              ]
            where
              arrives : (e : LinkEnd) (cs : List ℕ) → IsTrueThere (loc_of parts.switches parts.hosts e)
                  → Walk level (2 * n) (loc_of parts.switches parts.hosts e) between cs (sink_at parts.hosts b) sent
                  → Onward (Visits net n b out) (Some e) (leave (layout d) between payload) cs b out
              arrives (to_host x) cs there k' =
                  let t = from_sink (2 * n) x b between sent cs k' in
                  (t.0, ap (λ y. leave (layout d) y payload) (sym t.1) ∙ sym o, t.2)
              arrives (to_switch x q) cs there k' =
                  ih x q (leave (layout d) between payload) cs between payload there (again between payload fits) sent k' o

  -- ---- deliveries

  odd : (n : ℕ) → 2 * n + 1 ≡ suc (2 * n)
  odd n = omega arith

  deliver : (a : ℕ) (bytes choices : List ℕ) (n b : ℕ) (out : List ℕ) → NetGo net a bytes choices n b out → LastGo d defs a bytes choices n b out
  deliver a bytes choices n b out (s, p, at, v) = by_bytes (enter (layout d) bytes) refl
    where
      by_bytes : (e : Option (Packet × List ℕ)) → enter (layout d) bytes ≡ e → LastGo d defs a bytes choices n b out
      by_bytes None e = absurd (unread n v)
        where
          nothing : (port : ℕ) (left : List ℕ) → ◌≡◌ {A = Option (ℕ × List ℕ)} None (Some (port, left)) → ⊥
          nothing port left k = cc

          unread : (m : ℕ) → Visits net m b out s p bytes choices → ⊥
          unread zero k = k
          unread (suc m) (f, port, left, first, more, found, went, joined, onward) =
              let l = attach_found (λ x. option_and_then (as_port parts.switches) (led d places (entry_at parts.hosts x))) hosts a (s, p) at in
              let to = then_there (as_port parts.switches) (led d places (entry_at parts.hosts a)) (s, p) l.1 in
              let is = entry_is_wire d rules parts.hosts are.hosts_are parts.switches are.switches_are in
              let wired = wire_wired d places rules parts.hosts are.hosts_are parts.switches are.switches_are (entry_at parts.hosts a) to.0 is to.1 in
              let there = subst IsTrueThere (port_is parts.switches to.0 (s, p) to.2) (guard_up d places defs same_guards same_runs to.0 wired.to_true) in
              let k = into_listed s p there in
              let file = switch_found (switch_files d places parts) (λ x. refl) switches s f found in
              nothing port left (ap (option_and_then (λ (x : Packet × List ℕ). option_and_then (departure (layout d) x.1) (body_departs parts.role defs s p x.0 first))) (sym e)
              ∙ sym (followed.visits s p k.1 k.2 0 bytes first) ∙ ap (λ (x : SwitchFiles). switch_go x.program x.rows 0 p bytes first) (sym file.1) ∙ went)
      by_bytes (Some x) e =
          let fits = entered bytes x.0 x.1 e in
          let host = host_leads a s p x.0 fits at in
          let walk = visits_walk n b out s p bytes choices x.0 x.1 host.1 e v in
          let whole = one_more (2 * n) (entry_at parts.hosts a) (into_at parts.switches s p) x.0 x.0 x.1 [] choices b out host.0 walk in
          record {
            hosts = parts.hosts;
            packet = x.0;
            payload = x.1;
            sent = whole.0;
            hosts_are = are.hosts_are;
            enters = e;
            walks = subst (λ k. Walk level k (entry_at parts.hosts a) x.0 choices (sink_at parts.hosts b) whole.0) (sym (odd n)) whole.1;
            leaves = whole.2;
          }

  same_role : (a b : ℕ) → sink_at parts.hosts b ≡ entry_at parts.hosts a → ⊥
  same_role a b e =
      let names : parts.hosts.entry.text ≡ parts.hosts.sink.text = ap (λ (x : Loc). x.role) (sym e) in
      let no : same_name parts.hosts.sink.text parts.hosts.sink.text ≡ false = ap (λ x. same_name x parts.hosts.sink.text) (sym names) ∙ roles_apart d rules parts.hosts are.hosts_are in
      clash parts.hosts.sink.text no
    where
      clash : (x : List ℕ) → same_name x x ≡ false → ⊥
      clash x k = let yes : same_name x x ≡ true = text_self x in let no : true ≡ false = sym yes ∙ k in cc

  delivered : (a : ℕ) (bytes choices : List ℕ) (n b : ℕ) (out : List ℕ) → LastGo d defs a bytes choices n b out → NetGo net a bytes choices n b out
  delivered a bytes choices n b out l =
      let same : l.hosts ≡ parts.hosts = some_same (sym l.hosts_are ∙ are.hosts_are) in
      let walk = subst (λ (x : HostDecl). Walk level (suc (2 * n)) (entry_at x a) l.packet choices (sink_at x b) l.sent) same
      (subst (λ k. Walk level k (entry_at l.hosts a) l.packet choices (sink_at l.hosts b) l.sent) (odd n) l.walks) in
      elim walk [
        | inl i ↦ absurd (same_role a b i.2)
        | inr j ↦
            let fits = entered bytes l.packet l.payload l.enters in
            let h = host_goes a l.packet j.2 j.0 j.1 fits j.4 in
            let unused : choices ≡ j.3 = j.6 ∙ ap (λ cs. cs ++ j.3) h.4 in
            let k = subst (λ x. Walk level (2 * n) (into_at parts.switches h.0.0 h.0.1) x j.3 (sink_at parts.hosts b) l.sent) h.3
            (subst (λ x. Walk level (2 * n) x j.1 j.3 (sink_at parts.hosts b) l.sent) h.2 j.5) in
            let v = walk_visits n b out h.0.0 h.0.1 bytes j.3 l.packet l.payload (subst IsTrueThere h.2 h.5) l.enters l.sent k l.leaves in
            (h.0.0, h.0.1, h.1, subst (λ cs. Visits net n b out h.0.0 h.0.1 bytes cs) (sym unused) v)
      ]
    where
      some_same : {x y : HostDecl} → Some x ≡ Some y → x ≡ y
      some_same {x} {y} e = cc

  pub both_ways : (a : ℕ) (bytes choices : List ℕ) (n b : ℕ) (out : List ℕ) → NetGo net a bytes choices n b out ↔ LastGo d defs a bytes choices n b out
  both_ways a bytes choices n b out = (deliver a bytes choices n b out, delivered a bytes choices n b out)
