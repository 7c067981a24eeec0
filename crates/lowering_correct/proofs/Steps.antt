-- The bodies of the wires of the last level are the attachments and links of the network.
use Rattle.std.proofs.Common.{◌≡◌, ◌⊎◌, inl, inr, ℕ, ◌^◌, ◌<◌, ◌≤◌, ◌==◌, ◌&&◌, ◌||◌, not, Bool, true, false, List, [], ◌∷◌, ◌++◌, length, Option, Some, None, if◌then◌else◌, nat_le, refl, sym, ap, subst, ◌∙◌, arith}
use Rattle.std.specs.Prelude.{flat_map, option_and_then, option_map}
use Rattle.std.specs.List.{list_all}
use Rattle.std.proofs.lemmas.Bool.{eqb-true, lt-ltb}
use Rattle.std.proofs.lemmas.Bool.Decides.{nat_tests}
use Rattle.std.proofs.Math.Pow.{pow_mono}
use Rattle.std.proofs.lemmas.List.{append-nil}
use Rattle.cocoon_num.specs.FunTables.{looked}
use Rattle.cocoon_num.specs.Lists.{has_number}
use Rattle.cocoon_num.specs.Names.{same_name}
use Rattle.cocoon_num.specs.PacketForms.{PacketFits}
use Rattle.cocoon_num.specs.Packets.{Packet}
use Rattle.cocoon_num.specs.Sorts.{is_declared_width}
use Rattle.cocoon_num.specs.Tree.{Name, Param, Role, HostDecl, SwitchDecl, Design}
use Rattle.cocoon_num.specs.Values.{truth, fits_width}
use Rattle.cocoon_num.specs.declared.fun_table.FunTable.{FunTable}
use Rattle.cocoon_types.specs.Design.{functions, host_decl, last_level, layout, role_at, switch_decl, widths_of}
use Rattle.cocoon_types.specs.FormRules.{guard_function, is_wire, wire_send}
use Rattle.cocoon_types.specs.LastLevel.{called}
use Rattle.cocoon_types.specs.RuleParts.{has_name, param_names, repeated, unless_named}
use Rattle.cocoon_types.specs.Rules.{WellFormed}
use Rattle.cocoon_types.specs.Runs.{Go, Loc, World, sink_at, world}
use Rattle.cocoon_types.specs.Tables.{Defs}
use Rattle.cocoon_types.specs.Taken.{Reached, RunsAreTaken, go, guard_at}
use Rattle.cocoon_types.specs.Val.{bind, value}
use Rattle.p4_ir.specs.NetTree.{LinkEnd, to_host, to_switch}
use Rattle.role_values.specs.ByTables.{context_by}
use Rattle.role_values.specs.Worlds.{world_by}
use Rattle.runtime_defs.specs.Guards.{host_function, host_table, is_true_at, switch_table, table_named}
use Rattle.runtime_defs.specs.Places.{Places, all_fit_widths}
use Rattle.sound_types.specs.Ends.{LocFits}
use Rattle.lowering_correct.specs.Network.{HasNumbers}
use Rattle.lowering_correct.specs.Wires.{as_end, as_port, idle, last_world, led, one_number, two_numbers}
use Rattle.lowering_correct.specs.Followed.{into_at}
use Rattle.lowering_correct.specs.WiresLead.{MayReach, carried}
use Rattle.lowering_correct.proofs.Calls.{IsTrueFor, call_true}
use Rattle.lowering_correct.proofs.Facts.{declares, function_is, host_form, host_guarded, narrow, own_names, switch_form, switch_guarded, two_params}
use Rattle.lowering_correct.proofs.Guards.{bind_fits, bind_one, bind_two, host_value, switch_value}
use Rattle.sound_types.proofs.Levels.{role_in}
use Rattle.sound_types.proofs.Options.{both_true, map_there, nil_left, nil_right, passes, same_text, text_self, true_both}
use Rattle.lowering_correct.proofs.Sent.{goes, standing}
use Rattle.lowering_correct.proofs.WireGoes.{wires}

-- ---- locations

-- where a link leads
abbrev pub loc_of : SwitchDecl → HostDecl → LinkEnd → Loc
loc_of s h (to_switch x p) = into_at s x p
loc_of s h (to_host b) = sink_at h b

pub at_values : (to : Loc) (role values : List ℕ) → to.role ≡ role → to.values ≡ values → to ≡ record { role = role; values = values }
at_values to role values e k = λ i. record { role = e i; values = k i }

two_are : (ns : List ℕ) (x : ℕ × ℕ) → two_numbers ns ≡ Some x → ns ≡ x.0 ∷ x.1 ∷ []
two_are [] x h = absurd (cc)
two_are (n ∷ []) x h = absurd (cc)
two_are (n ∷ m ∷ []) x h = let same : (n, m) ≡ x = cc in ap (λ (y : ℕ × ℕ). y.0 ∷ y.1 ∷ []) same
two_are (n ∷ m ∷ k ∷ ns) x h = absurd (cc)

one_is : (ns : List ℕ) (b : ℕ) → one_number ns ≡ Some b → ns ≡ b ∷ []
one_is [] b h = absurd (cc)
one_is (n ∷ []) b h = let same : n ≡ b = cc in ap (λ x. x ∷ []) same
one_is (n ∷ m ∷ ns) b h = absurd (cc)

-- what ends a link is where it leads
pub end_is : (s : SwitchDecl) (h : HostDecl) (to : Loc) (end : LinkEnd) → as_end s h to ≡ Some end → to ≡ loc_of s h end
end_is s h to end e = by_into (same_name to.role s.into.text) refl e
  where
    by_sink : (b : Bool) → same_name to.role h.sink.text ≡ b → (if b then option_map to_host (one_number to.values) else None) ≡ Some end → to ≡ loc_of s h end
    by_sink true k g =
        let t = map_there to_host (one_number to.values) end g in
        at_values to h.sink.text (t.0 ∷ []) (same_text to.role h.sink.text k) (one_is to.values t.0 t.1) ∙ ap (loc_of s h) t.2
    by_sink false k g = absurd (cc)

    by_into : (b : Bool) → same_name to.role s.into.text ≡ b
        → (if b then option_map (λ (at : ℕ × ℕ). to_switch at.0 at.1) (two_numbers to.values) else (if same_name to.role h.sink.text then option_map to_host (one_number to.values) else None)) ≡ Some end
        → to ≡ loc_of s h end
    by_into true k g =
        let t = map_there (λ (at : ℕ × ℕ). to_switch at.0 at.1) (two_numbers to.values) end g in
        at_values to s.into.text (t.0.0 ∷ t.0.1 ∷ []) (same_text to.role s.into.text k) (two_are to.values t.0 t.1) ∙ ap (loc_of s h) t.2
    by_into false k g = by_sink (same_name to.role h.sink.text) refl g

-- where a host is attached
pub port_is : (s : SwitchDecl) (to : Loc) (x : ℕ × ℕ) → as_port s to ≡ Some x → to ≡ into_at s x.0 x.1
port_is s to x e = by_into (same_name to.role s.into.text) refl e
  where
    by_into : (b : Bool) → same_name to.role s.into.text ≡ b → (if b then two_numbers to.values else None) ≡ Some x → to ≡ into_at s x.0 x.1
    by_into true k g = at_values to s.into.text (x.0 ∷ x.1 ∷ []) (same_text to.role s.into.text k) (two_are to.values x g)
    by_into false k g = absurd (cc)

-- ---- two worlds

-- guards by tables are those under definitions, and so are runs
abbrev pub SameGuards : Design → Places → Defs → Type 0
SameGuards d places defs = (level : ℕ) (at : Loc) → LocFits level d at → guard_at (world_by places level d) at ≡ guard_at (world level d defs) at

abbrev pub SameRuns : Design → Places → Defs → Type 0
SameRuns d places defs = (level : ℕ) (at : Loc) (packet : Packet) (choices : List ℕ) → LocFits level d at → PacketFits (layout d) packet
    → go (world_by places level d) at packet choices ≡ go (world level d defs) at packet choices

-- a location whose guard is true fits
pub true_fits : (d : Design) (w : World) → w.role ≡ role_at (last_level d) d → (at : Loc) → guard_at w at ≡ Some (truth true) → LocFits (last_level d) d at
true_fits d w e at h =
    let t = standing w at h in
    (t.role, ap (λ f. f at.role) (sym e) ∙ t.role_is, bind_fits t.role.params at.values t.env t.binds)

-- runs that use all their choices
pub go_from : (taken : RunsAreTaken) (w : World) (from : Loc) (packet : Packet) (cs : List ℕ) (to : Loc) (sent : Packet) → Go w from packet cs to sent → go w from packet cs ≡ Some (to, sent, [])
go_from taken w from packet cs to sent g = ap (go w from packet) (sym (append-nil cs)) ∙ taken.takes w from packet cs to sent g []

pub go_to : (taken : RunsAreTaken) (w : World) (from : Loc) (packet : Packet) (cs : List ℕ) (to : Loc) (sent : Packet) → go w from packet cs ≡ Some (to, sent, []) → Go w from packet cs to sent
go_to taken w from packet cs to sent h =
    let u = taken.gives w from packet cs to sent [] h in
    subst (λ xs. Go w from packet xs to sent) (sym (u.1 ∙ append-nil u.0)) u.2

-- ---- wires

module _ (d : Design) (places : Places) (rules : WellFormed d) (h : HostDecl) (eh : host_decl d ≡ Some h) (s : SwitchDecl) (es : switch_decl d ≡ Some s) where
  -- what a body of a wire does
  pub record Wired (at to : Loc) : Type 0 where
    pub leads : led d places at ≡ Some to
    pub may : wire_send h s (record { at = 0; text = at.role }) (record { at = 0; text = to.role }) ≡ true
    pub from_true : guard_at (last_world d places) at ≡ Some (truth true)
    pub to_true : guard_at (last_world d places) to ≡ Some (truth true)

  may_reach : (at : Loc) (r : Reached) (x : Loc × Packet × List ℕ) → r ≡ Some x → MayReach h s at.role r → wire_send h s (record { at = 0; text = at.role }) (record { at = 0; text = x.0.role }) ≡ true
  may_reach at None x e m = absurd (cc)
  may_reach at (Some y) x e m =
      let same : y ≡ x = cc in
      ap (λ (z : Loc × Packet × List ℕ). wire_send h s (record { at = 0; text = at.role }) (record { at = 0; text = z.0.role })) (sym same) ∙ m

  wired_at : (at : Loc) → is_wire h s (record { at = 0; text = at.role }) ≡ true → (x : Loc × Packet × List ℕ) → go (last_world d places) at (idle (layout d)) [] ≡ Some x → Wired at x.0
  wired_at at is x g =
      let both = goes (last_world d places) at (idle (layout d)) [] x g in
      let w = wires d h s rules eh es (context_by d.headers places d (length (functions d))) at is (idle (layout d)) (idle (layout d)) [] [] in
      record {
        leads = ap (option_map (λ (r : Loc × Packet × List ℕ). r.0)) g;
        may = may_reach at (go (last_world d places) at (idle (layout d)) []) x g w.1;
        from_true = both.0;
        to_true = both.1;
      }

  -- where it leads, it leads so
  pub wire_wired : (at to : Loc) → is_wire h s (record { at = 0; text = at.role }) ≡ true → led d places at ≡ Some to → Wired at to
  wire_wired at to is l =
      let t = map_there (λ (r : Loc × Packet × List ℕ). r.0) (go (last_world d places) at (idle (layout d)) []) to l in
      subst (Wired at) t.2 (wired_at at is t.0 t.1)

-- ---- runs under definitions

module _ (d : Design) (places : Places) (defs : Defs) (same_guards : SameGuards d places defs) (same_runs : SameRuns d places defs) where
  pub guard_down : (at : Loc) → guard_at (world (last_level d) d defs) at ≡ Some (truth true) → guard_at (last_world d places) at ≡ Some (truth true)
  guard_down at h = same_guards (last_level d) at (true_fits d (world (last_level d) d defs) refl at h) ∙ h

  pub guard_up : (at : Loc) → guard_at (last_world d places) at ≡ Some (truth true) → guard_at (world (last_level d) d defs) at ≡ Some (truth true)
  guard_up at h = sym (same_guards (last_level d) at (true_fits d (last_world d places) refl at h)) ∙ h

  go_up : (at : Loc) (p : Packet) (cs : List ℕ) (x : Loc × Packet × List ℕ) → PacketFits (layout d) p → go (last_world d places) at p cs ≡ Some x → go (world (last_level d) d defs) at p cs ≡ Some x
  go_up at p cs x fits h = sym (same_runs (last_level d) at p cs (true_fits d (last_world d places) refl at (goes (last_world d places) at p cs x h).0) fits) ∙ h

  go_down : (at : Loc) (p : Packet) (cs : List ℕ) (x : Loc × Packet × List ℕ) → PacketFits (layout d) p → go (world (last_level d) d defs) at p cs ≡ Some x → go (last_world d places) at p cs ≡ Some x
  go_down at p cs x fits h = same_runs (last_level d) at p cs (true_fits d (world (last_level d) d defs) refl at (goes (world (last_level d) d defs) at p cs x h).0) fits ∙ h

  -- ---- runs of wires

  module _ (taken : RunsAreTaken) (rules : WellFormed d) (h : HostDecl) (eh : host_decl d ≡ Some h) (s : SwitchDecl) (es : switch_decl d ≡ Some s) where
    -- and each packet goes there
    pub wire_leads : (at to : Loc) (p : Packet) → is_wire h s (record { at = 0; text = at.role }) ≡ true → PacketFits (layout d) p → led d places at ≡ Some to → Go (world (last_level d) d defs) at p [] to p
    wire_leads at to p is fits l =
        let t = map_there (λ (r : Loc × Packet × List ℕ). r.0) (go (last_world d places) at (idle (layout d)) []) to l in
        let w = wires d h s rules eh es (context_by d.headers places d (length (functions d))) at is p (idle (layout d)) [] [] in
        let g : go (last_world d places) at p [] ≡ Some (to, p, []) = w.0 ∙ ap (carried p []) t.1 ∙ ap (λ x. Some (x, p, [])) t.2 in
        go_to taken (world (last_level d) d defs) at p [] to p (go_up at p [] (to, p, []) fits g)

    carried_there : (p : Packet) (cs : List ℕ) (r : Reached) (x : Loc × Packet × List ℕ) → carried p cs r ≡ Some x → (y : Loc × Packet × List ℕ) × (r ≡ Some y) × ((y.0, p, cs) ≡ x)
    carried_there p cs r x e = map_there (λ (y : Loc × Packet × List ℕ). (y.0, p, cs)) r x e

    -- a packet goes nowhere else, and as it came
    pub wire_goes : (at : Loc) (p : Packet) (cs : List ℕ) (to : Loc) (sent : Packet) → is_wire h s (record { at = 0; text = at.role }) ≡ true → PacketFits (layout d) p → Go (world (last_level d) d defs) at p cs to sent
        → Wired d places rules h eh s es at to × (sent ≡ p) × (cs ≡ [])
    wire_goes at p cs to sent is fits g =
        let down = go_down at p cs (to, sent, []) fits (go_from taken (world (last_level d) d defs) at p cs to sent g) in
        let w = wires d h s rules eh es (context_by d.headers places d (length (functions d))) at is p (idle (layout d)) cs [] in
        let t = carried_there p cs (go (last_world d places) at (idle (layout d)) []) (to, sent, []) (sym w.0 ∙ down) in (
          subst (Wired d places rules h eh s es at) (ap (λ (x : Loc × Packet × List ℕ). x.0) t.2) (wired_at d places rules h eh s es at is t.0 t.1),
          ap (λ (x : Loc × Packet × List ℕ). x.1) (sym t.2),
          ap (λ (x : Loc × Packet × List ℕ). x.2) t.2,
        )

-- ---- numbers

module _ (d : Design) (places : Places) (rules : WellFormed d) (h : HostDecl) (eh : host_decl d ≡ Some h) (s : SwitchDecl) (es : switch_decl d ≡ Some s)
    (into : Role) (into_is : role_at (last_level d) d s.into.text ≡ Some into) (switches hosts : List ℕ) (numbers : HasNumbers d places switches hosts) where
  true_at : (o : Option FunTable) (n : ℕ) → IsTrueFor o (n ∷ []) → is_true_at o n ≡ true
  true_at o n t =
      ap (λ x. is_true_at x n) t.is_there
      ∙ true_both (all_fit_widths t.there.widths (n ∷ [])) ((looked t.there (n ∷ [])).value == 1) t.fit t.one

  declared_most : (w : ℕ) (x : Name) → unless_named (is_declared_width w) x ++ [] ≡ [] → w ≤ 64
  declared_most w x k =
      let is = passes (is_declared_width w) x.at (nil_left (unless_named (is_declared_width w) x) [] k) in
      let both = both_true (nat_le 1 w) (nat_le w 64) is in
      let most = both.1 in
      grind (arith, nat_tests, most)

  wide_fits : (n w : ℕ) → n < 2 ^ w → w ≤ 64 → fits_width 64 n ≡ true
  wide_fits n w l m = lt-ltb n (2 ^ 64) (less_pow n (2 ^ w) (2 ^ 64) l (pow_mono m))
    where
      less_pow : (a b c : ℕ) → a < b → b ≤ c → a < c
      less_pow a b c l m = omega (arith, l, m)

  -- the number of the entry role or the sink is that of a host
  pub host_listed : (at : Loc) → (h.entry.text ≡ at.role) ⊎ (h.sink.text ≡ at.role) → guard_at (last_world d places) at ≡ Some (truth true) → (a : ℕ) × (at.values ≡ a ∷ []) × (has_number a hosts ≡ true)
  host_listed at is g =
      let t = standing (last_world d places) at g in
      let i = role_in (last_level d) d at.role t.role t.role_is in
      let guarded = host_guarded d rules h eh t.role i.0 (elim is [ inl e ↦ inl (e ∙ i.1) | inr e ↦ inr (e ∙ i.1) ]) in
      let form = host_form d t.role.params t.role.guard guarded.0 in
      let one = bind_one form.param at.values t.env (ap (λ ps. bind ps at.values) (sym form.params_are) ∙ t.binds) in
      let a = one.0 in
      let c = (last_world d places).context in
      let called_true = host_value c form.param a form.at form.function form.args form.args_are
      ((λ k. value c (sym one.3 k) [] (sym form.is_call k)) ∙ t.is_true) in
      let table = call_true d places rules form.function.text (a ∷ []) form.runtime called_true in
      let function : host_function d ≡ Some form.function.text = guarded.1 ∙ ap (λ e. Some (called e)) form.is_call in
      let listed = numbers.hosts_are.listed a in
      let wide = declared_most form.param.width form.param.name
      (ap (λ ps. flat_map (λ (p : Param). unless_named (is_declared_width p.width) p.name) ps) (sym form.params_are) ∙ narrow d rules t.role i.0) in (
        a,
        one.1,
        listed ∙ true_both (fits_width 64 a) (is_true_at (host_table d places) a) (wide_fits a form.param.width one.2 wide)
            (ap (λ o. is_true_at (option_and_then (table_named d places) o) a) function ∙ true_at (table_named d places form.function.text) a table),
      )

  two_sixteen : (p q : Param) → list_all (λ w. w == 16) (p.width ∷ q.width ∷ []) ≡ true → (p.width ≡ 16) × (q.width ≡ 16)
  two_sixteen p q k =
      let first = both_true (p.width == 16) (list_all (λ w. w == 16) (q.width ∷ [])) k in
      let second = both_true (q.width == 16) true first.1 in
      (eqb-true p.width 16 first.0, eqb-true q.width 16 second.0)

  names_apart : (p q : Param) → repeated [] (param_names (p ∷ q ∷ [])) ≡ [] → same_name q.name.text p.name.text ≡ false
  names_apart p q k = apart (same_name q.name.text p.name.text) (passes _ q.name.at (nil_left (unless_named (not (has_name q.name.text (p.name ∷ []))) q.name) [] (nil_right (unless_named (not (has_name p.name.text [])) p.name) _ k)))
    where
      apart : (b : Bool) → not (b || false) ≡ true → b ≡ false
      apart true e = absurd (cc)
      apart false e = refl

  -- the numbers of a switch role are those of a switch and of a port
  pub record Listed (at : Loc) : Type 0 where
    pub switch : ℕ
    pub port : ℕ
    pub values_are : at.values ≡ switch ∷ port ∷ []
    pub is_switch : has_number switch switches ≡ true
    pub is_port : port < s.ports
    pub switch_fits : switch < 2 ^ 16
    pub port_fits : port < 2 ^ 16

  pub switch_listed : (at : Loc) → (s.into.text ≡ at.role) ⊎ (s.out.text ≡ at.role) → guard_at (last_world d places) at ≡ Some (truth true) → Listed at
  switch_listed at is g =
      let t = standing (last_world d places) at g in
      let i = role_in (last_level d) d at.role t.role t.role_is in
      let j = declares d rules s es t.role i.0 (elim is [ inl e ↦ inl (e ∙ i.1) | inr e ↦ inr (e ∙ i.1) ]) in
      let form = switch_form d s.ports t.role.params t.role.guard (switch_guarded d rules s es t.role j) in
      let two = bind_two form.switch form.port at.values t.env (ap (λ ps. bind ps at.values) (sym form.params_are) ∙ t.binds) in
      let widths = two_sixteen form.switch form.port (ap (λ ps. list_all (λ w. w == 16) (widths_of ps)) (sym form.params_are)
      ∙ (both_true (length t.role.params == 2) (list_all (λ w. w == 16) (widths_of t.role.params)) (two_params d rules s es t.role j)).1) in
      let apart = names_apart form.switch form.port (ap (λ ps. repeated [] (param_names ps)) (sym form.params_are) ∙ own_names d rules t.role i.0) in
      let c = (last_world d places).context in
      let says = switch_value c form.switch form.port two.0 two.1 s.ports (guard_function t.role.guard) t.role.guard apart form.is_so
      (ap (λ env. value c env [] t.role.guard) (sym two.5) ∙ t.is_true) in
      let table = call_true d places rules (guard_function t.role.guard) (two.0 ∷ []) form.runtime says.0 in
      let function = function_is d rules s es into into_is t.role j in
      let small : two.0 < 2 ^ 16 = subst (λ w. two.0 < 2 ^ w) widths.0 two.3 in
      record {
        switch = two.0;
        port = two.1;
        values_are = two.2;
        is_switch = numbers.switches_are.listed two.0 ∙ true_both (fits_width 16 two.0) (is_true_at (switch_table d places) two.0) (lt-ltb two.0 (2 ^ 16) small)
            (ap (λ o. is_true_at (option_and_then (table_named d places) o) two.0) function ∙ true_at (table_named d places (guard_function t.role.guard)) two.0 table);
        is_port = says.1;
        switch_fits = small;
        port_fits = subst (λ w. two.1 < 2 ^ w) widths.1 two.4;
      }

  -- ---- ends

  end_sink : (to : Loc) (b : ℕ) (c : Bool) → (c ≡ true → (e : LinkEnd) × (as_end s h to ≡ Some e)) → same_name to.role s.into.text ≡ c → same_name to.role h.sink.text ≡ true → to.values ≡ b ∷ [] → (e : LinkEnd) × (as_end s h to ≡ Some e)
  end_sink to b true f e k v = f refl
  end_sink to b false f e k v = (
    to_host b,
    ap (λ x. if x then option_map (λ (at : ℕ × ℕ). to_switch at.0 at.1) (two_numbers to.values) else (if same_name to.role h.sink.text then option_map to_host (one_number to.values) else None)) e
        ∙ ap (λ x. if x then option_map to_host (one_number to.values) else None) k
        ∙ ap (λ ns. option_map to_host (one_number ns)) v,
  )

  end_into : (to : Loc) → guard_at (last_world d places) to ≡ Some (truth true) → same_name to.role s.into.text ≡ true → (e : LinkEnd) × (as_end s h to ≡ Some e)
  end_into to g k =
      let l = switch_listed to (inl (sym (same_text to.role s.into.text k))) g in (
        to_switch l.switch l.port,
        ap (λ x. if x then option_map (λ (at : ℕ × ℕ). to_switch at.0 at.1) (two_numbers to.values) else (if same_name to.role h.sink.text then option_map to_host (one_number to.values) else None)) k
            ∙ ap (λ ns. option_map (λ (at : ℕ × ℕ). to_switch at.0 at.1) (two_numbers ns)) l.values_are,
      )

  -- what a wire leads to ends a link
  pub ends_there : (from : List ℕ) (to : Loc) → wire_send h s (record { at = 0; text = from }) (record { at = 0; text = to.role }) ≡ true → guard_at (last_world d places) to ≡ Some (truth true)
      → (e : LinkEnd) × (as_end s h to ≡ Some e)
  ends_there from to may g = by_into (same_name to.role s.into.text) refl may
    where
      by_into : (b : Bool) → same_name to.role s.into.text ≡ b → (b || (same_name to.role h.sink.text && not (same_name from h.entry.text))) ≡ true → (e : LinkEnd) × (as_end s h to ≡ Some e)
      by_into true k m = end_into to g k
      by_into false k m =
          let sink = (both_true (same_name to.role h.sink.text) (not (same_name from h.entry.text)) m).0 in
          let one = host_listed to (inr (sym (same_text to.role h.sink.text sink))) g in
          end_sink to one.0 false (λ e. end_into to g (k ∙ e)) k sink one.1

  -- what the entry role leads to is a port
  pub ports_there : (to : Loc) → wire_send h s (record { at = 0; text = h.entry.text }) (record { at = 0; text = to.role }) ≡ true → guard_at (last_world d places) to ≡ Some (truth true)
      → (x : ℕ × ℕ) × (as_port s to ≡ Some x)
  ports_there to may g = by_into (same_name to.role s.into.text) refl may
    where
      never : (a b : Bool) → b ≡ true → (a && not b) ≡ true → ⊥
      never true true e m = cc
      never true false e m = cc
      never false b e m = cc

      by_into : (b : Bool) → same_name to.role s.into.text ≡ b → (b || (same_name to.role h.sink.text && not (same_name h.entry.text h.entry.text))) ≡ true → (x : ℕ × ℕ) × (as_port s to ≡ Some x)
      by_into true k m =
          let l = switch_listed to (inl (sym (same_text to.role s.into.text k))) g in
          ((l.switch, l.port), ap (λ x. if x then two_numbers to.values else None) k ∙ ap two_numbers l.values_are)
      by_into false k m = absurd (never (same_name to.role h.sink.text) (same_name h.entry.text h.entry.text) (text_self h.entry.text) m)
