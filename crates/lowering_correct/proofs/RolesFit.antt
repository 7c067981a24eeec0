-- The body of the ingress role fits, at each switch and port, for packets of the layout; and so do its copies.
use Rattle.std.proofs.Common.{◌≡◌, ℕ, ◌<◌, ◌^◌, List, [], ◌∷◌, reverse, Bool, true, false, cond, Option, Some, None, if◌then◌else◌, option_map, refl, sym, ap, subst, ◌∙◌}
use Rattle.std.proofs.lemmas.Bool.{ltb-true}
use Rattle.cocoon_num.specs.Names.{named}
use Rattle.cocoon_num.specs.PacketForms.{PacketFits}
use Rattle.cocoon_num.specs.Packets.{Packet}
use Rattle.cocoon_num.specs.Tree.{Param, DefsText, Design}
use Rattle.cocoon_num.specs.Values.{Value, fits_width, number, truth}
use Rattle.cocoon_types.specs.Design.{functions, last_level, layout}
use Rattle.cocoon_types.specs.Rules.{WellFormed}
use Rattle.cocoon_types.specs.Runs.{Loc}
use Rattle.cocoon_types.specs.Tables.{Defs, defs_of}
use Rattle.cocoon_types.specs.Val.{Env, apply_in, bound, value, variable}
use Rattle.lowering.specs.Agrees.{Filling, GroupTakesIn, TakesIn, inner_context}
use Rattle.lowering.specs.Ends.{FitsAll}
use Rattle.lowering.specs.LowerBlock.{in_block}
use Rattle.lowering.specs.Visit.{Forked, Visit, on, leaves, copies, nothing, visit_all, where_true}
use Rattle.lowering.specs.Whole.{RoleFits, SwitchRole, role_env}
use Rattle.lowering.specs.Departs.{departs, left_by}
use Rattle.lowering.specs.Roles.{NetParts, net_parts}
use Rattle.lowering.specs.Sends.{ExitsOnly, IsExit}
use Rattle.lowering.specs.Fitting.{CopiesFit, VisitFits, role_context, role_visit}
use Rattle.lowering.specs.Forks.{ForkIs, ForksAre}
use Rattle.sound_types.specs.Defined.{HasDefinitions}
use Rattle.sound_types.specs.Literals.{DesignLiteralsFit}
use Rattle.sound_types.specs.WellTyped.{IsTyped, scope_at}
use Rattle.sound_types.proofs.Declared.{names_differ}
use Rattle.sound_types.proofs.Definitions.{under_definitions}
use Rattle.sound_types.proofs.Options.{text_self}
use Rattle.lowering_correct.proofs.Fitting.{AtFork, Here, PacketOnly, Setting, VisitOk, context_of, fits_all, here_more, visit_all_ok}
use Rattle.lowering_correct.proofs.ForkCalls.{fork_is, width_least, width_most}
use Rattle.lowering_correct.proofs.Formed.{Formed, all_forks, one_more}
use Rattle.lowering_correct.proofs.Taking.{some_same}
use Rattle.lowering_correct.proofs.NetParts.{body_formed, exit_widths, parts_ingress, role_with}

-- ---- what a visit that is so gives

-- a copy of a fork that is reached starts so
forked_here : (d : Design) (i : ℕ) (own out : List ℕ) (s : ℕ) (f : Forked) (env : Env) (packet : Packet) (at : AtFork d i own out s f env packet) → (x : ℕ) → x < 2 ^ f.width
    → Here d i own s (one_more at.x f.width at.vars) (bound f.x (number f.width x) env) packet
forked_here d i own out s f env packet at x fits =
    subst (λ y. Here d i own s (one_more at.x f.width at.vars) (bound y (number f.width x) env) packet) (sym at.name_is)
    (here_more d i own s at.vars env packet at.x f.width (number f.width x) (refl, fits) at.new at.here)

copies_ok : (d : Design) (i : ℕ) (own out : List ℕ) (s : ℕ) (a : List ℕ → List ℕ → Option Value) → Setting d i own out a → (v : Visit) → VisitOk d i own out s (PacketOnly d) v
    → CopiesFit (reverse (functions d)) (context_of d a) v
copies_ok d i own out s a g (on env packet) h = tt
copies_ok d i own out s a g (leaves to packet) h = tt
copies_ok d i own out s a g (copies f env packet) h = λ x fits.
    fits_all d i own out s a g true (λ c ns. ⊥) (λ e. absurd (cc)) (λ y. in_block y f.body ≡ true) f.body (one_more h.x f.width h.vars) h.typed h.formed (bound f.x (number f.width x) env) packet
    (forked_here d i own out s f env packet h x fits) (λ y j. j)
copies_ok d i own out s a g nothing h = tt

exits_ok : (d : Design) (i : ℕ) (own out : List ℕ) (s : ℕ) (v : Visit) → VisitOk d i own out s (PacketOnly d) v → ExitsOnly out (layout d) s v
exits_ok d i own out s (on env packet) h = tt
exits_ok d i own out s (leaves to packet) h = h
exits_ok d i own out s (copies f env packet) h = (width_least f.width h.declared, width_most f.width h.declared, h.here.matches.packet_fits refl)
exits_ok d i own out s nothing h = tt

pair_same : (x y : Loc × Packet) (P : Loc × Packet → Type 0) → Some x ≡ Some y → P x → P y
pair_same x y P e h = subst P (some_same x y e) h

left_ok : (d : Design) (i : ℕ) (own out : List ℕ) (s : ℕ) (v : Visit) → VisitOk d i own out s (PacketOnly d) v → (to : Loc) (sent : Packet) → left_by v ≡ Some (to, sent) → IsExit out (layout d) s to sent
left_ok d i own out s (on env packet) h to sent e = absurd (cc)
left_ok d i own out s (leaves at packet) h to sent e =
    pair_same (at, packet) (to, sent) (λ x. IsExit out (layout d) s x.0 x.1) e h
left_ok d i own out s (copies f env packet) h to sent e = absurd (cc)
left_ok d i own out s nothing h to sent e = absurd (cc)

chosen_ok : (d : Design) (i : ℕ) (own out : List ℕ) (s : ℕ) (o : Option Value) (v : Visit) → VisitOk d i own out s (PacketOnly d) v → VisitOk d i own out s (PacketOnly d) (where_true o v nothing)
chosen_ok d i own out s None v h = tt
chosen_ok d i own out s (Some (number w n)) v h = tt
chosen_ok d i own out s (Some (truth true)) v h = h
chosen_ok d i own out s (Some (truth false)) v h = tt

copied_ok : (d : Design) (i : ℕ) (own out : List ℕ) (s : ℕ) (a : List ℕ → List ℕ → Option Value) → Setting d i own out a → (f : Forked) (env : Env) (packet : Packet) → AtFork d i own out s f env packet → (x : ℕ) (b : Bool)
    → fits_width f.width x ≡ b → (to : Loc) (sent : Packet)
    → (if b then left_by (where_true (value (context_of d a) (bound f.x (number f.width x) env) packet f.e) (visit_all (context_of d a) f.body (bound f.x (number f.width x) env) packet) nothing) else None) ≡ Some (to, sent)
    → IsExit out (layout d) s to sent
copied_ok d i own out s a g f env packet h x false is to sent e = absurd (cc)
copied_ok d i own out s a g f env packet h x true is to sent e =
    let c = context_of d a in
    let inner = bound f.x (number f.width x) env in
    let v = visit_all c f.body inner packet in
    let ok = visit_all_ok d i own out s a g true f.body (one_more h.x f.width h.vars) h.typed h.formed inner packet (forked_here d i own out s f env packet h x (ltb-true x (2 ^ f.width) is)) in
    left_ok d i own out s (where_true (value c inner packet f.e) v nothing) (chosen_ok d i own out s (value c inner packet f.e) v ok) to sent e

departs_ok : (d : Design) (i : ℕ) (own out : List ℕ) (s : ℕ) (a : List ℕ → List ℕ → Option Value) → Setting d i own out a → (v : Visit) → VisitOk d i own out s (PacketOnly d) v → (cs : List ℕ) (to : Loc) (sent : Packet)
    → departs (context_of d a) v cs ≡ Some (to, sent) → IsExit out (layout d) s to sent
departs_ok d i own out s a g (on env packet) h cs to sent e = absurd (cc)
departs_ok d i own out s a g (leaves at packet) h [] to sent e = left_ok d i own out s (leaves at packet) h to sent e
departs_ok d i own out s a g (leaves at packet) h (c ∷ cs) to sent e = absurd (cc)
departs_ok d i own out s a g (copies f env packet) h [] to sent e = absurd (cc)
departs_ok d i own out s a g (copies f env packet) h (c ∷ []) to sent e = copied_ok d i own out s a g f env packet h c (fits_width f.width c) refl to sent e
departs_ok d i own out s a g (copies f env packet) h (c ∷ x ∷ cs) to sent e = absurd (cc)
departs_ok d i own out s a g nothing h cs to sent e = absurd (cc)

-- ---- the role's body

-- all that a visit of the role is in, by definitions
record Visited (d : Design) (parts : NetParts) (defs : Defs) (s port : ℕ) (packet : Packet) : Type 0 where
  setting : Setting d (last_level d) parts.role.switch parts.switches.out.text (apply_in d.headers defs (reverse (functions d)))
  headers_are : parts.role.headers ≡ d.headers
  functions_are : parts.role.functions ≡ reverse (functions d)
  vars : List Param
  typed : IsTyped (scope_at d (last_level d) vars true) parts.role.body
  formed : Formed (reverse (functions d)) parts.role.switch parts.switches.out.text false vars parts.role.body
  here : Here d (last_level d) parts.role.switch s vars (role_env parts.role s port) packet

start : (d : Design) (i : ℕ) (a b : Param) (s p : ℕ) (packet : Packet) → a.width ≡ 16 → b.width ≡ 16 → s < 2 ^ 16 → p < 2 ^ 16 → PacketFits (layout d) packet
    → Here d i a.name.text s (a ∷ b ∷ []) (bound a.name.text (number 16 s) (bound b.name.text (number 16 p) [])) packet
start d i a b s p packet x y l m fits = record {
  matches = record { variables = (refl, (sym x, subst (λ w. s < 2 ^ w) (sym x) l), (refl, (sym y, subst (λ w. p < 2 ^ w) (sym y) m), tt)); packet_fits = λ e. fits };
  own_width = a.width;
  own_in = ap (λ c. option_map (λ (q : Param). q.width) (cond c (Some a) (named (λ (q : Param). q.name) a.name.text (b ∷ [])))) (text_self a.name.text);
  own_is = ap (λ c. if c then Some (number 16 s) else variable (bound b.name.text (number 16 p) []) a.name.text) (text_self a.name.text);
}

visited : (d : Design) (es : DefsText) → HasDefinitions d es → (parts : NetParts) → net_parts d ≡ Some parts → (s p : ℕ) → s < 2 ^ 16 → p < 2 ^ 16 → (packet : Packet) → PacketFits (layout d) packet
    → Visited d parts (defs_of d es) s p packet
visited d es h parts is s p l m packet fits =
    let g = parts_ingress d h.rules parts is in
    let i = last_level d in
    let f = body_formed d h.rules h.literals parts g in
    let out = parts.switches.out.text in
    let body_is : parts.role.body ≡ g.body = ap (λ (r : SwitchRole). r.body) g.role_with_is in
    record {
      setting = record { have = under_definitions d es h; differ = names_differ d h.rules; ports = exit_widths d h.rules parts.switches g.switches_are };
      headers_are = ap (λ (r : SwitchRole). r.headers) g.role_with_is;
      functions_are = ap (λ (r : SwitchRole). r.functions) g.role_with_is;
      vars = g.role.params;
      typed = subst (IsTyped (scope_at d i g.role.params true)) (sym body_is) f.0;
      formed = subst (λ r. Formed (reverse (functions d)) r.switch out false g.role.params r.body) (sym g.role_with_is) f.1;
      here = subst (λ r. Here d i r.switch s g.role.params (role_env r s p) packet) (sym g.role_with_is)
          (subst (λ ps. Here d i g.switch.name.text s ps (role_env (role_with d g.switch g.port g.body) s p) packet) (sym g.params_are)
          (start d i g.switch g.port s p packet g.switch_width g.port_width l m fits));
    }

-- the context of the role, whatever else the filling has
context_is : (d : Design) (es : DefsText) (parts : NetParts) (fill : Filling) (s p : ℕ) (packet : Packet) → fill.defs ≡ defs_of d es → Visited d parts (defs_of d es) s p packet
    → role_context parts.role fill ≡ context_of d (apply_in d.headers (defs_of d es) (reverse (functions d)))
context_is d es parts fill s p packet is v = (λ k. inner_context (v.headers_are k) (is k) (v.functions_are k))

-- premises that all these laws have
pub record AtPort (d : Design) (es : DefsText) (parts : NetParts) (fill : Filling) (s p : ℕ) (packet : Packet) : Type 0 where
  pub defined : HasDefinitions d es
  pub parts_are : net_parts d ≡ Some parts
  pub defs_are : fill.defs ≡ defs_of d es
  pub switch_fits : s < 2 ^ 16
  pub port_fits : p < 2 ^ 16
  pub packet_fits : PacketFits (layout d) packet

at_port : (d : Design) (es : DefsText) (parts : NetParts) (fill : Filling) (s p : ℕ) (packet : Packet) → AtPort d es parts fill s p packet → Visited d parts (defs_of d es) s p packet
at_port d es parts fill s p packet h = visited d es h.defined parts h.parts_are s p h.switch_fits h.port_fits packet h.packet_fits

pub role_fits : (d : Design) (es : DefsText) (parts : NetParts) (fill : Filling) (s p : ℕ) (packet : Packet) → AtPort d es parts fill s p packet → RoleFits parts.role fill s p packet
role_fits d es parts fill s p packet h =
    let v = at_port d es parts fill s p packet h in
    let a = apply_in d.headers (defs_of d es) (reverse (functions d)) in
    subst (λ fs. FitsAll (TakesIn fs) (GroupTakesIn fs) (λ x. Unit {0}) (role_context parts.role fill) parts.role.body (role_env parts.role s p) packet) (sym v.functions_are)
    (subst (λ c. FitsAll (TakesIn (reverse (functions d))) (GroupTakesIn (reverse (functions d))) (λ x. Unit {0}) c parts.role.body (role_env parts.role s p) packet) (sym (context_is d es parts fill s p packet h.defs_are v))
    (fits_all d (last_level d) parts.role.switch parts.switches.out.text s a v.setting false (GroupTakesIn (reverse (functions d))) (λ e f ns k. k) (λ x. Unit {0}) parts.role.body v.vars v.typed v.formed
    (role_env parts.role s p) packet v.here (λ y j. tt)))

-- the visit is so
visit_is_ok : (d : Design) (es : DefsText) (parts : NetParts) (fill : Filling) (s p : ℕ) (packet : Packet) → AtPort d es parts fill s p packet
    → VisitOk d (last_level d) parts.role.switch parts.switches.out.text s (PacketOnly d) (role_visit parts.role fill s p packet)
visit_is_ok d es parts fill s p packet h =
    let v = at_port d es parts fill s p packet h in
    let a = apply_in d.headers (defs_of d es) (reverse (functions d)) in
    subst (λ c. VisitOk d (last_level d) parts.role.switch parts.switches.out.text s (PacketOnly d) (visit_all c parts.role.body (role_env parts.role s p) packet)) (sym (context_is d es parts fill s p packet h.defs_are v))
    (visit_all_ok d (last_level d) parts.role.switch parts.switches.out.text s a v.setting false parts.role.body v.vars v.typed v.formed (role_env parts.role s p) packet v.here)

pub visit_fits : (d : Design) (es : DefsText) (parts : NetParts) (fill : Filling) (s p : ℕ) (packet : Packet) → AtPort d es parts fill s p packet → VisitFits parts.role fill s p packet
visit_fits d es parts fill s p packet h =
    let v = at_port d es parts fill s p packet h in
    let a = apply_in d.headers (defs_of d es) (reverse (functions d)) in
    let ok = visit_is_ok d es parts fill s p packet h in
    let visit = role_visit parts.role fill s p packet in record {
      body = role_fits d es parts fill s p packet h;
      copied = subst (λ fs. CopiesFit fs (role_context parts.role fill) visit) (sym v.functions_are)
          (subst (λ c. CopiesFit (reverse (functions d)) c visit) (sym (context_is d es parts fill s p packet h.defs_are v))
          (copies_ok d (last_level d) parts.role.switch parts.switches.out.text s a v.setting visit ok));
    }

pub visit_exits : (d : Design) (es : DefsText) (parts : NetParts) (fill : Filling) (s p : ℕ) (packet : Packet) → AtPort d es parts fill s p packet
    → ExitsOnly parts.switches.out.text (layout d) s (role_visit parts.role fill s p packet)
visit_exits d es parts fill s p packet h =
    exits_ok d (last_level d) parts.role.switch parts.switches.out.text s (role_visit parts.role fill s p packet) (visit_is_ok d es parts fill s p packet h)

pub visit_departs : (d : Design) (es : DefsText) (parts : NetParts) (fill : Filling) (s p : ℕ) (packet : Packet) → AtPort d es parts fill s p packet
    → (cs : List ℕ) (to : Loc) (sent : Packet) → departs (role_context parts.role fill) (role_visit parts.role fill s p packet) cs ≡ Some (to, sent) → IsExit parts.switches.out.text (layout d) s to sent
visit_departs d es parts fill s p packet h cs to sent e =
    let v = at_port d es parts fill s p packet h in
    let a = apply_in d.headers (defs_of d es) (reverse (functions d)) in
    let visit = role_visit parts.role fill s p packet in
    departs_ok d (last_level d) parts.role.switch parts.switches.out.text s a v.setting visit (visit_is_ok d es parts fill s p packet h) cs to sent
    (ap (λ c. departs c visit cs) (sym (context_is d es parts fill s p packet h.defs_are v)) ∙ e)

-- ---- its forks

pub role_forks : (d : Design) → WellFormed d → DesignLiteralsFit d → (parts : NetParts) → net_parts d ≡ Some parts → ForksAre parts.role.functions parts.role.body
role_forks d w l parts is =
    let g = parts_ingress d w parts is in
    let f = body_formed d w l parts g in
    subst (λ r. ForksAre r.functions r.body) (sym g.role_with_is)
    (all_forks (ForkIs (reverse (functions d))) d (last_level d) g.switch.name.text parts.switches.out.text false g.body g.role.params (λ x width e declared k. fork_is (reverse (functions d)) x width e declared k) f.0 f.1)
