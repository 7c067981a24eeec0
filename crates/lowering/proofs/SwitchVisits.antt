-- A whole visit of a switch: what leaves is what the role's body sends.
use Rattle.std.specs.Prelude.{◌≡◌, ℕ, suc, ◌<◌, ◌≤◌, ◌^◌, true, List, [], ◌∷◌, ◌++◌, map, Option, Some, None, option_and_then, option_map, refl}
use Rattle.std.proofs.Common.{sym, ◌∙◌, ap, ap₂, subst, inl, inr, arith}
use Rattle.std.proofs.lemmas.Bool.{lt-ltb, ltb-true}
use Rattle.cocoon_num.specs.Lists.{has_number}
use Rattle.cocoon_num.specs.Packets.{Packet, enter}
use Rattle.cocoon_num.specs.Tree.{HeaderDecl, Param}
use Rattle.cocoon_num.specs.Values.{Value, fits_width, number}
use Rattle.cocoon_types.specs.Design.{widths_of}
use Rattle.cocoon_types.specs.Tables.{look_up}
use Rattle.cocoon_types.specs.Val.{Env, bound, value}
use Rattle.p4_ir.specs.P4Tree.{RowsFile, field_widths, program_layout}
use Rattle.p4_ir.specs.Switch as switch
use Rattle.p4_ir.specs.Switch.{Departure, Outcome, Running, State, after_ingress, members, p4_run_all, sent_by, state_of, switch_go}
use Rattle.lowering.specs.Agrees.{AllMade, Filling, FitAll, GroupTakesIn, TakesIn, run_list}
use Rattle.lowering.specs.Ends.{Copies, Ends, FitsAll, Numbered, Sent, begun}
use Rattle.lowering.specs.Log.{FieldsAt, NumberedTo, Placed}
use Rattle.lowering.specs.Lower.{Counts, Made, a_field, a_table, a_group, callees, params_before_last}
use Rattle.lowering.specs.LowerBlock.{Site, fork_function, in_block}
use Rattle.lowering.specs.LowerSites.{InSite}
use Rattle.lowering.specs.Visit.{Forked, Visit, on, leaves, copies, nothing, visit_all}
use Rattle.lowering.specs.Whole.{IsIngress, SwitchRole, ingress_place, role_env, role_lowered, role_vars, start_state}
use Rattle.lowering.specs.Departs.{copied, departs, departure, left_by}
use Rattle.lowering.specs.Serving.{is_true}
use Rattle.lowering.specs.SwitchProgram.{egress_lowered, p4_field, p4_header, switch_made, switch_program}
use Rattle.lowering.specs.Forks.{ForkIs, ForkServes}
use Rattle.lowering.specs.Fitting.{CopiesFit, SwitchServes, VisitFits, role_context, role_layout, role_visit}
use Rattle.lowering.specs.Leaving.{role_departs}
use Rattle.lowering.proofs.Conditions.{fit_with, before_last_fits, last_fits}
use Rattle.lowering.proofs.VisitCopies.{chosen, condition_is, declared_is, sent_shows, true_is}
use Rattle.lowering.proofs.Laws.{Laws}
use Rattle.lowering.proofs.Made.{all_made, fields_first, fields_second, placed_both, running, serves_first, serves_second, tables_at, widths_made}
use Rattle.lowering.proofs.Reaching.{AtFork, Grouped, Of, grouped, no_fork, reached}

-- ---- the layout

widths_same : (ps : List Param) → field_widths (map p4_field ps) ≡ widths_of ps
widths_same [] = refl
widths_same (p ∷ ps) = ap (λ ws. p.width ∷ ws) (widths_same ps)

layouts_same : (hs : List HeaderDecl) → map (λ h. field_widths h.fields) (map p4_header hs) ≡ map (λ (h : HeaderDecl). widths_of h.fields) hs
layouts_same [] = refl
layouts_same (h ∷ hs) = ap₂ (λ ws layout. ws ∷ layout) (widths_same h.fields) (layouts_same hs)

pub layout_is : (r : SwitchRole) (s : ℕ) → program_layout (switch_program r s) ≡ role_layout r
layout_is r s = layouts_same r.headers

-- ---- numbers

numbered_sites : (k j : ℕ) (xs : List Site) → NumberedTo k xs j → Numbered k xs
numbered_sites k j [] h = tt
numbered_sites k j (x ∷ xs) h = (h.0, numbered_sites (suc k) j xs h.1)

fields_rise : (i a j b : ℕ) (ms : List Made) → Placed i a ms j b → i ≤ j
fields_rise i a j b [] h = omega (arith, h.0)
fields_rise i a j b (a_field x k w ∷ ms) h = omega (arith, fields_rise (suc i) a j b ms h.1)
fields_rise i a j b (a_table t f ps ∷ ms) h = fields_rise i (suc a) j b ms h.1
fields_rise i a j b (a_group t f ps ∷ ms) h = fields_rise i (suc a) j b ms h.1

same_numbers : (o : Option (List ℕ)) (ns ms : List ℕ) → o ≡ Some ns → o ≡ Some ms → ns ≡ ms
same_numbers o ns ms h g = ap inner (sym h ∙ g)
  where
    inner : Option (List ℕ) → List ℕ
    inner None = []
    inner (Some x) = x

entered : (o : Option (Packet × List ℕ)) (f g : Packet × List ℕ → Departure) → ((x : Packet × List ℕ) → o ≡ Some x → f x ≡ g x) → option_and_then f o ≡ option_and_then g o
entered None f g h = refl
entered (Some x) f g h = h x refl

-- ---- one switch

-- the counts that lowering begins with
abbrev none_made : Counts
none_made = record { app = 0; var = 0; field = 1; site = 1 }

module _ (laws : Laws) (r : SwitchRole) (fill : Filling) (s : ℕ) (rows : RowsFile) (h : SwitchServes r fill s rows) where
  ingress_placed : Placed 1 0 (role_lowered r s).made (role_lowered r s).next.field (role_lowered r s).next.app
  ingress_placed = laws.placed r.headers r.functions r.port r.body (role_vars r s) none_made

  egress_placed : Placed (role_lowered r s).next.field (role_lowered r s).next.app (egress_lowered r s).made (egress_lowered r s).next.field (egress_lowered r s).next.app
  egress_placed = laws.copies r.headers r.functions r.port (role_lowered r s).sites (role_lowered r s).next

  fields_made : FieldsAt (field_widths (switch_program r s).meta) (switch_made r s)
  fields_made =
      subst (λ ws. FieldsAt ws (switch_made r s)) (sym (ap (λ ws. 8 ∷ ws) (widths_made (switch_made r s))))
      (laws.fields 0 (egress_lowered r s).next.field (egress_lowered r s).next.app (switch_made r s)
      (placed_both 1 0 (role_lowered r s).next.field (role_lowered r s).next.app (egress_lowered r s).next.field (egress_lowered r s).next.app (role_lowered r s).made (egress_lowered r s).made ingress_placed egress_placed))

  ingress_made : (port : ℕ) → AllMade (ingress_place (switch_program r s) rows port) fill (role_lowered r s).made
  ingress_made port =
      all_made (switch_program r s) (switch_program r s).ingress.tables rows (Some port) None fill (role_lowered r s).made
      (fields_first (field_widths (switch_program r s).meta) (role_lowered r s).made (egress_lowered r s).made fields_made)
      (tables_at 1 0 (role_lowered r s).next.field (role_lowered r s).next.app (role_lowered r s).made ingress_placed)
      (serves_first fill rows (role_lowered r s).made (egress_lowered r s).made h.tables)

  egress_made : (rid : ℕ) → AllMade (running (switch_program r s) (switch_program r s).egress.tables rows None (Some rid)) fill (egress_lowered r s).made
  egress_made rid =
      all_made (switch_program r s) (switch_program r s).egress.tables rows None (Some rid) fill (egress_lowered r s).made
      (fields_second (field_widths (switch_program r s).meta) (role_lowered r s).made (egress_lowered r s).made fields_made)
      (tables_at (role_lowered r s).next.field (role_lowered r s).next.app (egress_lowered r s).next.field (egress_lowered r s).next.app (egress_lowered r s).made egress_placed)
      (serves_second fill rows (role_lowered r s).made (egress_lowered r s).made h.tables)

  is_ingress : IsIngress r fill s (switch_program r s) rows
  is_ingress = record { layout = layout_is r s; functions = h.functions; body = refl; made = ingress_made; first = refl }

  -- the egress run of a copy
  copy_sends : (port : ℕ) (f : Forked) (env : Env) (packet : Packet) (ran : Option Outcome)
      → (e : Copies fill (role_context r fill) (λ x. Unit {0}) (ingress_place (switch_program r s) rows port) (role_lowered r s).next.field (role_lowered r s).sites f env packet ran)
      → ForkIs r.functions f.x f.width f.e → (x : ℕ) → x < 2 ^ f.width
      → FitsAll (TakesIn r.functions) (λ g ns. ⊥) (λ y. in_block y f.body ≡ true) (role_context r fill) f.body (bound f.x (number f.width x) env) packet
      → (payload : List ℕ)
      → option_and_then (sent_by (switch_program r s) payload) (switch.egress_of (switch_program r s) rows x e.after)
      ≡ option_and_then (departure (role_layout r) payload) (left_by (visit_all (role_context r fill) f.body (bound f.x (number f.width x) env) packet))
  copy_sends port f env packet ran e k x fits typed payload =
      let typed2 : FitsAll (TakesIn r.functions) (λ g ns. ⊥) (InSite e.site) (role_context r fill) f.body (bound f.x (number f.width x) env) packet
      = subst (λ z. FitsAll (TakesIn r.functions) (λ g ns. ⊥) (λ y. in_block y z ≡ true) (role_context r fill) f.body (bound f.x (number f.width x) env) packet) (ap (λ (z : Forked). z.body) e.block_is) typed in
      let sent : Sent (visit_all (role_context r fill) f.body (bound f.x (number f.width x) env) packet) (run_list (running (switch_program r s) (switch_program r s).egress.tables rows None (Some x)) (egress_lowered r s).code (begun e.after))
      = laws.copy (ingress_place (switch_program r s) rows port) (running (switch_program r s) (switch_program r s).egress.tables rows None (Some x)) fill r.headers r.functions r.port refl (layout_is r s) h.functions
      (role_lowered r s).next (role_lowered r s).sites f env packet ran e (omega (arith, fields_rise 1 0 (role_lowered r s).next.field (role_lowered r s).next.app (role_lowered r s).made ingress_placed))
      1 (numbered_sites 1 (role_lowered r s).next.site (role_lowered r s).sites (laws.forks r.headers r.functions r.port r.body (role_vars r s) none_made))
      (laws.settles (callees r.headers r.functions r.port) r.body (role_vars r s) none_made (inl tt, (inr (refl, refl), tt)))
      x refl k.least k.most fits typed2 (egress_made x) refl in
      ap (λ o. option_and_then (sent_by (switch_program r s) payload) (option_map state_of o)) (laws.lists (running (switch_program r s) (switch_program r s).egress.tables rows None (Some x)) (egress_lowered r s).code (begun e.after))
      ∙ sent_shows (switch_program r s) (role_layout r) (layout_is r s) payload (visit_all (role_context r fill) f.body (bound f.x (number f.width x) env) packet) _ sent
      (no_fork (role_context r fill) (visit_all (role_context r fill) f.body (bound f.x (number f.width x) env) packet)
      (grouped (TakesIn r.functions) (λ g ns. ⊥) (λ y. in_block y f.body ≡ true) (role_context r fill) f.body (bound f.x (number f.width x) env) packet typed))

  -- a member of the group leaves, where the fork takes it
  copy_leaves : (port : ℕ) (f : Forked) (env : Env) (packet : Packet) (ran : Option Outcome)
      → (e : Copies fill (role_context r fill) (λ x. Unit {0}) (ingress_place (switch_program r s) rows port) (role_lowered r s).next.field (role_lowered r s).sites f env packet ran)
      → ForkIs r.functions f.x f.width f.e → ForkServes fill rows r.functions f.x f.width f.e → Grouped (GroupTakesIn r.functions) (role_context r fill) f env packet
      → CopiesFit r.functions (role_context r fill) (copies f env packet) → (x : ℕ) (payload : List ℕ)
      → switch.copied (switch_program r s) rows payload e.after x ≡ option_and_then (departure (role_layout r) payload) (copied (role_context r fill) f env packet x)
  copy_leaves port f env packet ran e k serves takes typed x payload =
      let v : Option Value = value (role_context r fill) (bound f.x (number f.width x) env) packet f.e in
      let is : value (role_context r fill) (bound f.x (number f.width x) env) packet f.e ≡ look_up fill.defs (fork_function f.e) (e.ns ++ (x ∷ []))
      = condition_is r.headers fill.defs r.functions f.x f.width f.e k x env packet e.ns e.args in
      let own = serves k.decl (declared_is r.functions f.x f.width f.e k) in
      let before_last : FitAll (params_before_last k.decl.params) e.ns
      = subst (λ ns. FitAll (params_before_last k.decl.params) ns) (same_numbers _ takes.0 e.ns takes.1 e.args) (before_last_fits r.functions (fork_function f.e) takes.0 k.decl takes.2 (declared_is r.functions f.x f.width f.e k)) in
      let same : has_number x (members rows.groups e.after.group) ≡ has_number x (members rows.groups (fill.group (fork_function f.e) e.ns)) = ap (λ g. has_number x (members rows.groups g)) e.group_is in
      chosen (has_number x (members rows.groups e.after.group)) (fits_width f.width x) (value (role_context r fill) (bound f.x (number f.width x) env) packet f.e)
      (visit_all (role_context r fill) f.body (bound f.x (number f.width x) env) packet) (option_and_then (sent_by (switch_program r s) payload) (switch.egress_of (switch_program r s) rows x e.after)) (role_layout r) payload
      (λ member.
      let all : FitAll k.decl.params (e.ns ++ (x ∷ [])) = own.1 e.ns x before_last (sym same ∙ member) in
      let fits : x < 2 ^ f.width = last_fits k.decl.params f.width e.ns x k.width_is before_last all in
      (lt-ltb x (2 ^ f.width) fits, is ∙ true_is _ (sym (own.0 e.ns x all) ∙ sym same ∙ member), copy_sends port f env packet ran e k x fits (typed x fits) payload))
      (λ none fit. ap is_true is ∙ sym (own.0 e.ns x (fit_with k.decl.params f.width e.ns x k.width_is before_last (ltb-true x (2 ^ f.width) fit))) ∙ sym same ∙ none)

  -- what leaves, by the visit
  leaves_by : (port : ℕ) (packet : Packet) (V : Visit) (ran : Option Outcome)
      → Ends fill (role_context r fill) (λ x. Unit {0}) (ingress_place (switch_program r s) rows port) 1 (role_lowered r s).next.field (role_lowered r s).vars (role_lowered r s).sites (start_state (switch_program r s) packet) V ran
      → AtFork (Of (ForkIs r.functions)) V → AtFork (Of (ForkServes fill rows r.functions)) V → AtFork (Grouped (GroupTakesIn r.functions) (role_context r fill)) V
      → CopiesFit r.functions (role_context r fill) V → (payload cs : List ℕ)
      → option_and_then (after_ingress (switch_program r s) rows payload cs) (option_map state_of ran) ≡ option_and_then (departure (role_layout r) payload) (departs (role_context r fill) V cs)
  leaves_by port packet (on env q) ran e k g t c payload [] = rw (e.ran, e.verdict_is) refl
  leaves_by port packet (on env q) ran e k g t c payload (x ∷ []) = rw (e.ran, e.verdict_is) refl
  leaves_by port packet (on env q) ran e k g t c payload (x ∷ y ∷ cs) = rw e.ran refl
  leaves_by port packet (leaves to q) ran e k g t c payload [] = rw (e.ran, e.verdict_is, e.port_is, e.packet_is, layout_is r s) refl
  leaves_by port packet (leaves to q) ran e k g t c payload (x ∷ []) = rw (e.ran, e.verdict_is) refl
  leaves_by port packet (leaves to q) ran e k g t c payload (x ∷ y ∷ cs) = rw e.ran refl
  leaves_by port packet (copies f env q) ran e k g t c payload [] = rw (e.ran, e.verdict_is) refl
  leaves_by port packet (copies f env q) ran e k g t c payload (x ∷ []) = rw (e.ran, e.verdict_is) (copy_leaves port f env q ran e k g t c x payload)
  leaves_by port packet (copies f env q) ran e k g t c payload (x ∷ y ∷ cs) = rw e.ran refl
  leaves_by port packet nothing ran e k g t c payload [] = rw (e.ran, e.verdict_is) refl
  leaves_by port packet nothing ran e k g t c payload (x ∷ []) = rw (e.ran, e.verdict_is) refl
  leaves_by port packet nothing ran e k g t c payload (x ∷ y ∷ cs) = rw e.ran refl

  pub departs_as : (tag port : ℕ) (bytes cs : List ℕ) → ((x : Packet × List ℕ) → enter (role_layout r) bytes ≡ Some x → VisitFits r fill s port x.0)
      → switch_go (switch_program r s) rows tag port bytes cs ≡ role_departs r fill s port bytes cs
  departs_as tag port bytes cs fits =
      ap (λ layout. option_and_then (λ (x : Packet × List ℕ). option_and_then (after_ingress (switch_program r s) rows x.1 cs) (switch.ingress_of (switch_program r s) rows port x.0)) (enter layout bytes)) (layout_is r s)
      ∙ entered (enter (role_layout r) bytes) _ _ (λ x is.
      let f : VisitFits r fill s port x.0 = fits x is in
      leaves_by port x.0 (role_visit r fill s port x.0) (p4_run_all (ingress_place (switch_program r s) rows port) (switch_program r s).ingress.body (start_state (switch_program r s) x.0))
      (laws.ingress r fill s (switch_program r s) rows is_ingress port x.0 f.body)
      (reached (ForkIs r.functions) (role_context r fill) r.body (role_env r s port) x.0 h.forks)
      (reached (ForkServes fill rows r.functions) (role_context r fill) r.body (role_env r s port) x.0 h.groups)
      (grouped (TakesIn r.functions) (GroupTakesIn r.functions) (λ x. Unit {0}) (role_context r fill) r.body (role_env r s port) x.0 f.body)
      f.copied x.1 cs)
