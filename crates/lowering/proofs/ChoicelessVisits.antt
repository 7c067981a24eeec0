-- A whole visit without choices: the parser, ingress, the verdict and the deparser.
use Rattle.std.specs.Prelude.{◌≡◌, ℕ, suc, List, [], ◌∷◌, length, replicate, Option, Some, None, option_map, option_and_then, refl}
use Rattle.std.proofs.Common.{sym, ◌∙◌, ap, subst, arith}
use Rattle.std.proofs.lemmas.Option.{slice_get_within}
use Rattle.cocoon_num.specs.Packets.{Packet, enter}
use Rattle.cocoon_types.specs.Val.{Context}
use Rattle.p4_ir.specs.P4Tree.{P4Field, Program, RowsFile, field_widths, program_layout}
use Rattle.p4_ir.specs.Switch.{Running, Outcome, Departure, State, p4_run_all, state_of, after_ingress, switch_go}
use Rattle.lowering.specs.Agrees.{Filling, Long, inner_context, TakesIn, GroupTakesIn}
use Rattle.lowering.specs.Lower.{Variable, callees}
use Rattle.lowering.specs.LowerBlock.{Site}
use Rattle.lowering.specs.Visit.{Visit, on, leaves, copies, nothing, visit_all}
use Rattle.lowering.specs.Ends.{Ends}
use Rattle.lowering.specs.Whole.{SwitchRole, role_env, role_vars, role_lowered, ingress_place, IsIngress, shown, RoleFits, start_state}
use Rattle.lowering.proofs.States.{block_runs}
use Rattle.lowering.proofs.Calls.{functions_agree}
use Rattle.lowering.proofs.Blocks.{block_ends}

same_lengths : (fs : List P4Field) → length {A = ℕ} (replicate (length fs) 0) ≡ length (field_widths fs)
same_lengths [] = refl
same_lengths (f ∷ fs) = ap suc (same_lengths fs)

shows : (fill : Filling) (context : Context) (W : List ℕ → Type 0) (at : Running) (from to : ℕ) (vars : List Variable) (sites : List Site) (s : State) (V : Visit) (r : Option Outcome)
    → Ends fill context W at from to vars sites s V r → (p : Program) (rows : RowsFile) (payload : List ℕ) → option_and_then (after_ingress p rows payload []) (option_map state_of r) ≡ shown (program_layout p) V payload
shows fill context W at from to vars sites s (on env packet) r e p rows payload = rw (e.ran, e.verdict_is) refl
shows fill context W at from to vars sites s (leaves loc packet) r e p rows payload = rw (e.ran, e.verdict_is, e.port_is, e.packet_is) refl
shows fill context W at from to vars sites s (copies f env packet) r e p rows payload = rw (e.ran, e.verdict_is) refl
shows fill context W at from to vars sites s nothing r e p rows payload = rw (e.ran, e.verdict_is) refl

pub ingress_ends : (r : SwitchRole) (fill : Filling) (s : ℕ) (p : Program) (rows : RowsFile) → IsIngress r fill s p rows → (port : ℕ) (packet : Packet) → RoleFits r fill s port packet
    → Ends fill (inner_context r.headers fill.defs r.functions) (λ x. Unit {0}) (ingress_place p rows port) 1 (role_lowered r s).next.field (role_lowered r s).vars (role_lowered r s).sites (start_state p packet)
    (visit_all (inner_context r.headers fill.defs r.functions) r.body (role_env r s port) packet) (p4_run_all (ingress_place p rows port) p.ingress.body (start_state p packet))
ingress_ends r fill s p rows h port packet fits =
    let long : Long (ingress_place p rows port) (start_state p packet) = record { long = same_lengths p.meta; some = rw (same_lengths p.meta) (slice_get_within (field_widths p.meta) 0 8 h.first) } in
    subst (λ ran. Ends fill (inner_context r.headers fill.defs r.functions) (λ x. Unit {0}) (ingress_place p rows port) 1 (role_lowered r s).next.field (role_lowered r s).vars (role_lowered r s).sites (start_state p packet)
    (visit_all (inner_context r.headers fill.defs r.functions) r.body (role_env r s port) packet) ran)
    (sym (ap (λ b. p4_run_all (ingress_place p rows port) b (start_state p packet)) h.body ∙ block_runs (ingress_place p rows port) (role_lowered r s).code (start_state p packet)))
    (block_ends (ingress_place p rows port) fill (TakesIn r.functions) (GroupTakesIn r.functions) (λ x. Unit {0}) (inner_context r.headers fill.defs r.functions) (callees r.headers r.functions r.port)
    (functions_agree (ingress_place p rows port) fill r.headers r.functions r.port port refl h.layout h.functions) r.body (role_vars r s) (role_env r s port) packet _ (start_state p packet) (omega arith)
    (refl, (λ w t k. refl), (refl, (λ w t k. refl), tt)) refl refl fits (h.made port) long)

entered : (o : Option (Packet × List ℕ)) (f g : Packet × List ℕ → Departure) → ((x : Packet × List ℕ) → o ≡ Some x → f x ≡ g x) → option_and_then f o ≡ option_and_then g o
entered None f g h = refl
entered (Some x) f g h = h x refl

pub visit_shows : (r : SwitchRole) (fill : Filling) (s : ℕ) (p : Program) (rows : RowsFile) → IsIngress r fill s p rows → (tag port : ℕ) (bytes : List ℕ) → ((x : Packet × List ℕ) → enter (program_layout p) bytes ≡ Some x → RoleFits r fill s port x.0)
    → switch_go p rows tag port bytes [] ≡ option_and_then (λ x. shown (program_layout p) (visit_all (inner_context r.headers fill.defs r.functions) r.body (role_env r s port) x.0) x.1) (enter (program_layout p) bytes)
visit_shows r fill s p rows h tag port bytes fits =
    entered (enter (program_layout p) bytes) _ _ (λ x is.
    shows fill (inner_context r.headers fill.defs r.functions) (λ x. Unit {0}) (ingress_place p rows port) 1 (role_lowered r s).next.field (role_lowered r s).vars (role_lowered r s).sites (start_state p x.0)
    (visit_all (inner_context r.headers fill.defs r.functions) r.body (role_env r s port) x.0) (p4_run_all (ingress_place p rows port) p.ingress.body (start_state p x.0))
    (ingress_ends r fill s p rows h port x.0 (fits x is)) p rows x.1)
