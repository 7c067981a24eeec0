-- Where a role's body sends is where its run leads, if the guards of both locations are true.
use Rattle.std.specs.Prelude.{◌≡◌, ◌↔◌, ℕ, ◌<◌, ◌^◌, Bool, true, false, cond, List, [], ◌∷◌, Option, Some, None, option_and_then, refl}
use Rattle.std.proofs.Common.{sym, ◌∙◌, ap, ap₂, subst}
use Rattle.std.proofs.lemmas.Bool.{ltb-true}
use Rattle.std.proofs.lemmas.List.{append-nil}
use Rattle.cocoon_num.specs.Packets.{Packet}
use Rattle.cocoon_num.specs.Tree.{Block, FunctionDecl, Role}
use Rattle.cocoon_num.specs.Values.{Value, fits_width, number, truth}
use Rattle.cocoon_types.specs.Runs.{Go, Loc, World, sends}
use Rattle.cocoon_types.specs.Taken as taking
use Rattle.cocoon_types.specs.Taken.{Ended, Reached, RunsAreTaken, body_go, go, guard_at, if_reached, if_true, only_sends, run_all}
use Rattle.cocoon_types.specs.Val.{Env, bound, value}
use Rattle.lowering.specs.Agrees.{Filling, GroupTakesIn, TakesIn}
use Rattle.lowering.specs.Ends.{FitsAll, ended}
use Rattle.lowering.specs.LowerBlock.{in_block}
use Rattle.lowering.specs.Visit.{Forked, Visit, on, leaves, copies, nothing, visit_all, where_true}
use Rattle.lowering.specs.Whole.{SwitchRole, role_env}
use Rattle.lowering.specs.Departs.{departs, left_by}
use Rattle.lowering.specs.Fitting.{CopiesFit, VisitFits}
use Rattle.lowering.specs.Leaving.{HasRole, LeavesTo, port_at}
use Rattle.lowering.proofs.Reaching.{AtFork, grouped, no_fork}

-- the runs of bodies and of forks' blocks end as their visits
pub record RunsSeen : Type 0 where
  pub bodies : (fs : List FunctionDecl) (w : World) (b : Block) (env : Env) (packet : Packet) (cs : List ℕ)
      → FitsAll (TakesIn fs) (GroupTakesIn fs) (λ x. Unit {0}) w.context b env packet
      → run_all w b env packet cs ≡ ended w (visit_all w.context b env packet) cs
  pub copies : (fs : List FunctionDecl) (w : World) (b : Block) (env : Env) (packet : Packet) (cs : List ℕ)
      → FitsAll (TakesIn fs) (λ g ns. ⊥) (λ y. in_block y b ≡ true) w.context b env packet
      → run_all w b env packet cs ≡ ended w (visit_all w.context b env packet) cs

-- ---- guards

-- a visit leaves so, and the location stands
abbrev pub Passes : World → Option (Loc × Packet) → Loc → Packet → Type 0
Passes w left to sent = (left ≡ Some (to, sent)) × (guard_at w to ≡ Some (truth true))

abbrev loc_in : Loc → Reached → Loc
loc_in d None = d
loc_in d (Some r) = r.0

abbrev packet_in : Packet → Reached → Packet
packet_in d None = d
packet_in d (Some r) = r.1

abbrev rest_in : Reached → List ℕ
rest_in None = []
rest_in (Some r) = r.2

abbrev to_of : Loc → Option (Loc × Packet) → Loc
to_of d None = d
to_of d (Some r) = r.0

abbrev packet_of : Packet → Option (Loc × Packet) → Packet
packet_of d None = d
packet_of d (Some r) = r.1

-- what a send with a guard reaches
record Sends (g : Option Value) (at : Loc) (packet : Packet) (cs : List ℕ) (to : Loc) (sent : Packet) : Type 0 where
  guard : g ≡ Some (truth true)
  place : at ≡ to
  same : packet ≡ sent
  none : cs ≡ []

guarded : (g : Option Value) (at : Loc) (packet : Packet) (cs : List ℕ) (to : Loc) (sent : Packet) → if_reached (taking.where_true g (Some (sends at packet, cs))) ≡ Some (to, sent, []) → Sends g at packet cs to sent
guarded None at packet cs to sent h = absurd cc
guarded (Some (number w n)) at packet cs to sent h = absurd cc
guarded (Some (truth false)) at packet cs to sent h = absurd cc
guarded (Some (truth true)) at packet cs to sent h = record { guard = refl; place = ap (loc_in at) h; same = ap (packet_in packet) h; none = ap rest_in h ∙ refl }

passed : (g : Option Value) (at : Loc) (packet : Packet) (to : Loc) (sent : Packet) → g ≡ Some (truth true) → at ≡ to → packet ≡ sent → if_reached (taking.where_true g (Some (sends at packet, []))) ≡ Some (to, sent, [])
passed g at packet to sent h place same = rw (h, place, same) refl

no_left : (to : Loc) (sent : Packet) → ◌≡◌ {A = Option (Loc × Packet)} None (Some (to, sent)) → ⊥
no_left to sent h = cc

-- a guarded send only sends
sent_only : (g : Option Value) (at : Loc) (packet : Packet) (cs : List ℕ) → if_reached (only_sends (taking.where_true g (Some (sends at packet, cs)))) ≡ if_reached (taking.where_true g (Some (sends at packet, cs)))
sent_only None at packet cs = refl
sent_only (Some (number w n)) at packet cs = refl
sent_only (Some (truth true)) at packet cs = refl
sent_only (Some (truth false)) at packet cs = refl

-- ---- a block without a fork

-- no choices are taken, and those of the list are left
plain_gives : (w : World) (V : Visit) (cs : List ℕ) → AtFork (λ f env packet. ⊥) V → (to : Loc) (sent : Packet) → if_reached (only_sends (ended w V cs)) ≡ Some (to, sent, []) → (cs ≡ []) × Passes w (left_by V) to sent
plain_gives w (on env packet) cs none to sent h = absurd cc
plain_gives w (leaves at packet) cs none to sent h =
    let s = guarded (guard_at w at) at packet cs to sent (sym (sent_only (guard_at w at) at packet cs) ∙ h) in
    (s.none, (ap₂ (λ (a : Loc) (p : Packet). Some (a, p)) s.place s.same, subst (λ a. guard_at w a ≡ Some (truth true)) s.place s.guard))
plain_gives w (copies f env packet) cs none to sent h = absurd none
plain_gives w nothing cs none to sent h = absurd cc

plain_takes : (w : World) (V : Visit) → AtFork (λ f env packet. ⊥) V → (to : Loc) (sent : Packet) → Passes w (left_by V) to sent → if_reached (only_sends (ended w V [])) ≡ Some (to, sent, [])
plain_takes w (on env packet) none to sent h = absurd (no_left to sent h.0)
plain_takes w (leaves at packet) none to sent h =
    let place : at ≡ to = ap (to_of at) h.0 in
    sent_only (guard_at w at) at packet []
    ∙ passed (guard_at w at) at packet to sent (subst (λ a. guard_at w a ≡ Some (truth true)) (sym place) h.1) place (ap (packet_of packet) h.0)
plain_takes w (copies f env packet) none to sent h = absurd none
plain_takes w nothing none to sent h = absurd (no_left to sent h.0)

-- ---- a fork

abbrev taken_of : World → Visit → Option Value → Bool → List ℕ → Ended
taken_of w V v b cs = cond b (taking.where_true v (only_sends (ended w V cs))) None

fork_gives : (w : World) (V : Visit) (v : Option Value) (b : Bool) (cs : List ℕ) → AtFork (λ f env packet. ⊥) V → (to : Loc) (sent : Packet) → if_reached (taken_of w V v b cs) ≡ Some (to, sent, [])
    → (cs ≡ []) × Passes w (cond b (left_by (where_true v V nothing)) None) to sent
fork_gives w V None true cs none to sent h = absurd cc
fork_gives w V (Some (number u n)) true cs none to sent h = absurd cc
fork_gives w V (Some (truth false)) true cs none to sent h = absurd cc
fork_gives w V (Some (truth true)) true cs none to sent h = plain_gives w V cs none to sent h
fork_gives w V v false cs none to sent h = absurd cc

fork_takes : (w : World) (V : Visit) (v : Option Value) (b : Bool) → AtFork (λ f env packet. ⊥) V → (to : Loc) (sent : Packet) → Passes w (cond b (left_by (where_true v V nothing)) None) to sent
    → if_reached (taken_of w V v b []) ≡ Some (to, sent, [])
fork_takes w V None true none to sent h = absurd (no_left to sent h.0)
fork_takes w V (Some (number u n)) true none to sent h = absurd (no_left to sent h.0)
fork_takes w V (Some (truth false)) true none to sent h = absurd (no_left to sent h.0)
fork_takes w V (Some (truth true)) true none to sent h = plain_takes w V none to sent h
fork_takes w V v false none to sent h = absurd (no_left to sent h.0)

cond_same : (b : Bool) (x y : Ended) → (b ≡ true → x ≡ y) → cond b x None ≡ cond b y None
cond_same true x y h = h refl
cond_same false x y h = refl

-- the block of a fork that takes x
abbrev block_visit : World → Forked → Env → Packet → ℕ → Visit
block_visit w f env packet x = visit_all w.context f.body (bound f.x (number f.width x) env) packet

fork_runs : (seen : RunsSeen) (fs : List FunctionDecl) (w : World) (f : Forked) (env : Env) (packet : Packet) → CopiesFit fs w.context (copies f env packet) → (x : ℕ) (cs : List ℕ)
    → ended w (copies f env packet) (x ∷ cs) ≡ taken_of w (block_visit w f env packet x) (value w.context (bound f.x (number f.width x) env) packet f.e) (fits_width f.width x) cs
fork_runs seen fs w f env packet fits x cs =
    cond_same (fits_width f.width x) _ _ (λ b. ap (λ r. taking.where_true (value w.context (bound f.x (number f.width x) env) packet f.e) (only_sends r))
    (seen.copies fs w f.body (bound f.x (number f.width x) env) packet cs (fits x (ltb-true x (2 ^ f.width) b))))

plain_block : (fs : List FunctionDecl) (w : World) (f : Forked) (env : Env) (packet : Packet) → CopiesFit fs w.context (copies f env packet) → (x : ℕ) → fits_width f.width x ≡ true → AtFork (λ f env packet. ⊥) (block_visit w f env packet x)
plain_block fs w f env packet fits x b =
    no_fork w.context (block_visit w f env packet x) (grouped (TakesIn fs) (λ g ns. ⊥) (λ y. in_block y f.body ≡ true) w.context f.body (bound f.x (number f.width x) env) packet (fits x (ltb-true x (2 ^ f.width) b)))

-- the same where nothing is asked of a block that is not run
fork_gives_fit : (w : World) (V : Visit) (v : Option Value) (b : Bool) (cs : List ℕ) → (b ≡ true → AtFork (λ f env packet. ⊥) V) → (to : Loc) (sent : Packet) → if_reached (taken_of w V v b cs) ≡ Some (to, sent, [])
    → (cs ≡ []) × Passes w (cond b (left_by (where_true v V nothing)) None) to sent
fork_gives_fit w V v true cs none to sent h = fork_gives w V v true cs (none refl) to sent h
fork_gives_fit w V v false cs none to sent h = absurd cc

fork_takes_fit : (w : World) (V : Visit) (v : Option Value) (b : Bool) → (b ≡ true → AtFork (λ f env packet. ⊥) V) → (to : Loc) (sent : Packet) → Passes w (cond b (left_by (where_true v V nothing)) None) to sent
    → if_reached (taken_of w V v b []) ≡ Some (to, sent, [])
fork_takes_fit w V v true none to sent h = fork_takes w V v true (none refl) to sent h
fork_takes_fit w V v false none to sent h = absurd (no_left to sent h.0)

-- ---- a body

ended_gives : (seen : RunsSeen) (fs : List FunctionDecl) (w : World) (V : Visit) (cs : List ℕ) → CopiesFit fs w.context V → (to : Loc) (sent : Packet) → if_reached (ended w V cs) ≡ Some (to, sent, []) → Passes w (departs w.context V cs) to sent
ended_gives seen fs w (on env packet) cs fits to sent h = absurd cc
ended_gives seen fs w (leaves at packet) cs fits to sent h =
    let s = guarded (guard_at w at) at packet cs to sent h in
    (subst (λ ds. departs w.context (leaves at packet) ds ≡ Some (to, sent)) (sym s.none) (ap₂ (λ (a : Loc) (p : Packet). Some (a, p)) s.place s.same), subst (λ a. guard_at w a ≡ Some (truth true)) s.place s.guard)
ended_gives seen fs w (copies f env packet) [] fits to sent h = absurd cc
ended_gives seen fs w (copies f env packet) (x ∷ cs) fits to sent h =
    let g = fork_gives_fit w (block_visit w f env packet x) (value w.context (bound f.x (number f.width x) env) packet f.e) (fits_width f.width x) cs (plain_block fs w f env packet fits x) to sent
    (sym (ap if_reached (fork_runs seen fs w f env packet fits x cs)) ∙ h) in
    subst (λ ds. Passes w (departs w.context (copies f env packet) (x ∷ ds)) to sent) (sym g.0) g.1
ended_gives seen fs w nothing cs fits to sent h = absurd cc

ended_takes : (seen : RunsSeen) (fs : List FunctionDecl) (w : World) (V : Visit) (cs : List ℕ) → CopiesFit fs w.context V → (to : Loc) (sent : Packet) → Passes w (departs w.context V cs) to sent → if_reached (ended w V cs) ≡ Some (to, sent, [])
ended_takes seen fs w (on env packet) cs fits to sent h = absurd (no_left to sent h.0)
ended_takes seen fs w (leaves at packet) [] fits to sent h =
    let place : at ≡ to = ap (to_of at) h.0 in
    passed (guard_at w at) at packet to sent (subst (λ a. guard_at w a ≡ Some (truth true)) (sym place) h.1) place (ap (packet_of packet) h.0)
ended_takes seen fs w (leaves at packet) (x ∷ cs) fits to sent h = absurd (no_left to sent h.0)
ended_takes seen fs w (copies f env packet) [] fits to sent h = absurd (no_left to sent h.0)
ended_takes seen fs w (copies f env packet) (x ∷ []) fits to sent h =
    ap if_reached (fork_runs seen fs w f env packet fits x [])
    ∙ fork_takes_fit w (block_visit w f env packet x) (value w.context (bound f.x (number f.width x) env) packet f.e) (fits_width f.width x) (plain_block fs w f env packet fits x) to sent h
ended_takes seen fs w (copies f env packet) (x ∷ y ∷ cs) fits to sent h = absurd (no_left to sent h.0)
ended_takes seen fs w nothing cs fits to sent h = absurd (no_left to sent h.0)

-- ---- a location

if_gives : (g : Option Value) (r : Reached) (x : Loc × Packet × List ℕ) → if_true g r ≡ Some x → (g ≡ Some (truth true)) × (r ≡ Some x)
if_gives None r x h = absurd cc
if_gives (Some (number w n)) r x h = absurd cc
if_gives (Some (truth true)) r x h = (refl, h)
if_gives (Some (truth false)) r x h = absurd cc

module _ (seen : RunsSeen) (w : World) (r : SwitchRole) (fill : Filling) (role : List ℕ) (has : HasRole w r fill role) (s p : ℕ) (low : s < 2 ^ 16) (fits_p : p < 2 ^ 16) (packet : Packet) (fits : VisitFits r fill s p packet) where
  abbrev body_visit : Visit
  body_visit = visit_all w.context r.body (role_env r s p) packet

  body_is : (cs : List ℕ) → option_and_then (λ (x : Role). body_go w x x.body (port_at role s p) packet cs) (w.role role) ≡ if_reached (ended w body_visit cs)
  body_is cs =
      ap (option_and_then (λ (x : Role). body_go w x x.body (port_at role s p) packet cs)) has.role_is
      ∙ ap (λ b. body_go w has.role b (port_at role s p) packet cs) has.body_is
      ∙ ap (option_and_then (λ env. if_reached (run_all w r.body env packet cs))) (has.binds s p low fits_p)
      ∙ ap if_reached (seen.bodies r.functions w r.body (role_env r s p) packet cs
      (subst (λ c. FitsAll (TakesIn r.functions) (GroupTakesIn r.functions) (λ x. Unit {0}) c r.body (role_env r s p) packet) (sym has.context_is) fits.body))

  copies_fit : CopiesFit r.functions w.context body_visit
  copies_fit = subst (λ c. CopiesFit r.functions c (visit_all c r.body (role_env r s p) packet)) (sym has.context_is) fits.copied

  go_gives : (cs : List ℕ) (to : Loc) (sent : Packet) → go w (port_at role s p) packet cs ≡ Some (to, sent, []) → LeavesTo w r fill role s p packet cs to sent
  go_gives cs to sent h =
      let g = if_gives (guard_at w (port_at role s p)) (option_and_then (λ (x : Role). body_go w x x.body (port_at role s p) packet cs) (w.role role)) (to, sent, []) h in
      let q : Passes w (departs w.context body_visit cs) to sent = ended_gives seen r.functions w body_visit cs copies_fit to sent (sym (body_is cs) ∙ g.1) in
      record {
        from_stands = g.0;
        departs_to = subst (λ c. departs c (visit_all c r.body (role_env r s p) packet) cs ≡ Some (to, sent)) has.context_is q.0;
        to_stands = q.1;
      }

  go_takes : (cs : List ℕ) (to : Loc) (sent : Packet) → LeavesTo w r fill role s p packet cs to sent → go w (port_at role s p) packet cs ≡ Some (to, sent, [])
  go_takes cs to sent l =
      ap (λ g. if_true g (option_and_then (λ (x : Role). body_go w x x.body (port_at role s p) packet cs) (w.role role))) l.from_stands
      ∙ body_is cs
      ∙ ended_takes seen r.functions w body_visit cs copies_fit to sent
      (subst (λ c. departs c (visit_all c r.body (role_env r s p) packet) cs ≡ Some (to, sent)) (sym has.context_is) l.departs_to, l.to_stands)

  pub taken_as : (cs : List ℕ) (to : Loc) (sent : Packet) → (go w (port_at role s p) packet cs ≡ Some (to, sent, [])) ↔ LeavesTo w r fill role s p packet cs to sent
  taken_as cs to sent = (go_gives cs to sent, go_takes cs to sent)

  -- ---- the relation

  all_used : (taken : RunsAreTaken) (cs : List ℕ) (to : Loc) (sent : Packet) → go w (port_at role s p) packet cs ≡ Some (to, sent, []) → Go w (port_at role s p) packet cs to sent
  all_used taken cs to sent h =
      let u = taken.gives w (port_at role s p) packet cs to sent [] h in
      subst (λ ds. Go w (port_at role s p) packet ds to sent) (sym (u.1 ∙ append-nil u.0)) u.2

  pub runs_as : (taken : RunsAreTaken) (cs : List ℕ) (to : Loc) (sent : Packet) → Go w (port_at role s p) packet cs to sent ↔ LeavesTo w r fill role s p packet cs to sent
  runs_as taken cs to sent = (
    (λ g. go_gives cs to sent (subst (λ ds. go w (port_at role s p) packet ds ≡ Some (to, sent, [])) (append-nil cs) (taken.takes w (port_at role s p) packet cs to sent g []))),
    (λ l. all_used taken cs to sent (go_takes cs to sent l)),
  )
