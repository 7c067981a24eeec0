-- A copy that is followed leaves what all copies come to as it was.
use Rattle.std.proofs.Common.{◌≡◌, ℕ, suc, ◌+◌, ◌-◌, ◌*◌, ◌<◌, ◌≤◌, List, [], ◌∷◌, ◌++◌, length, map, Vec, Global, Result, Ok, Err, IfErr, IsErrAnd, Some, sym, subst, ◌∙◌, ap, arith}
use Rattle.std.proofs.lemmas.List.{length-append}
use Rattle.std.specs.List.{flat_map}
use Rattle.net_run.specs.Nets.{net_in}
use Rattle.net_run.specs.declared.net.Net.{Net}
use Rattle.p4_ir.specs.NetOf.{end_of}
use Rattle.p4_ir.specs.NetRuns.{attach_at, switch_at}
use Rattle.p4_ir.specs.NetTree.{NetData}
use Rattle.p4_ir.specs.declared.network.LinkEnd.TheVariants.{Switch}
use Rattle.net_run.specs.Deliveries.{delivered, standing}
use Rattle.net_run.specs.Delivering.{delivery_of, RunStops}
use Rattle.net_run.specs.DepartedOf.{departed_of, VisitStops}
use Rattle.net_run.specs.Departures.{departures_at}
use Rattle.net_run.specs.Ends.{behind, ends, ends_from, followed, from_attached, onward}
use Rattle.net_run.specs.Following.{CanFollow, FollowStops, IsFollowed, IsUnderWay}
use Rattle.net_run.specs.RunCounts.{most_runs, runs, runs_from, runs_attached, runs_of_all, runs_onward, visit_runs}
use Rattle.net_run.specs.Stations.{StationsFit}
use Rattle.net_run.specs.UnderWay.{copy_ends, copy_runs, stack_ends, stack_runs}
use Rattle.net_run.specs.declared.departed.Departed.{Departed}
use Rattle.net_run.specs.declared.fault.RunFault.{RunFault}
use Rattle.net_run.specs.declared.fault.RunFault.TheVariants.{NoSuchHost, Copies, NoMemory}
use Rattle.net_run.specs.declared.following.Walk.{Walk}
use Rattle.net_run.specs.declared.standing.Standing.{Standing}
use Rattle.net_run.proofs.UnderWay.{behind_none, ends_push, runs_push}

-- ---- a copy that visits a switch

visit_ends : (net : NetData) (c : Standing) (s p n : ℕ) → c.at ≡ Switch s p → c.visits ≡ suc n
    → copy_ends net c ≡ behind c.choices.items (flat_map (followed net (ends_from net n) s) (departures_at (switch_at net.switches s) p c.bytes.items))
visit_ends net c s p n at vs =
    ap (λ a. behind c.choices.items (onward (ends_from net c.visits) (Some (end_of a)) c.bytes.items)) at
    ∙ ap (λ k. behind c.choices.items (ends_from net k s p c.bytes.items)) vs

visits_runs : (net : NetData) (c : Standing) (s p n : ℕ) → c.at ≡ Switch s p → c.visits ≡ suc n
    → copy_runs net c ≡ visit_runs (switch_at net.switches s) p c.bytes.items + runs_of_all net (runs_from net n) s (departures_at (switch_at net.switches s) p c.bytes.items)
visits_runs net c s p n at vs =
    ap (λ a. runs_onward (runs_from net c.visits) (Some (end_of a)) c.bytes.items) at
    ∙ ap (λ k. runs_from net k s p c.bytes.items) vs

pub visit_follows : (net : Net) (copy : Standing) (old new : Walk) (s p : ℕ) (bytes : List ℕ) (ds : List Departed) (made : ℕ) → copy.at ≡ Switch s p → 0 < copy.visits → bytes ≡ copy.bytes.items
    → CanFollow net copy old → map departed_of ds ≡ departures_at (switch_at (net_in net).switches s) p bytes → made ≡ visit_runs (switch_at (net_in net).switches s) p bytes
    → made ≤ most_runs - old.runs → length ds ≤ made → StationsFit net new.stations → new.delivered ≡ old.delivered → new.travelling ≡ old.travelling → new.runs ≡ old.runs + made
    → stack_ends (net_in net) new.stack.items
    ≡ behind copy.choices.items (flat_map (followed (net_in net) (ends_from (net_in net) (copy.visits - 1)) s) (map departed_of ds)) ++ stack_ends (net_in net) old.stack.items
    → stack_runs (net_in net) new.stack.items ≡ runs_of_all (net_in net) (runs_from (net_in net) (copy.visits - 1)) s (map departed_of ds) + stack_runs (net_in net) old.stack.items
    → length new.stack.items ≤ length old.stack.items + length ds → IsFollowed net copy old new
visit_follows net copy old new s p bytes ds made at more same can departs runs most fewer fit kept travels counted ends stacked longer =
    let d = net_in net in
    let n = copy.visits - 1 in
    let vs : copy.visits ≡ suc n = omega (arith, more) in
    let here : map departed_of ds ≡ departures_at (switch_at d.switches s) p copy.bytes.items = departs ∙ ap (departures_at (switch_at d.switches s) p) same in
    let e : stack_ends d new.stack.items ≡ copy_ends d copy ++ stack_ends d old.stack.items =
    ends ∙ ap (λ xs. behind copy.choices.items (flat_map (followed d (ends_from d n) s) xs) ++ stack_ends d old.stack.items) here
    ∙ ap (λ es. es ++ stack_ends d old.stack.items) (sym (visit_ends d copy s p n at vs)) in
    let r : runs_of_all d (runs_from d n) s (map departed_of ds) ≡ runs_of_all d (runs_from d n) s (departures_at (switch_at d.switches s) p copy.bytes.items) =
    ap (runs_of_all d (runs_from d n) s) here in
    let v : made ≡ visit_runs (switch_at d.switches s) p copy.bytes.items = runs ∙ ap (visit_runs (switch_at d.switches s) p) same in
    let c = visits_runs d copy s p n at vs in
    let w = can.within in
    let m = can.room in
    record {
      fit = fit;
      within = omega (arith, counted, most, w);
      room = omega (arith, counted, longer, fewer, m, travels);
      delivered = ap (λ xs. map delivery_of xs.items ++ delivered (stack_ends d new.stack.items)) kept
          ∙ ap (λ es. map delivery_of old.delivered.items ++ delivered es) e;
      travelling = ap (λ k. k + standing (stack_ends d new.stack.items)) travels ∙ ap (λ es. old.travelling + standing es) e;
      runs = omega (arith, counted, stacked, r, v, c);
      less = omega (arith, counted, most, w, longer, fewer);
    }

stops_too : (f : RunFault) (A B : Type 0) → (A → B) → VisitStops f A → VisitStops f B
stops_too NoSuchHost A B g s = s
stops_too (Copies n) A B g s = (s.0, g s.1)
stops_too NoMemory A B g s = tt

pub visit_stops : (net : Net) (copy : Standing) (w : Walk) (s p : ℕ) (bytes : List ℕ) (f : RunFault) → copy.at ≡ Switch s p → 0 < copy.visits → bytes ≡ copy.bytes.items
    → VisitStops f (most_runs - w.runs < visit_runs (switch_at (net_in net).switches s) p bytes) → FollowStops net copy w f
visit_stops net copy w s p bytes f at more same =
    let d = net_in net in
    let n = copy.visits - 1 in
    let vs : copy.visits ≡ suc n = omega (arith, more) in
    let c = visits_runs d copy s p n at vs in
    let v = ap (visit_runs (switch_at d.switches s) p) same in
    stops_too f _ _ (λ h. omega (arith, c, v, h))

pub told_on : {T E : Type 0} (P : E → Type 0) (r : Result T E) (e : E) → IsErrAnd r (λ f. f ≡ e) → P e → IfErr r P
told_on P (Ok v) e h p = tt
told_on P (Err f) e h p = subst P (sym h) p

-- ---- all copies

pub can_follow : (net : Net) (host : ℕ) (bytes : List ℕ) (hops : ℕ) (w : Walk) (copy : Standing) (rest : Vec Standing Global) → IsUnderWay net host bytes hops w → w.stack.items ≡ rest.items ++ (copy ∷ [])
    → CanFollow net copy (record w { stack = rest })
can_follow net host bytes hops w copy rest u last =
    let l = ap length last ∙ length-append rest.items (copy ∷ []) in
    let room = u.room in
    record { fit = u.fit; within = u.within; room = omega (arith, l, room) }

pub next_under_way : (net : Net) (host : ℕ) (bytes : List ℕ) (hops : ℕ) (w : Walk) (copy : Standing) (rest : Vec Standing Global) (new : Walk) → IsUnderWay net host bytes hops w
    → w.stack.items ≡ rest.items ++ (copy ∷ []) → IsFollowed net copy (record w { stack = rest }) new → IsUnderWay net host bytes hops new
next_under_way net host bytes hops w copy rest new u last f =
    let d = net_in net in
    let ends : stack_ends d w.stack.items ≡ copy_ends d copy ++ stack_ends d rest.items = ap (stack_ends d) last ∙ ends_push d rest.items copy in
    let made : stack_runs d w.stack.items ≡ copy_runs d copy + stack_runs d rest.items = ap (stack_runs d) last ∙ runs_push d rest.items copy in
    record {
      fit = f.fit;
      within = f.within;
      room = f.room;
      delivered = f.delivered ∙ ap (λ es. map delivery_of w.delivered.items ++ delivered es) (sym ends) ∙ u.delivered;
      travelling = f.travelling ∙ ap (λ es. w.travelling + standing es) (sym ends) ∙ u.travelling;
      runs = f.runs ∙ ap (λ n. w.runs + n) (sym made) ∙ u.runs;
    }

pub less_left : (net : Net) (w : Walk) (copy : Standing) (rest : Vec Standing Global) (new : Walk) → w.stack.items ≡ rest.items ++ (copy ∷ []) → IsFollowed net copy (record w { stack = rest }) new
    → 2 * (most_runs - new.runs) + length new.stack.items < 2 * (most_runs - w.runs) + length w.stack.items
less_left net w copy rest new last f =
    let l = ap length last ∙ length-append rest.items (copy ∷ []) in
    let less = f.less in
    omega (arith, l, less)

run_stops : (net : NetData) (host : ℕ) (bytes : List ℕ) (hops : ℕ) (f : RunFault) (n : ℕ) → n ≡ runs net host bytes hops → VisitStops f (most_runs < n) → RunStops net host bytes hops f
run_stops net host bytes hops NoSuchHost n e s = absurd s
run_stops net host bytes hops (Copies k) n e s = (s.0, subst (λ m. most_runs < m) e s.1)
run_stops net host bytes hops NoMemory n e s = tt

pub follow_stops : (net : Net) (host : ℕ) (bytes : List ℕ) (hops : ℕ) (w : Walk) (copy : Standing) (rest : Vec Standing Global) (f : RunFault) → IsUnderWay net host bytes hops w
    → w.stack.items ≡ rest.items ++ (copy ∷ []) → FollowStops net copy (record w { stack = rest }) f → RunStops (net_in net) host bytes hops f
follow_stops net host bytes hops w copy rest f u last =
    let d = net_in net in
    let made : stack_runs d w.stack.items ≡ copy_runs d copy + stack_runs d rest.items = ap (stack_runs d) last ∙ runs_push d rest.items copy in
    run_stops d host bytes hops f _ (ap (λ n. w.runs + n) (sym made) ∙ u.runs)

-- ---- a packet before its first visit

pub start_ends : (net : NetData) (host s p hops : ℕ) (bytes : List ℕ) (copy : Standing) → attach_at net.hosts host ≡ Some (s, p) → copy.at ≡ Switch s p → copy.choices.items ≡ [] → copy.bytes.items ≡ bytes → copy.visits ≡ hops
    → stack_ends net (copy ∷ []) ≡ ends net host bytes hops
start_ends net host s p hops bytes copy attached at cs bs vs =
    ap (λ ns. behind ns (onward (ends_from net copy.visits) (Some (end_of copy.at)) copy.bytes.items)) cs
    ∙ behind_none (onward (ends_from net copy.visits) (Some (end_of copy.at)) copy.bytes.items)
    ∙ ap (λ a. onward (ends_from net copy.visits) (Some (end_of a)) copy.bytes.items) at
    ∙ ap (λ b. ends_from net copy.visits s p b) bs ∙ ap (λ n. ends_from net n s p bytes) vs
    ∙ ap (λ o. from_attached (ends_from net hops) o bytes) (sym attached)

pub start_runs : (net : NetData) (host s p hops : ℕ) (bytes : List ℕ) (copy : Standing) → attach_at net.hosts host ≡ Some (s, p) → copy.at ≡ Switch s p → copy.bytes.items ≡ bytes → copy.visits ≡ hops
    → stack_runs net (copy ∷ []) ≡ runs net host bytes hops
start_runs net host s p hops bytes copy attached at bs vs =
    let e = ap (λ a. runs_onward (runs_from net copy.visits) (Some (end_of a)) copy.bytes.items) at
    ∙ ap (λ b. runs_from net copy.visits s p b) bs ∙ ap (λ n. runs_from net n s p bytes) vs
    ∙ ap (λ o. runs_attached (runs_from net hops) o bytes) (sym attached) in
    omega (arith, e)
