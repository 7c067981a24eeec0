use Rattle.std.proofs.Common.{◌≡◌, ◌<◌, IfErr, IfOk, map, ap, subst, sym, ◌∙◌}
use Rattle.p4_run.specs.Running.{program_in, rows_in}
use Rattle.net_run.specs.DepartedOf.{departed_of, VisitStops}
use Rattle.net_run.specs.Stations.{IsLoadedAt, IsStationOf, StandsAt}
use Rattle.net_run.specs.declared.stations.Station.{Station}
use Rattle.net_run.proofs.Loaded.{fewer_depart, loaded_departs, loaded_runs}
use Rattle.net_run.proofs.stations.Stations.visit.Goals as goal

is_loaded : (c : goal.After-self-1) → IsLoadedAt c.args.net.now c.args.number c.index_mut-station.result.now.loaded.now
is_loaded c =
    let net = c.args.net.now in
    let s = c.index_mut-station.result.now in
    let there = subst (StandsAt net c.args.number c.index.new.self.visited.items) c.in-Some.is c.in_ok-index.ensures.found in
    let fit : IsStationOf net s = subst (IsStationOf net) (sym c.index_mut-station.ensures.value) (c.in_ok-index.ensures.fit c.in-Some.index s there.0) in
    subst (λ n. IsLoadedAt net n s.loaded.now) (ap (λ (t : Station). t.number) c.index_mut-station.ensures.value ∙ there.1 s) fit.0

pub returns-clause-departed : goal.returns-clause-departed
returns-clause-departed c =
    subst (λ ds. IfOk c.visit.result (λ v. map departed_of v.departed.items ≡ ds))
    (loaded_departs c.args.net.now c.args.number c.index_mut-station.result.now.loaded.now c.args.port c.args.bytes.now (is_loaded c)) c.visit.ensures.departed

pub returns-clause-runs : goal.returns-clause-runs
returns-clause-runs c =
    subst (λ n. IfOk c.visit.result (λ v. v.runs ≡ n))
    (loaded_runs c.args.net.now c.args.number c.index_mut-station.result.now.loaded.now c.args.port c.args.bytes.now (is_loaded c)) c.visit.ensures.runs

pub returns-clause-fewer : goal.returns-clause-fewer
returns-clause-fewer c =
    let l = c.index_mut-station.result.now.loaded.now in
    fewer_depart c.visit.result (program_in l) (rows_in l) c.args.port c.args.bytes.now c.visit.ensures.departed c.visit.ensures.runs

pub returns-clause-over : goal.returns-clause-over
returns-clause-over c =
    subst (λ n. IfErr c.visit.result (λ fault. VisitStops fault (c.args.most < n)))
    (loaded_runs c.args.net.now c.args.number c.index_mut-station.result.now.loaded.now c.args.port c.args.bytes.now (is_loaded c)) c.visit.ensures.over
