use Rattle.std.proofs.Common.{sym, subst, drop, take, ◌∷◌}
use Rattle.std.proofs.lemmas.List.Elements.{All-append, All-cons, All-drop, All-take}
use Rattle.std.specs.List.{All}
use Rattle.net_run.specs.Stations.{IsStationOf}
use Rattle.net_run.specs.declared.stations.Station.{Station}
use Rattle.net_run.proofs.stations.Stations.index.Goals as goal

pub returns-clause-fit : goal.returns-clause-fit
returns-clause-fit c =
    let P = IsStationOf c.args.net.now in
    let at = c.partition_point-at.result in
    let known = c.args.self.now.visited.items in
    let s : Station = record { number = c.args.number; loaded = c.in-Some.loaded; frame = c.in_ok-frame.frame } in
    subst (All P) (sym c.in_ok-insert.ensures.items)
    (All-append P (take at known) (s ∷ drop at known) (All-take P at known c.requires) (All-cons P s (drop at known) (c.in-Some.ensures, c.in_ok-frame.ensures) (All-drop P at known c.requires)))
