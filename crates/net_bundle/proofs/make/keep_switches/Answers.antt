use Rattle.std.proofs.Common.{map, arith}
use Rattle.net_bundle.specs.NetFileOf.{kept_of}
use Rattle.net_bundle.proofs.Fitting.{kept_on, limits_on, stops_here, stops_later, readable_on}
use Rattle.net_bundle.proofs.InParts.{drop_there, there}
use Rattle.net_bundle.proofs.InTurn.{passed}
use Rattle.net_bundle.proofs.make.keep_switches.Goals as goal

pub loop-index-preserved : goal.loop-index-preserved
loop-index-preserved g c =
    let ss = (g.N.WritableNet.net c.args.net.now).switches in
    let found = there ss c.loop-index.index (omega (arith, c.loop-index-test.true, c.count-index-end.ensures)) in
    let s = found.0 in
    let on = drop_there ss c.loop-index.index s found.1 in
    record {
      kept = kept_on s _ _ _ (map kept_of c.loop-index.kept.items) _ on (c.in_ok-keep_switch.ensures.kept s found.1) c.loop-index.invariant.kept;
      within = λ a. c.loop-index.invariant.within (limits_on s _ _ on (c.in_ok-keep_switch.ensures.fit s found.1) a);
      stops = λ fault h. c.loop-index.invariant.stops fault (stops_later s _ _ fault on (c.in_ok-keep_switch.ensures.fit s found.1) h);
      readable = λ a. c.loop-index.invariant.readable (readable_on s _ _ on (c.in_ok-keep_switch.ensures.program s found.1) (c.in_ok-keep_switch.ensures.rows s found.1) a);
    }

pub returns-in_err-keep_switch-clause-refused : goal.returns-in_err-keep_switch-clause-refused
returns-in_err-keep_switch-clause-refused g c =
    let ss = (g.N.WritableNet.net c.args.net.now).switches in
    let found = there ss c.loop-index.index (omega (arith, c.loop-index-test.true, c.count-index-end.ensures)) in
    let s = found.0 in
    let on = drop_there ss c.loop-index.index s found.1 in
    passed _ _ _ c.from_residual.ensures.1 (c.loop-index.invariant.stops c.in_err-keep_switch.field-0.0 (stops_here s _ _ _ on (c.in_err-keep_switch.ensures.refused s found.1)))
