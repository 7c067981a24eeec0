use Rattle.std.proofs.Common.{◌∙◌, arith}
use Rattle.net_bundle.proofs.InParts.{switch_stops, switch_written, there, told}
use Rattle.net_bundle.proofs.write.write_switches.Goals as goal

pub loop-index-preserved : goal.loop-index-preserved
loop-index-preserved g c =
    let ss = (g.N.WritableNet.net c.args.net.now).switches in
    let found = there ss c.loop-index.index (omega (arith, c.loop-index-test.true, c.count-index-end.ensures)) in
    record {
      content = switch_written c.args.out.now ss c.loop-index.index found.0 (g.F.Folder.content c.args.folder.now) (g.F.Folder.content c.loop-index.folder)
          (g.F.Folder.content c.write_switch.new.folder) found.1 c.loop-index.invariant.content (c.in_ok-write_switch.ensures.written found.0 found.1);
      reads = c.write_switch.ensures.reads ∙ c.loop-index.invariant.reads;
      writes = c.in_ok-write_switch.ensures.counted ∙ c.loop-index.invariant.writes;
    }

pub returns-in_err-write_switch-clause-refused : goal.returns-in_err-write_switch-clause-refused
returns-in_err-write_switch-clause-refused g c =
    let ss = (g.N.WritableNet.net c.args.net.now).switches in
    let found = there ss c.loop-index.index (omega (arith, c.loop-index-test.true, c.count-index-end.ensures)) in
    told _ _ c.in_err-write_switch.field-0.0 c.from_residual.ensures.1
    (switch_stops c.args.out.now ss c.loop-index.index found.0 (g.F.Folder.content c.args.folder.now) (g.F.Folder.content c.loop-index.folder)
    (g.F.Folder.content c.write_switch.new.folder) c.in_err-write_switch.field-0.0 found.1 c.requires.fit c.loop-index.invariant.content (c.in_err-write_switch.ensures.refused found.0 found.1))
