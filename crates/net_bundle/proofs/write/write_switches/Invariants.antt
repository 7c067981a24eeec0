use Rattle.std.proofs.Common.{◌≡◌, take}
use Rattle.net_bundle.specs.Bundle.{all_switch_files}
use Rattle.net_bundle.specs.Writing.{with_files}
use Rattle.net_bundle.proofs.write.write_switches.Given as goal

abbrev pub invariant-loop-index : goal.invariant-loop-index
invariant-loop-index g l = record {
  content : g.F.Folder.content l.folder ≡ with_files l.out (all_switch_files (take l.index (g.N.WritableNet.net l.net).switches)) (g.F.Folder.content l.fn.folder);
  reads : g.F.Folder.read_faults l.folder ≡ g.F.Folder.read_faults l.fn.folder;
  writes : g.F.Folder.write_faults l.folder ≡ g.F.Folder.write_faults l.fn.folder;
}
