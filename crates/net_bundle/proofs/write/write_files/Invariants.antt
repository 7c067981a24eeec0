use Rattle.std.proofs.Common.{◌≡◌, map, take}
use Rattle.net_bundle.specs.NetFileOf.{made_of}
use Rattle.net_bundle.specs.Writing.{with_files}
use Rattle.net_bundle.proofs.write.write_files.Given as goal

abbrev pub invariant-loop-made : goal.invariant-loop-made
invariant-loop-made g l = record {
  content : g.F.Folder.content l.folder ≡ with_files l.out (take l.made-index (map made_of l.files)) (g.F.Folder.content l.fn.folder);
  reads : g.F.Folder.read_faults l.folder ≡ g.F.Folder.read_faults l.fn.folder;
  writes : g.F.Folder.write_faults l.folder ≡ g.F.Folder.write_faults l.fn.folder;
}
