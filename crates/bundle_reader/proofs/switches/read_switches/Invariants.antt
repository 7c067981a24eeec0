use Rattle.std.proofs.Common.{◌≡◌, true, map, take, drop, Some}
use Rattle.cocoon_io.specs.Files.{Files}
use Rattle.p4_ir.specs.NetFits.{switch_numbers}
use Rattle.net_run.specs.Switches.{switch_in}
use Rattle.net_bundle.specs.NetFileOf.{kept_of, net_file_of}
use Rattle.net_bundle.specs.NetForm.{are_names, file_names}
use Rattle.bundle_reader.specs.Parts.{LastIsRead}
use Rattle.bundle_reader.proofs.Prefix.{SoFar}
use Rattle.bundle_reader.proofs.switches.read_switches.Given as goal

abbrev pub invariant-loop-switch : goal.invariant-loop-switch
invariant-loop-switch g l = record {
  content : g.F.Folder.content l.folder ≡ g.F.Folder.content l.fn.folder;
  reads : g.F.Folder.read_faults l.folder ≡ g.F.Folder.read_faults l.fn.folder;
  writes : g.F.Folder.write_faults l.folder ≡ g.F.Folder.write_faults l.fn.folder;
  named : are_names (file_names (drop l.switch-index l.switch-items)) (map kept_of l.kept) ≡ true;
  numbers : switch_numbers (map switch_in l.switches.items) ≡ take l.switch-index l.switch-items;
  last : LastIsRead l.last;
  well : (files : Files) → g.F.Folder.content l.fn.folder ≡ Some files → SoFar files l.out (net_file_of l.file).files (map kept_of l.kept) (map switch_in l.switches.items);
}
