use Rattle.std.proofs.Common.{◌≡◌, ◌++◌, map, drop, IsTrue}
use Rattle.cocoon_num.specs.Lists.{each}
use Rattle.p4_ir.specs.NetOf.{switch_of}
use Rattle.p4_ir.specs.NetTree as tree
use Rattle.p4_ir.specs.WellKinded.{is_well_kinded}
use Rattle.net_run.specs.LoadFaults.{first_load_fault}
use Rattle.net_run.specs.Switches.{switch_in}
use Rattle.net_run.proofs.loading.load_all.Given as goal

abbrev pub invariant-loop-files : goal.invariant-loop-files
invariant-loop-files l = record {
  runs : map switch_in l.all.items ++ map switch_of (drop l.files-index l.switches) ≡ map switch_of l.switches;
  kinds : IsTrue (each (λ (f : tree.SwitchFiles). is_well_kinded f.program) (map switch_of (drop l.files-index l.switches)));
  first : first_load_fault (map switch_of (drop l.files-index l.switches)) ≡ first_load_fault (map switch_of l.switches);
}
