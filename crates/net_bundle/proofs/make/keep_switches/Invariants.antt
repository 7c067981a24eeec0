use Rattle.std.proofs.Common.{◌≡◌, ◌++◌, map, drop}
use Rattle.net_bundle.specs.Bundle as spec
use Rattle.net_bundle.specs.NetFileOf.{kept_of}
use Rattle.net_bundle.specs.Readable.{AllReadable}
use Rattle.net_bundle.specs.Writing.{AllFit, NotMade}
use Rattle.net_bundle.specs.declared.fault.BundleFault.{BundleFault}
use Rattle.net_bundle.proofs.make.keep_switches.Given as goal

abbrev pub invariant-loop-index : goal.invariant-loop-index
invariant-loop-index g l = record {
  kept : map kept_of l.kept.items ++ map spec.kept_digest (spec.all_switch_files (drop l.index (g.N.WritableNet.net l.net).switches)) ≡ map spec.kept_digest (spec.all_switch_files (g.N.WritableNet.net l.net).switches);
  within : AllFit (spec.all_switch_files (drop l.index (g.N.WritableNet.net l.net).switches)) → AllFit (spec.all_switch_files (g.N.WritableNet.net l.net).switches);
  stops : (fault : BundleFault) → NotMade (spec.all_switch_files (drop l.index (g.N.WritableNet.net l.net).switches)) fault → NotMade (spec.all_switch_files (g.N.WritableNet.net l.net).switches) fault;
  readable : AllReadable (drop l.index (g.N.WritableNet.net l.net).switches) → AllReadable (g.N.WritableNet.net l.net).switches;
}
