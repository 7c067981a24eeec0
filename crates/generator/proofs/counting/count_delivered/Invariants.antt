use Rattle.std.proofs.Common.{◌≤◌}
use Rattle.net_run.specs.Nets.{net_in}
use Rattle.generator.specs.Arriving.{Arrives}
use Rattle.generator.specs.Counting.{IsCount}
use Rattle.generator.specs.Stopping.{AllWithin}
use Rattle.generator.proofs.counting.count_delivered.Given as goal

abbrev pub invariant-loop-number : goal.invariant-loop-number
invariant-loop-number l = record {
  counted : IsCount (Arrives (net_in l.net) l.hosts) l.number l.count;
  bounded : l.count ≤ l.number;
  within : AllWithin (net_in l.net) l.hosts l.number;
}
