use Rattle.std.proofs.Common.{◌≡◌, ◌+◌, ◌-◌, ◌≤◌, ◌++◌, length, map, vec_len}
use Rattle.std.specs.List.{flat_map}
use Rattle.net_run.specs.Nets.{net_in}
use Rattle.net_run.specs.DepartedOf.{departed_of}
use Rattle.net_run.specs.Ends.{behind, ends_from, followed}
use Rattle.net_run.specs.RunCounts.{runs_from, runs_of_all}
use Rattle.net_run.specs.UnderWay.{stack_ends, stack_runs}
use Rattle.net_run.proofs.standing.Standing.push_all.Given as goal

abbrev pub invariant-loop-last : goal.invariant-loop-last
invariant-loop-last l = record {
  ends : behind l.self.choices.items (flat_map (followed (net_in l.net) (ends_from (net_in l.net) (l.self.visits - 1)) l.switch) (map departed_of l.left.items)) ++ stack_ends (net_in l.net) l.stack.items
      ≡ behind l.self.choices.items (flat_map (followed (net_in l.net) (ends_from (net_in l.net) (l.self.visits - 1)) l.switch) (map departed_of l.fn.departed.items)) ++ stack_ends (net_in l.net) l.fn.stack.items;
  runs : runs_of_all (net_in l.net) (runs_from (net_in l.net) (l.self.visits - 1)) l.switch (map departed_of l.left.items) + stack_runs (net_in l.net) l.stack.items
      ≡ runs_of_all (net_in l.net) (runs_from (net_in l.net) (l.self.visits - 1)) l.switch (map departed_of l.fn.departed.items) + stack_runs (net_in l.net) l.fn.stack.items;
  room : length l.stack.items + length l.left.items ≤ length l.fn.stack.items + length l.fn.departed.items;
}

abbrev pub decreases-loop-last : goal.decreases-loop-last
decreases-loop-last l = vec_len l.left
