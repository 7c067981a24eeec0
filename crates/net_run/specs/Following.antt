-- Cited by the private clauses of `following`: what stays the same as a packet's copies are followed.
use Rattle.std.specs.Prelude.{◌≡◌, ℕ, suc, ◌+◌, ◌-◌, ◌*◌, ◌≤◌, ◌<◌, List, ◌++◌, length, map}
use Rattle.net_run.specs.Nets.{net_in}
use Rattle.net_run.specs.declared.net.Net.{Net}
use Rattle.net_run.specs.Deliveries.{delivered, deliveries, standing, travelling}
use Rattle.net_run.specs.Delivering.{delivery_of}
use Rattle.net_run.specs.DepartedOf.{VisitStops}
use Rattle.net_run.specs.RunCounts.{most_runs, runs}
use Rattle.net_run.specs.Stations.{StationsFit}
use Rattle.net_run.specs.UnderWay.{copy_ends, copy_runs, stack_ends, stack_runs}
use Rattle.net_run.specs.declared.fault.RunFault.{RunFault}
use Rattle.net_run.specs.declared.following.Walk.{Walk}
use Rattle.net_run.specs.declared.standing.Standing.{Standing}

-- A copy that was taken from the stack may be followed: frames fit, no more runs than may be made were made, and there are at
-- most as many copies as runs, and the packet itself.
pub record CanFollow (net : Net) (copy : Standing) (w : Walk) : Type 0 where
  pub fit : StationsFit net w.stations
  pub within : w.runs ≤ most_runs
  pub room : length w.stack.items + w.travelling ≤ w.runs

-- After it was followed, what was delivered and what the stack's copies deliver is as before, and so is how many copies travel
-- and how many runs are made in all; and there is less to do.
pub record IsFollowed (net : Net) (copy : Standing) (old new : Walk) : Type 0 where
  pub fit : StationsFit net new.stations
  pub within : new.runs ≤ most_runs
  pub room : length new.stack.items + new.travelling ≤ suc new.runs
  pub delivered : map delivery_of new.delivered.items ++ delivered (stack_ends (net_in net) new.stack.items)
      ≡ map delivery_of old.delivered.items ++ delivered (copy_ends (net_in net) copy ++ stack_ends (net_in net) old.stack.items)
  pub travelling : new.travelling + standing (stack_ends (net_in net) new.stack.items)
      ≡ old.travelling + standing (copy_ends (net_in net) copy ++ stack_ends (net_in net) old.stack.items)
  pub runs : new.runs + stack_runs (net_in net) new.stack.items ≡ old.runs + (copy_runs (net_in net) copy + stack_runs (net_in net) old.stack.items)
  pub less : 2 * (most_runs - new.runs) + length new.stack.items ≤ 2 * (most_runs - old.runs) + length old.stack.items

-- where it is not followed, all copies make more runs than may be made, or there was no memory
abbrev pub FollowStops : Net → Standing → Walk → RunFault → Type 0
FollowStops net copy w fault = VisitStops fault (most_runs < w.runs + (copy_runs (net_in net) copy + stack_runs (net_in net) w.stack.items))

-- What was delivered and what the copies under way deliver is all that is delivered of the packet, and so for those that travel
-- and for runs.
pub record IsUnderWay (net : Net) (host : ℕ) (bytes : List ℕ) (hops : ℕ) (w : Walk) : Type 0 where
  pub fit : StationsFit net w.stations
  pub within : w.runs ≤ most_runs
  pub room : length w.stack.items + w.travelling ≤ suc w.runs
  pub delivered : map delivery_of w.delivered.items ++ delivered (stack_ends (net_in net) w.stack.items) ≡ deliveries (net_in net) host bytes hops
  pub travelling : w.travelling + standing (stack_ends (net_in net) w.stack.items) ≡ travelling (net_in net) host bytes hops
  pub runs : w.runs + stack_runs (net_in net) w.stack.items ≡ runs (net_in net) host bytes hops
