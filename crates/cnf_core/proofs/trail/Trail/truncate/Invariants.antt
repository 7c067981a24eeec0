use Rattle.std.proofs.Common.{◌≡◌, length, take}
use Rattle.cnf_core.specs.TrailViews.{room, trues}
use Rattle.cnf_core.proofs.trail.Trail.truncate.Given as goal

abbrev pub invariant-loop-self : goal.invariant-loop-self
invariant-loop-self l = record {
  prefix : take l.len (trues l.self) ≡ take l.len (trues l.fn.self);
  same_room : room l.self ≡ room l.fn.self;
}

abbrev pub decreases-loop-self : goal.decreases-loop-self
decreases-loop-self l = length (trues l.self)
