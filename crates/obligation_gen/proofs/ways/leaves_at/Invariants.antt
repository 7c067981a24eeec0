use Rattle.std.proofs.Common.{◌≡◌, drop}
use Rattle.obligation_gen.specs.Weighed.{leaves_in}
use Rattle.obligation_gen.proofs.ways.leaves_at.Given as goal

abbrev pub invariant-loop-role : goal.invariant-loop-role
invariant-loop-role l = leaves_in l.roles l.name ≡ leaves_in (drop l.role-index l.roles) l.name
