use Rattle.std.proofs.Common.{◌≡◌, length}
use Rattle.form_rules.specs.Following.{latest}
use Rattle.form_rules.proofs.scope.latest.Given as goal

abbrev pub invariant-loop-last : goal.invariant-loop-last
invariant-loop-last l = latest l.earlier l.name ≡ latest l.vars l.name

abbrev pub decreases-loop-last : goal.decreases-loop-last
decreases-loop-last l = length l.earlier
