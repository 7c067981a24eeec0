use Rattle.std.proofs.Common.{◌<◌, length}
use Rattle.rounds.proofs.goal_parts.has_unequal.Given as goal

abbrev pub invariant-loop : goal.invariant-loop
invariant-loop l = l.rest < length l.terms
