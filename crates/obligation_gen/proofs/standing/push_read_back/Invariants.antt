use Rattle.std.proofs.Common.{◌++◌, List, map, take}
use Rattle.obligation_gen.proofs.PushedBack.{Pushed}
use Rattle.obligation_gen.proofs.standing.push_read_back.Given as goal

abbrev pub invariant-loop-choice : goal.invariant-loop-choice
invariant-loop-choice l = Pushed l.fn.terms l.terms l.choices l.old l.end l.fn.into.items l.into.items l.choice-index
