use Rattle.std.proofs.Common.{drop}
use Rattle.queries.proofs.Joins.{Joining}
use Rattle.queries.proofs.joining.all_true.Given as goal

abbrev pub invariant-loop-other : goal.invariant-loop-other
invariant-loop-other l = Joining l.fn.terms l.terms l.first l.joined l.others (drop l.other-index l.others)
