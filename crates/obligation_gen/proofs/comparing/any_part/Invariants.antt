use Rattle.obligation_gen.specs.Becoming.{Remembers}
use Rattle.obligation_gen.proofs.Gathering.{Gathered}
use Rattle.obligation_gen.proofs.comparing.any_part.Given as goal

abbrev pub invariant-loop-old : goal.invariant-loop-old
invariant-loop-old l = record {
  gathered : Gathered l.fn.terms l.terms l.old_tree l.tree l.leaf l.any l.old-index;
  remembers : Remembers l.terms l.last;
}
