use Rattle.obligation_gen.proofs.Leaves.{Listed}
use Rattle.obligation_gen.proofs.refined.Refined.obligations.Given as goal

abbrev pub invariant-loop-number : goal.invariant-loop-number
invariant-loop-number l = Listed l.fn.terms l.terms l.self.level l.self.role l.self.old.now l.self.tree.now l.all.items l.number
