use Rattle.std.proofs.Common.{ap, arith, false}
use Rattle.cdcl.proofs.Counting.{count-set, one}
use Rattle.cdcl.proofs.analysis.Analysis.unmark.Goals as goal

pub overflow_sub-self : goal.overflow_sub-self
overflow_sub-self c = let a = c.args.self.now in
    omega (arith, a.counted, count-set a.floor a.marks.items c.args.place false c.requires.last c.requires.within, ap one c.requires.marked)

pub invariant_of-self : goal.invariant_of-self
invariant_of-self c = let a = c.args.self.now in
    record { counted = omega (arith, a.counted, count-set a.floor a.marks.items c.args.place false c.requires.last c.requires.within, ap one c.requires.marked) }

pub returns-clause-one : goal.returns-clause-one
returns-clause-one c = let a = c.args.self.now in
    omega (arith, a.counted, count-set a.floor a.marks.items c.args.place false c.requires.last c.requires.within, ap one c.requires.marked)
