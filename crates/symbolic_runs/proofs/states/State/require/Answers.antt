use Rattle.std.proofs.Common.{sym, ◌∙◌}
use Rattle.symbolic_runs.proofs.Changes.{required_reads}
use Rattle.symbolic_runs.proofs.states.State.require.Goals as goal

pub binary-requires-clause-widths : goal.binary-requires-clause-widths
binary-requires-clause-widths c = c.requires.truths.0 ∙ sym c.requires.truths.1

pub returns-clause-reads : goal.returns-clause-reads
returns-clause-reads c = λ t u r m. required_reads c.args.terms.now c.binary.new.self c.args.self.now c.args.part c.in_ok-condition.condition t u c.binary.ensures.kept c.in_ok-condition.ensures.put r m
