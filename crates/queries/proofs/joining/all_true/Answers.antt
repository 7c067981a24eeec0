use Rattle.std.proofs.Common.{sym, ◌∙◌}
use Rattle.queries.proofs.Joins.{other_at}
use Rattle.queries.proofs.joining.all_true.Goals as goal

pub both-requires-clause-widths : goal.both-requires-clause-widths
both-requires-clause-widths c =
    c.loop-other.invariant.wide
    ∙ sym (other_at c.args.terms.now c.loop-other.terms c.loop-other.invariant.kept c.args.others.now c.requires.others c.requires.widths c.loop-other.other-index 0 c.loop-other-test.true).wide
