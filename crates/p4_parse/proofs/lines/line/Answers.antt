use Rattle.cocoon_num.specs.Tokens.{without_finish}
use Rattle.p4_parse.specs.Lines.{line_end_goals, line_end_tokens}
use Rattle.p4_parse.proofs.LinePhrases.{after_fixed}
use Rattle.p4_parse.proofs.lines.line.Goals as goal

pub returns : goal.returns
returns c = after_fixed (without_finish c.args.begin.now) line_end_goals line_end_tokens c.args.source.now c.args.pos c.in_ok-name.name c.line_end.result c.in_ok-name.ensures c.line_end.ensures
