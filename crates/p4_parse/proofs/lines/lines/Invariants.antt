use Rattle.std.proofs.Common.{length, ◌-◌, ◌≤◌}
use Rattle.cocoon_num.specs.Tokens.{without_finish}
use Rattle.p4_parse.specs.Lines.{line_goals, line_tokens}
use Rattle.p4_parse.proofs.LinePhrases.{LinesSoFar}
use Rattle.p4_parse.proofs.lines.lines.Given as goal

abbrev pub invariant-lines : goal.invariant-lines
invariant-lines l = record {
  fewer : length l.names.items ≤ l.count;
  is : LinesSoFar (line_goals (without_finish l.begin)) (line_tokens (without_finish l.begin)) l.count l.source l.pos l.names.items l.next;
}

abbrev pub decreases-lines : goal.decreases-lines
decreases-lines l = l.count - length l.names.items
