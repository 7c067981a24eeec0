use Rattle.std.proofs.Common.{length, ◌-◌, ◌≤◌}
use Rattle.p4_texts.specs.Machine.{a_member}
use Rattle.p4_parse.specs.Fields.{member_tokens}
use Rattle.p4_parse.proofs.LinePhrases.{LinesSoFar}
use Rattle.p4_parse.proofs.lines.members.Given as goal

abbrev pub invariant-members : goal.invariant-members
invariant-members l = record {
  fewer : length l.members.items ≤ l.count;
  is : LinesSoFar a_member member_tokens l.count l.source l.pos l.members.items l.next;
}

abbrev pub decreases-members : goal.decreases-members
decreases-members l = l.count - length l.members.items
