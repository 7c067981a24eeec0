use Rattle.std.proofs.Common.{rules, ◌≡◌, [], Err}
use Rattle.p4_texts.specs.Machine as machine
use Rattle.p4_texts.specs.Machine.{a_member}
use Rattle.p4_texts.specs.Written.{member_then}
use Rattle.p4_texts.specs.TreeOf.{member_of}
use Rattle.p4_parse.specs.Fields.{member_tokens}
use Rattle.p4_parse.specs.Lines.{members_tokens}
use Rattle.p4_parse.proofs.LinePhrases.{all_lines, line_stopped, one_line_more}
use Rattle.p4_parse.proofs.Sequences.{each_map, several_fails}
use Rattle.std.proofs.Common.{sym}
use Rattle.p4_parse.proofs.lines.members.Goals as goal

pub returns-in_err-member-clause-is : goal.returns-in_err-member-clause-is
returns-in_err-member-clause-is c =
    let ts = c.args.source.now in
    let n = c.args.count in
    let e : c.from_residual.result ≡ Err c.in_err-member.field-0.0 = search rules in
    several_fails a_member (machine.lines n a_member) (λ v. []) member_tokens members_tokens ts c.args.pos c.members.next _ c.in_err-member.field-0.0 e
    (λ i r. line_stopped a_member member_tokens n ts c.args.pos c.members.next i c.members.members.items c.members.invariant.is (search rules) r) c.in_err-member.ensures

pub members-preserved : goal.members-preserved
members-preserved c = record {
  fewer = search rules;
  is = one_line_more a_member member_tokens c.args.count c.args.source.now c.args.pos c.members.next c.in_ok-member.after c.members.members.items _ c.in_ok-member.member c.members.invariant.is (search rules) c.in_ok-member.ensures (search rules);
}

pub returns-clause-is : goal.returns-clause-is
returns-clause-is c =
    let f = c.members.invariant.fewer in
    all_lines a_member member_tokens members_tokens c.args.count c.args.source.now c.args.pos c.members.next c.members.members.items c.members.members c.members.invariant.is (search rules) (λ ks. sym (each_map member_of member_then c.members.members.items ks))
