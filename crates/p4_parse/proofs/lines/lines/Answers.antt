use Rattle.std.proofs.Common.{rules, ◌≡◌, [], Err, refl, subst}
use Rattle.cocoon_num.specs.Tokens.{without_finish}
use Rattle.p4_texts.specs.Machine as machine
use Rattle.p4_parse.specs.Lines.{line_goals, line_tokens, lines_tokens}
use Rattle.p4_parse.specs.Onward.{Onward}
use Rattle.p4_parse.specs.Phrases.{Refused}
use Rattle.p4_parse.specs.Pieces.{piece_tokens}
use Rattle.p4_parse.proofs.LinePhrases.{all_lines, line_stopped, one_line_more}
use Rattle.p4_parse.proofs.Sequences.{several_fails}
use Rattle.p4_parse.proofs.lines.lines.Goals as goal

pub returns-in_err-name-clause-is : goal.returns-in_err-name-clause-is
returns-in_err-name-clause-is c =
    let ts = c.args.source.now in
    let n = c.args.count in
    let w = without_finish c.new-begin.result in
    let is : w ≡ piece_tokens c.args.begin = search rules in
    let e : c.from_residual-in_err-name.result ≡ Err c.in_err-name.field-0.0 = search rules in
    several_fails (line_goals w) (machine.lines n (line_goals (piece_tokens c.args.begin))) (λ v. []) (line_tokens w) (lines_tokens (piece_tokens c.args.begin)) ts c.args.pos c.lines.next _ c.in_err-name.field-0.0 e
    (λ i r. subst (λ z. Refused (machine.lines n (line_goals z)) ts c.args.pos i) is (line_stopped (line_goals w) (line_tokens w) n ts c.args.pos c.lines.next i c.lines.names.items c.lines.invariant.is (search rules) r)) c.in_err-name.ensures

pub lines-preserved : goal.lines-preserved
lines-preserved c =
    let w = without_finish c.new-begin.result in
    record {
      fewer = search rules;
      is = one_line_more (line_goals w) (line_tokens w) c.args.count c.args.source.now c.args.pos c.lines.next c.in_ok-name.after c.lines.names.items _ c.in_ok-name.name c.lines.invariant.is (search rules) c.in_ok-name.ensures (search rules);
    }

pub returns-clause-is : goal.returns-clause-is
returns-clause-is c =
    let w = without_finish c.new-begin.result in
    let is : w ≡ piece_tokens c.args.begin = search rules in
    subst (λ z. Onward (machine.lines c.args.count (line_goals z)) [] (lines_tokens z) c.args.source.now c.args.pos c.lines.names c.lines.next) is
    (all_lines (line_goals w) (line_tokens w) (lines_tokens w) c.args.count c.args.source.now c.args.pos c.lines.next c.lines.names.items c.lines.names c.lines.invariant.is (search rules) (λ ks. refl))
