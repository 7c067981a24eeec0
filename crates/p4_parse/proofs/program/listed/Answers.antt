use Rattle.std.proofs.Common.{rules, ◌≡◌, [], Err}
use Rattle.p4_texts.specs.Machine.{a_line, fixed, lines}
use Rattle.p4_parse.specs.Lines.{listed_goals, listed_tokens}
use Rattle.p4_parse.specs.Pieces.{piece_text, piece_tokens}
use Rattle.p4_parse.proofs.ProgramPhrases.{listed_read}
use Rattle.p4_parse.proofs.Sequences.{refused_before}
use Rattle.p4_parse.proofs.Stopping.{of_fixed, to_onwards}
use Rattle.p4_parse.proofs.program.listed.Goals as goal

pub returns-in_err-first-clause-is : goal.returns-in_err-first-clause-is
returns-in_err-first-clause-is c =
    let ts = c.args.source.now in
    let stop = c.in_err-first.field-0.0 in
    let head = c.args.head in
    let e : c.from_residual.result ≡ Err stop = search rules in
    to_onwards (fixed (piece_tokens head)) (listed_goals head c.args.begin c.args.count) (λ v. []) (listed_tokens head c.args.begin) ts c.args.pos c.args.pos _ stop e
    (λ i r. refused_before (lines c.args.count (a_line (piece_text c.args.begin))) r) (of_fixed (fixed (piece_tokens head)) (piece_tokens head) ts c.args.pos stop c.in_err-first.ensures)

pub returns-clause-is : goal.returns-clause-is
returns-clause-is c = listed_read c.args.head c.args.begin c.args.count c.args.source.now c.args.pos c.in_ok-first.first c.lines.result c.in_ok-first.ensures c.lines.ensures.is
