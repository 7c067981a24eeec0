use Rattle.std.proofs.Common.{rules, ◌≡◌, Err}
use Rattle.p4_texts.specs.Machine.{fixed}
use Rattle.p4_parse.specs.Pieces.{piece_tokens}
use Rattle.p4_parse.specs.declared.pieces.Piece.TheVariants.{End}
use Rattle.p4_parse.proofs.ProgramPhrases.{end_read, no_end_piece}
use Rattle.p4_parse.proofs.Stopping.{of_fixed, to_end}
use Rattle.p4_parse.proofs.program.ended.Goals as goal

pub returns-in_err-last : goal.returns-in_err-last
returns-in_err-last c =
    let ts = c.args.source.now in
    let stop = c.in_err-last.field-0.0 in
    let e : c.from_residual.result ≡ Err stop = search rules in
    to_end (fixed (piece_tokens End)) ts c.args.pos c.args.pos _ stop e (λ i r. no_end_piece ts c.args.pos i r) (of_fixed (fixed (piece_tokens End)) (piece_tokens End) ts c.args.pos stop c.in_err-last.ensures)

pub returns : goal.returns
returns c = end_read c.args.source.now c.args.pos c.in_ok-last.last c.expect_end.result c.in_ok-last.ensures c.expect_end.ensures
