use Rattle.std.proofs.Common.{rules}
use Rattle.p4_parse.proofs.PiecePhrases.{all_taken, none_taken, one_refused, one_taken}
use Rattle.p4_parse.proofs.pieces.expect_all.Goals as goal

pub tokens-init : goal.tokens-init
tokens-init c = record { is = none_taken c.args.source.now c.args.piece.now c.args.pos c.requires.within }

pub tokens-preserved : goal.tokens-preserved
tokens-preserved c = record { is = one_taken c.args.source.now c.args.piece.now c.args.pos c.tokens.next c.tokens.index c.tokens.invariant.is (search rules) (search rules) }

pub returns-then-not-is_same : goal.returns-then-not-is_same
returns-then-not-is_same c = one_refused c.args.source.now c.args.piece.now c.args.pos c.tokens.next c.tokens.index c.tokens.invariant.is (search rules) (search rules)

pub returns : goal.returns
returns c = all_taken c.args.source.now c.args.piece.now c.args.pos c.tokens.next c.tokens.index c.tokens.invariant.is (search rules) c.requires.some
