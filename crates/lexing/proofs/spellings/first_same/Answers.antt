use Rattle.lexing.proofs.Lookup.{one_is}
use Rattle.lexing.proofs.spellings.first_same.Goals as goal

pub returns-then-same_bytes : goal.returns-then-same_bytes
returns-then-same_bytes g c =
    one_is g.W.Spelled.text_of c.args.words.now c.loop-word.word-index c.word-item.result c.args.run.now c.spelling.result.now c.as_bytes.result.now _
    c.loop-word-test.true c.word-item.is c.as_bytes.ensures.value c.spelling.ensures c.if-same_bytes.ensures c.loop-word.invariant
