use Rattle.std.proofs.Common.{◌∙◌}
use Rattle.p4_parse.proofs.PiecePhrases.{few_in, said_in}
use Rattle.p4_parse.proofs.pieces.lexed.Goals as goal

pub returns-in-Ok-clause-tokens : goal.returns-in-Ok-clause-tokens
returns-in-Ok-clause-tokens c = said_in c.args.piece c.as_bytes.result.now c.in-Ok.tokens.items (c.as_bytes.ensures.value ∙ c.text.ensures) c.in-Ok.ensures.ok

pub returns-in-Ok-clause-few : goal.returns-in-Ok-clause-few
returns-in-Ok-clause-few c = few_in c.args.piece c.as_bytes.result.now c.in-Ok.tokens.items (c.as_bytes.ensures.value ∙ c.text.ensures) c.in-Ok.ensures.ok
