use Rattle.std.proofs.Common.{codes, refl}
use Rattle.p4_texts.specs.Machine as machine
use Rattle.p4_parse.proofs.ExprPhrases.{expr_ended}
use Rattle.p4_parse.proofs.stmts.value.Goals as goal

pub returns : goal.returns
returns c = expr_ended machine.to_semicolon (codes ";") c.args.source.now c.args.pos _ _ refl refl refl c.expr.ensures.is c.expr.ensures.whole c.then.ensures
