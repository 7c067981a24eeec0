use Rattle.std.proofs.Common.{arith, codes}
use Rattle.cocoon_syntax.specs.TreeOf.{param_of}
use Rattle.parsing.specs.PlainParser.{param_from, header_field_from}
use Rattle.cocoon_text.proofs.Eventually.{agrees_marked, at_once, moves_marked, once}
use Rattle.cocoon_text.proofs.decls.header_field.Goals as goal

pub returns-clause-agrees : goal.returns-clause-agrees
unfolding header_field_from
returns-clause-agrees c = once (agrees_marked c.args.source.now (codes ";") (λ n. param_from c.args.source.now c.args.pos) param_of c.param.result c.then.result (at_once c.param.ensures.agrees) c.then.ensures)

pub returns-clause-moves : goal.returns-clause-moves
returns-clause-moves c = moves_marked c.args.source.now (codes ";") c.args.pos c.args.pos c.param.result c.then.result (omega arith) c.param.ensures.moves c.then.ensures
