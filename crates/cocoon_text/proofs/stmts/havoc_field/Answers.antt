use Rattle.std.proofs.Common.{arith, ◌+◌, length, codes}
use Rattle.cocoon_num.specs.Tree.{havoc_field}
use Rattle.cocoon_syntax.specs.TreeOf.{stmt_of}
use Rattle.cocoon_text.specs.Agrees.{path_of}
use Rattle.cocoon_text.proofs.Closings.{havoc_field_agrees}
use Rattle.cocoon_text.proofs.Eventually.{moves_made, moves_marked}
use Rattle.cocoon_text.proofs.stmts.havoc_field.Goals as goal

pub returns-clause-agrees : goal.returns-clause-agrees
returns-clause-agrees c = havoc_field_agrees c.args.source.now c.args.pos c.token_index.result c.path.result c.then-field.result c.havoc_field_node.result c.token_index.ensures c.path.ensures.agrees c.then-field.ensures c.havoc_field_node.ensures

pub returns-clause-moves : goal.returns-clause-moves
returns-clause-moves c = moves_made path_of stmt_of (λ p. havoc_field c.token_index.result p.header p.field) c.args.pos c.args.pos (length c.args.source.now) c.then-field.result c.havoc_field_node.result (omega arith)
    (moves_marked c.args.source.now (codes ";") c.args.pos (c.args.pos + 1) c.path.result c.then-field.result (omega arith) c.path.ensures.moves c.then-field.ensures) c.havoc_field_node.ensures
