use Rattle.std.proofs.Common.{arith, ◌+◌, length, codes}
use Rattle.cocoon_num.specs.Tree.{havoc_var}
use Rattle.cocoon_syntax.specs.TreeOf.{param_of, stmt_of}
use Rattle.cocoon_text.proofs.Closings.{havoc_variable_agrees}
use Rattle.cocoon_text.proofs.Eventually.{moves_made, moves_marked}
use Rattle.cocoon_text.proofs.stmts.havoc_variable.Goals as goal

pub returns-clause-agrees : goal.returns-clause-agrees
returns-clause-agrees c = havoc_variable_agrees c.args.source.now c.args.pos c.token_index.result c.param.result c.then-variable.result c.havoc_variable_node.result c.token_index.ensures c.param.ensures.agrees c.then-variable.ensures c.havoc_variable_node.ensures

pub returns-clause-moves : goal.returns-clause-moves
returns-clause-moves c = moves_made param_of stmt_of (λ p. havoc_var c.token_index.result p.name p.width) c.args.pos c.args.pos (length c.args.source.now) c.then-variable.result c.havoc_variable_node.result (omega arith)
    (moves_marked c.args.source.now (codes ";") c.args.pos (c.args.pos + 1) c.param.result c.then-variable.result (omega arith) c.param.ensures.moves c.then-variable.ensures) c.havoc_variable_node.ensures
