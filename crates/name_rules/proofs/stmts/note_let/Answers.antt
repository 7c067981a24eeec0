use Rattle.std.proofs.Common.{true}
use Rattle.cocoon_syntax.specs.TreeOf.{design_of, expr_of, name_of}
use Rattle.name_rules.specs.Tests.{scope_at}
use Rattle.name_rules.proofs.StmtParts.{let_in}
use Rattle.name_rules.proofs.stmts.note_let.Goals as goal

pub returns-clause-noted : goal.returns-clause-noted
returns-clause-noted c = λ ended at.
    let_in c.noting_laws.ensures (scope_at (design_of c.args.design.now) c.args.point c.args.vars.now true) ended at (name_of c.args.name.now) c.args.width (expr_of c.args.value.now)
    c.note_bound.ensures (c.note_expr.ensures true)
