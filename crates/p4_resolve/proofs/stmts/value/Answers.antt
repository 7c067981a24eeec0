use Rattle.p4_texts.specs.Meant.{expr_meant}
use Rattle.p4_texts.specs.TreeOf.{expr_of}
use Rattle.p4_resolve.proofs.stmts.value.Goals as goal

pub returns-in-Some-clause-keeps : goal.returns-in-Some-clause-keeps
returns-in-Some-clause-keeps c = λ t d k.
    let f = c.in-Some.ensures d (expr_meant t (expr_of c.args.expr.now)) (c.in_ok-found.ensures t d k) in
    record { fits = f.0; is = f.1; ends = c.after_expr-end.ensures }
