use Rattle.std.proofs.Common.{true}
use Rattle.cocoon_syntax.specs.TreeOf.{design_of, expr_of, name_of}
use Rattle.type_rules.specs.Typed.{scope_of}
use Rattle.type_rules.proofs.StmtParts.{let_in}
use Rattle.type_rules.proofs.plain.note_let_and_value.Goals as goal

pub returns : goal.returns
returns c = λ w.
    let s = scope_of w (design_of c.args.design.now) c.args.vars.now true in
    let x = expr_of c.args.value.now in
    let_in c.noting_laws.ensures s c.args.ended c.args.at (name_of c.args.name.now) c.args.width x (c.note_expr-value.ensures.noted w)
    (c.note_let.ensures s x (c.note_expr-value.ensures.typed w))
