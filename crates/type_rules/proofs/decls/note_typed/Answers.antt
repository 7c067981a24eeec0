use Rattle.cocoon_syntax.specs.TreeOf.{design_of, expr_of}
use Rattle.cocoon_types.specs.RuleNames.{rule_of}
use Rattle.type_rules.specs.Typed.{scope_of, sort_value}
use Rattle.type_rules.proofs.DeclParts.{typed_has}
use Rattle.std.proofs.Common.{false}
use Rattle.type_rules.proofs.decls.note_typed.Goals as goal

pub returns : goal.returns
returns c = λ w.
    typed_has c.noting_laws.ensures w (design_of c.args.design.now) (scope_of w (design_of c.args.design.now) c.args.vars.now false) (rule_of c.args.rule) (sort_value c.args.sort) (expr_of c.args.expr.now)
    (c.note_expr-found.ensures.typed w).at (c.note_expr-found.ensures.typed w).sort c.is_other.ensures (c.note_expr-found.ensures.noted w) c.note_if.ensures
