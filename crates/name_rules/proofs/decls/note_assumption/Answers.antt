use Rattle.std.proofs.Common.{◌++◌, [], map, false, ap, ◌∙◌}
use Rattle.cocoon_syntax.specs.TreeOf.{design_of, expr_of, param_of}
use Rattle.name_rules.proofs.DeclParts.{assume_in}
use Rattle.name_rules.proofs.decls.note_assumption.Goals as goal

pub returns : goal.returns
returns c =
    assume_in c.noting_laws.ensures (design_of c.args.design.now) c.args.point c.args.assumption.now.at (map param_of c.args.assumption.now.params.items) (expr_of c.args.assumption.now.body)
    (c.in_ok-vars.ensures ∙ ap (λ xs. map param_of xs ++ []) c.deref.ensures.value) (c.note_expr.ensures false)
