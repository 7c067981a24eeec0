use Rattle.std.proofs.Common.{◌++◌, [], map, ap, ◌∙◌}
use Rattle.cocoon_syntax.specs.TreeOf.{design_of, expr_of, param_of}
use Rattle.type_rules.proofs.DeclParts.{assume_has}
use Rattle.type_rules.proofs.decls.note_assumption.Goals as goal

pub returns : goal.returns
returns c = λ w.
    assume_has c.noting_laws.ensures w (design_of c.args.design.now) c.args.assumption.now.at (map param_of c.args.assumption.now.params.items) (expr_of c.args.assumption.now.body)
    (ap (map param_of) c.deref.ensures.value) (c.in_ok-vars.ensures ∙ ap (λ xs. map param_of xs ++ []) c.deref-2.ensures.value) c.note_widths.ensures (c.note_typed.ensures w)
