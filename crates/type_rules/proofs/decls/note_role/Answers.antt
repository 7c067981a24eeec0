use Rattle.std.proofs.Common.{◌++◌, [], map, option_map, Some, ap, sym, ◌∙◌}
use Rattle.cocoon_syntax.specs.TreeOf.{block_of, body_of, design_of, expr_of, name_of, param_of, stmt_of}
use Rattle.type_rules.proofs.DeclParts.{guard_has, role_has}
use Rattle.type_rules.proofs.decls.note_role.Goals as goal

pub returns-in-Some : goal.returns-in-Some
returns-in-Some c = λ w.
    role_has c.noting_laws.ensures w (design_of c.args.design.now) (name_of c.args.role.now.name) (map param_of c.args.role.now.params.items) (expr_of c.args.role.now.guard) (option_map body_of c.args.role.now.body)
    (block_of (map stmt_of c.deref-in-Some.result.now))
    (ap (map param_of) c.deref.ensures.value) (c.in_ok-vars.ensures ∙ ap (λ xs. map param_of xs ++ []) c.deref-2.ensures.value) (ap (option_map body_of) c.in-Some.is ∙ ap (λ xs. Some (block_of (map stmt_of xs))) (sym c.deref-in-Some.ensures.value))
    c.note_widths.ensures (c.note_typed.ensures w) (c.in_ok-note_block-in-Some.ensures.noted w)

pub returns : goal.returns
returns c = λ w.
    guard_has c.noting_laws.ensures w (design_of c.args.design.now) (name_of c.args.role.now.name) (map param_of c.args.role.now.params.items) (expr_of c.args.role.now.guard) (option_map body_of c.args.role.now.body)
    (ap (map param_of) c.deref.ensures.value) (c.in_ok-vars.ensures ∙ ap (λ xs. map param_of xs ++ []) c.deref-2.ensures.value) (ap (option_map body_of) c.in-None.is)
    c.note_widths.ensures (c.note_typed.ensures w)
