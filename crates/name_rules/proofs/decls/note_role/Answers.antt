use Rattle.std.proofs.Common.{◌++◌, [], map, option_map, Some, false, ap, sym, ◌∙◌}
use Rattle.cocoon_syntax.specs.TreeOf.{block_of, body_of, design_of, expr_of, name_of, param_of, stmt_of}
use Rattle.name_rules.proofs.DeclParts.{guard_in, role_in}
use Rattle.name_rules.proofs.decls.note_role.Goals as goal

pub returns-in-Some : goal.returns-in-Some
returns-in-Some c =
    role_in c.noting_laws.ensures (design_of c.args.design.now) c.args.point (name_of c.args.role.now.name) (map param_of c.args.role.now.params.items) (expr_of c.args.role.now.guard) (option_map body_of c.args.role.now.body)
    (block_of (map stmt_of c.deref-in-Some.result.now))
    (c.in_ok-vars.ensures ∙ ap (λ xs. map param_of xs ++ []) c.deref.ensures.value) (ap (option_map body_of) c.in-Some.is ∙ ap (λ xs. Some (block_of (map stmt_of xs))) (sym c.deref-in-Some.ensures.value))
    (c.note_expr.ensures false) (c.in_ok-note_block-in-Some.ensures.noted false)

pub returns : goal.returns
returns c =
    guard_in c.noting_laws.ensures (design_of c.args.design.now) c.args.point (name_of c.args.role.now.name) (map param_of c.args.role.now.params.items) (expr_of c.args.role.now.guard) (option_map body_of c.args.role.now.body)
    (c.in_ok-vars.ensures ∙ ap (λ xs. map param_of xs ++ []) c.deref.ensures.value) (ap (option_map body_of) c.in-None.is) (c.note_expr.ensures false)
