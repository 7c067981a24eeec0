use Rattle.std.proofs.Common.{◌++◌, [], map, option_map, false, ap, ◌∙◌}
use Rattle.cocoon_syntax.specs.TreeOf.{design_of, expr_of, name_of, param_of, result_of}
use Rattle.name_rules.proofs.DeclParts.{function_in}
use Rattle.name_rules.proofs.decls.note_function.Goals as goal

pub returns-in_ok-vars-in-Some : goal.returns-in_ok-vars-in-Some
returns-in_ok-vars-in-Some c =
    function_in c.noting_laws.ensures (design_of c.args.design.now) c.args.point (name_of c.args.function.now.name) (map param_of c.args.function.now.params.items) (result_of c.args.function.now.result)
    (expr_of c.in-Some.body) (option_map expr_of c.args.function.now.body)
    (c.in_ok-vars-in-Some.ensures ∙ ap (λ xs. map param_of xs ++ []) c.deref.ensures.value) (ap (option_map expr_of) c.in-Some.is) (c.note_expr.ensures false)
