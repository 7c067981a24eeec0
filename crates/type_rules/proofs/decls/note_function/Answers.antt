use Rattle.std.proofs.Common.{◌++◌, [], map, option_map, ap, ◌∙◌}
use Rattle.cocoon_syntax.specs.TreeOf.{design_of, expr_of, name_of, param_of, result_of}
use Rattle.type_rules.proofs.DeclParts.{function_has, runtime_has}
use Rattle.type_rules.proofs.decls.note_function.Goals as goal

pub returns-in_ok-vars-in-Some : goal.returns-in_ok-vars-in-Some
returns-in_ok-vars-in-Some c = λ w.
    function_has c.noting_laws.ensures w (design_of c.args.design.now) (name_of c.args.function.now.name) (map param_of c.args.function.now.params.items) (result_of c.args.function.now.result)
    (expr_of c.in-Some.body) (option_map expr_of c.args.function.now.body)
    (ap (map param_of) c.deref.ensures.value) (c.in_ok-vars-in-Some.ensures ∙ ap (λ xs. map param_of xs ++ []) c.deref-in-Some.ensures.value) c.result_sort-sort.ensures (ap (option_map expr_of) c.in-Some.is)
    c.note_widths.ensures c.note_result.ensures (c.note_typed.ensures w)

pub returns-in-None : goal.returns-in-None
returns-in-None c = λ w.
    runtime_has c.noting_laws.ensures w (design_of c.args.design.now) (name_of c.args.function.now.name) (map param_of c.args.function.now.params.items) (result_of c.args.function.now.result)
    (option_map expr_of c.args.function.now.body)
    (ap (map param_of) c.deref.ensures.value) (ap (option_map expr_of) c.in-None.is) c.note_widths.ensures c.note_result.ensures
