use Rattle.std.proofs.Common.{◌≡◌, map, reverse, rules, true, ◌∙◌}
use Rattle.cocoon_num.specs.Tree.{call}
use Rattle.cocoon_syntax.specs.TreeOf.{design_of, expr_of, exprs_of, name_of}
use Rattle.cocoon_syntax.specs.declared.expr.ExprKind as kinds
use Rattle.cocoon_types.specs.FormRules.{ends_with, is_runtime}
use Rattle.form_rules.proofs.ExprFacts.{of-call}
use Rattle.form_rules.proofs.forks.is_condition.Goals as goal

pub returns-then-is_runtime : goal.returns-then-is_runtime
returns-then-is_runtime c =
    let is : expr_of c.args.condition.now ≡ call c.args.condition.now.at (name_of c.in-Call.function) (exprs_of (map expr_of c.in-Call.args.items)) = search (rules, kinds.the_lemmas) in
    let run : is_runtime (design_of c.args.design.now) c.in-Call.function.text ≡ true = search rules in
    of-call (design_of c.args.design.now) c.args.variable.now.text c.args.condition.now.at (name_of c.in-Call.function) (expr_of c.args.condition.now) (map expr_of c.in-Call.args.items) c.ends_with.result is run
    (c.ends_with.ensures ∙ (λ i. ends_with (c.bytes-then-is_runtime.ensures i) (reverse (map expr_of (c.deref.ensures.value i)))))
