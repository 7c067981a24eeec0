use Rattle.std.proofs.Common.{List, ℕ, map, ap, ◌∙◌}
use Rattle.cocoon_syntax.specs.TreeOf as tree
use Rattle.p4_ir.specs.Program.{expr_of}
use Rattle.lowering.specs.Lower.{lower_exprs}
use Rattle.lowering.specs.LowerBlock.{fork_args, fork_function}
use Rattle.lower_code.specs.Growth.{so_far, with_expr, with_exprs}
use Rattle.lower_code.specs.Scopes.{callees_in, design_in}
use Rattle.lower_code.specs.Variables.{variables_of}
use Rattle.lower_code.proofs.Steps.{call_step, if_ok}
use Rattle.lower_code.proofs.blocks.lower_choice.Goals as goal

pub returns : goal.returns
returns c =
    let s = c.args.scope.now in
    let d = design_in s in
    let vars = variables_of c.args.variables.now in
    let e = tree.expr_of c.args.choice.now in
    let before = so_far d c.args.to.now c.args.code.now.items in
    let between = so_far d c.lower_exprs.new.to c.lower_exprs.new.code.items in
    let es = map expr_of c.in_ok-args.args.items in
    if_ok c.lower_group.result c.lower_group.ensures
    (λ r h.
    call_step before between (so_far d c.lower_group.new.to c.lower_group.new.code.items) es (expr_of r) (lower_exprs (callees_in s) vars before.next (fork_args e))
    ((callees_in s).group (fork_function e))
    (c.in_ok-args.ensures ∙ ap (λ xs. with_exprs before (lower_exprs (callees_in s) vars before.next xs)) c.choice_parts.ensures.args)
    (h ∙ ap (λ (f : List ℕ). with_expr between ((callees_in s).group f es between.next)) c.choice_parts.ensures.name))
