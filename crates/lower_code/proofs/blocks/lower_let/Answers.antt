use Rattle.std.proofs.Common.{List, ℕ, ◌∷◌, ap, map, ◌∙◌}
use Rattle.cocoon_syntax.specs.TreeOf as tree
use Rattle.p4_ir.specs.P4Tree.{p_meta}
use Rattle.p4_ir.specs.Program.{expr_of, stmt_of}
use Rattle.lowering.specs.Lower as lower
use Rattle.lower_code.specs.Blocks.{block_so_far}
use Rattle.lower_code.specs.Growth.{counted, so_far, with_expr}
use Rattle.lower_code.specs.Scopes.{callees_in, design_in}
use Rattle.lower_code.specs.Variables.{variables_of}
use Rattle.lower_code.specs.declared.variables.Reading.{Reading}
use Rattle.lower_code.proofs.BlockSteps.{let_step}
use Rattle.lower_code.proofs.Readings.{variables_push}
use Rattle.lower_code.proofs.blocks.lower_let.Goals as goal

pub returns : goal.returns
returns c =
    let s = c.args.scope.now in
    let d = design_in s in
    let before = block_so_far d c.args.to.now c.args.code.now.items c.args.frame.now in
    let between = so_far d c.lower_expr.new.to c.lower_expr.new.code.items in
    let value = tree.expr_of c.args.value.now in
    let known = c.in_ok-value.ensures ∙ ap (λ vs. with_expr before.lowered (lower.lower_expr (callees_in s) vs before.lowered.next value)) (ap variables_of c.deref.ensures.value) in
    let vars = ap variables_of c.in_ok-push.ensures.items ∙ variables_push c.args.frame.now.variables.items (record { name = c.bytes-name.result; reading = Reading.Meta c.in_ok-field.field })
    ∙ ap (λ (x : List ℕ). record { name = x; expr = p_meta c.in_ok-field.field } ∷ before.vars) c.bytes-name.ensures in
    let_step before between (expr_of c.in_ok-value.value) (lower.lower_expr (callees_in s) before.vars before.lowered.next value)
    c.args.name.now.text c.args.width c.in_ok-field.field (map stmt_of c.push_set.new.code.items) (counted d c.make_variable.new.self) (variables_of c.push.new.self.items)
    known c.in_ok-field.ensures.number c.in_ok-push_set.ensures (c.in_ok-field.ensures.made d) vars
