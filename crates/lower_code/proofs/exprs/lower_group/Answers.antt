use Rattle.std.proofs.Common.{◌≡◌, ◌<◌, ◌≤◌, false, length, map, sym, ap, ◌∙◌, arith}
use Rattle.cocoon_num.specs.Tree.{FunctionDecl}
use Rattle.cocoon_syntax.specs.TreeOf.{function_of}
use Rattle.cocoon_types.specs.Design.{functions}
use Rattle.lowering.specs.Lower.{by_group}
use Rattle.p4_ir.specs.Program.{expr_of}
use Rattle.p4_ir.specs.declared.program.P4Expr.{P4Expr as P4}
use Rattle.lower_code.specs.Growth.{so_far, with_expr}
use Rattle.lower_code.specs.Scopes.{design_in, functions_before}
use Rattle.lower_code.proofs.Forms.{truth_form}
use Rattle.lower_code.proofs.Found.{calls_at, none_called}
use Rattle.lower_code.proofs.Steps.{if_ok, truth_step}
use Rattle.lower_code.proofs.exprs.lower_group.Goals as goal

pub function-function-requires : goal.function-function-requires
function-function-requires c =
    let d = design_in c.args.scope.now in
    let f = calls_at d c.args.scope.now.before c.args.name.now c.in-Some.number c.requires (sym c.in-Some.ensures) in
    let within : c.in-Some.number < c.args.scope.now.before = f.within in
    let sees : c.args.scope.now.before ≤ length (functions d) = c.requires in
    omega arith

pub returns-in-Some : goal.returns-in-Some
returns-in-Some c =
    let d = design_in c.args.scope.now in
    let before = so_far d c.args.to.now c.args.code.now.items in
    let es = map expr_of c.args.args.items in
    let f = calls_at d c.args.scope.now.before c.args.name.now c.in-Some.number c.requires (sym c.in-Some.ensures) in
    let found = f.is in
    let same : function_of c.function-function.result.now ≡ f.function = cc in
    if_ok c.by_group.result (c.by_group.ensures d c.function-function.ensures)
    (λ e k. k ∙ ap (λ (g : FunctionDecl). with_expr before (by_group g es before.next)) same ∙ ap (with_expr before) (sym (f.group es before.next)))

pub returns-in-None : goal.returns-in-None
returns-in-None c =
    let s = c.args.scope.now in
    let d = design_in s in
    let before = so_far d c.args.to.now c.args.code.now.items in
    let es = map expr_of c.args.args.items in
    truth_step before (expr_of (P4.Truth false)) (truth_form false)
    ∙ ap (with_expr before) (sym (none_called (functions_before d s.before) d.headers c.args.name.now es before.next (sym c.in-None.ensures)).1)
