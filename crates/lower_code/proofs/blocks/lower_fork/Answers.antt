use Rattle.std.proofs.Common.{◌≡◌, List, ℕ, suc, [], ◌∷◌, ◌++◌, ap, map, ◌∙◌, rules}
use Rattle.std.proofs.lemmas.List.{map-append}
use Rattle.cocoon_syntax.specs.TreeOf as tree
use Rattle.p4_ir.specs.Program.{expr_of, stmt_of}
use Rattle.lowering.specs.Lower as lower
use Rattle.lowering.specs.LowerBlock.{copy_code, fork_args, fork_function, in_block}
use Rattle.lower_code.specs.Blocks.{block_so_far, port_vars, site_of}
use Rattle.lower_code.specs.Growth.{so_far, with_expr}
use Rattle.lower_code.specs.Scopes.{callees_in, design_in}
use Rattle.lower_code.specs.Variables.{variables_of}
use Rattle.lower_code.proofs.BlockSteps.{fork_step}
use Rattle.lower_code.proofs.blocks.lower_fork.Goals as goal

pub returns : goal.returns
returns c =
    let s = c.args.scope.now in
    let d = design_in s in
    let before = block_so_far d c.args.to.now c.args.code.now.items c.args.frame.now in
    let z = so_far d c.lower_choice.new.to c.lower_choice.new.code.items in
    let y = so_far d c.site_variables.new.to c.site_variables.new.code.items in
    let e = tree.expr_of c.args.choice.now in
    let body = tree.block_of (map tree.stmt_of c.args.body.now) in
    let uses = in_block s.port.now body in
    let group = λ (vs : List lower.Variable). lower.then_called (lower.lower_exprs (callees_in s) vs before.lowered.next (fork_args e)) ((callees_in s).group (fork_function e)) in
    let known = c.in_ok-members.ensures ∙ ap (λ vs. with_expr before.lowered (group (variables_of vs))) c.deref.ensures.value in
    let vars = c.in_ok-variables.ensures.variables ∙ ap (λ vs. port_vars uses z.next.field (variables_of vs)) c.deref-2.ensures.value in
    let number : c.in_ok-number.number ≡ y.next.site = search rules in
    let sites = ap (map site_of) c.in_ok-push.ensures.items ∙ map-append site_of c.args.frame.now.sites.items (_ ∷ [])
    ∙ (λ i. before.sites ++ record { number = number i; vars = variables_of c.in_ok-variables.variables.items; x = c.bytes-name.ensures i; width = c.args.width; body = body } ∷ []) in
    let codes = c.in_ok-push_copies.ensures ∙ ap (λ (q : ℕ). y.code ++ copy_code q (expr_of c.in_ok-members.members)) number in
    let next : c.in_ok-to.field-0 ≡ suc y.next.site = search rules in
    fork_step before z y (expr_of c.in_ok-members.members) (group before.vars) c.args.name.now.text c.args.width c.in_ok-to.field-0 body uses
    (map stmt_of c.push_copies.new.code.items) (variables_of c.in_ok-variables.variables.items) (map site_of c.push.new.self.items)
    known c.in_ok-variables.ensures.state vars codes sites next
