use Rattle.std.proofs.Common.{◌≡◌, true, [], ◌∷◌, ◌++◌, map, sym, ap, ◌∙◌, rules}
use Rattle.cocoon_syntax.specs.TreeOf as tree
use Rattle.p4_ir.specs.P4Tree.{set_meta}
use Rattle.p4_ir.specs.Program.{stmt_of}
use Rattle.lowering.specs.LowerBlock.{in_block}
use Rattle.lower_code.specs.Blocks.{port_kept}
use Rattle.lower_code.specs.Growth.{so_far}
use Rattle.lower_code.specs.Scopes.{design_in}
use Rattle.lower_code.proofs.Forms.{port_form}
use Rattle.lower_code.proofs.blocks.site_variables.Goals as goal

pub returns-clause-state : goal.returns-clause-state
returns-clause-state c =
    let d = design_in c.args.scope.now in
    let s = so_far d c.args.to.now c.args.code.now.items in
    let made = c.in_ok-field.ensures.made d in
    let uses : in_block c.args.scope.now.port.now (tree.block_of (map tree.stmt_of c.args.body.now)) ≡ true = search rules in
    let code = c.in_ok-push_set.ensures ∙ (λ i. map stmt_of c.args.code.now.items ++ set_meta (c.in_ok-field.ensures.number i) (port_form i) ∷ []) in
    (λ i. record { code = code i; made = (made i).made; next = (made i).next }) ∙ ap (λ b. port_kept b s) (sym uses)
