use Rattle.std.proofs.Common.{◌≡◌, [], map, ap, ◌∙◌}
use Rattle.cocoon_syntax.specs.TreeOf.{block_of, stmt_of}
use Rattle.lowering.specs.Lower.{Callees, Counts}
use Rattle.lowering.specs.LowerBlock.{lower_block}
use Rattle.lowering.specs.Whole.{role_vars}
use Rattle.lower_code.specs.Blocks.{block_so_far, site_of}
use Rattle.lower_code.specs.Growth.{made_in}
use Rattle.lower_code.specs.Scopes.{callees_in, design_in}
use Rattle.lower_net.specs.Halves.{of_block}
use Rattle.lower_net.specs.NetDeclarations.{switch_role}
use Rattle.p4_ir.specs.Program.{stmt_of as code_of}
use Rattle.lower_net.proofs.Whole.{all-callees, half-step}
use Rattle.lower_net.proofs.switch_program.lower_ingress.Goals as goal

pub returns : goal.returns
returns c =
    let s = c.args.scope.now in
    let d = design_in s in
    let i = c.args.ingress.now in
    let body = block_of (map stmt_of i.body.now) in
    let n : Counts = record { app = 0; var = 0; field = 1; site = 1 } in
    let vars = role_vars (switch_role d i) c.args.number in
    let start = block_so_far d (record { counts = record { app = 0; variable = 0; field = 1; site = 1 }; made = c.new.result }) c.new-code.result.items (record { variables = c.in_ok-first_variables.field-0; sites = c.new-2.result }) in
    let after = block_so_far d c.lower_block.new.to c.lower_block.new.code.items c.lower_block.new.frame in
    let begins : start ≡ record { lowered = record { code = []; made = []; next = n }; vars = vars; sites = [] } =
    (λ k. record { lowered = record { code = map code_of (c.new-code.ensures.items k); made = made_in d (c.new.ensures.items k); next = n }; vars = c.in_ok-first_variables.ensures d k; sites = map site_of (c.new-2.ensures.items k) }) in
    half-step (callees_in s) start after vars n body begins c.in_ok-lower_block.ensures
    ∙ ap (λ (x : Callees). of_block (lower_block x vars n body)) (all-callees s i c.requires)
