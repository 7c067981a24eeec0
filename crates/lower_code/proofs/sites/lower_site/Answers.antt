use Rattle.std.proofs.Common.{◌≡◌, List, [], ◌∷◌, ◌++◌, ◌-◌, map, ap, ◌∙◌, rules}
use Rattle.p4_ir.specs.P4Tree.{p_meta, p_rid, p_slice, set_meta}
use Rattle.p4_ir.specs.Program.{stmt_of}
use Rattle.lowering.specs.Lower.{Variable}
use Rattle.lower_code.specs.Blocks.{block_so_far, site_of}
use Rattle.lower_code.specs.Growth.{counted, so_far}
use Rattle.lower_code.specs.Scopes.{callees_in, design_in}
use Rattle.lower_code.specs.Variables.{variables_of}
use Rattle.lower_code.specs.declared.variables.Reading.{Reading}
use Rattle.lower_code.proofs.Readings.{variables_push}
use Rattle.lower_code.proofs.SiteSteps.{site_step}
use Rattle.lower_code.proofs.sites.lower_site.Goals as goal

pub returns : goal.returns
returns c =
    let s = c.args.scope.now in
    let d = design_in s in
    let site = c.args.site.now in
    let before = so_far d c.args.to.now c.args.code.now.items in
    let copies : variables_of c.in_ok-variables.variables.items ≡ variables_of site.variables.items = search rules in
    let vars = ap variables_of c.in_ok-push.ensures.items ∙ variables_push c.in_ok-variables.variables.items (record { name = site.name; reading = Reading.Meta c.in_ok-field.field })
    ∙ ap (λ (vs : List Variable). record { name = site.name.now; expr = p_meta c.in_ok-field.field } ∷ vs) copies in
    let inner = block_so_far d c.make_variable.new.self c.push_member.new.code.items (record { variables = c.push.new.self; sites = c.new.result }) in
    let after = block_so_far d c.lower_block.new.to c.lower_block.new.code.items c.lower_block.new.frame in
    let member = c.in_ok-push_member.ensures ∙ ap (λ xs. map stmt_of xs ++ (set_meta c.in_ok-field.field (p_slice p_rid (site.width - 1) 0) ∷ [])) c.new-body.ensures.items in
    let starts : inner ≡ record { lowered = record { code = map stmt_of c.push_member.new.code.items; made = inner.lowered.made; next = inner.lowered.next }; vars = record { name = site.name.now; expr = p_meta c.in_ok-field.field } ∷ variables_of site.variables.items; sites = [] } =
    (λ i. record { lowered = inner.lowered; vars = vars i; sites = map site_of (c.new.ensures.items i) }) in
    site_step (callees_in s) before (site_of site) c.in_ok-field.field (counted d c.make_variable.new.self) inner after
    (map stmt_of c.push_member.new.code.items) (map stmt_of c.end_with_return.new.code.items) (map stmt_of c.push_site.new.code.items)
    c.in_ok-field.ensures.number (c.in_ok-field.ensures.made d) member starts c.in_ok-lower_block.ensures c.in_ok-end_with_return.ensures c.in_ok-push_site.ensures
