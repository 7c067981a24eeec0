use Rattle.std.proofs.Common.{◌++◌, map, ap, ap₂, ◌∙◌}
use Rattle.std.proofs.lemmas.List.{map-append}
use Rattle.cocoon_syntax.specs.TreeOf.{design_of}
use Rattle.lower_code.specs.Blocks.{site_of}
use Rattle.lower_code.specs.Growth.{counts_of, made_in, made_of}
use Rattle.lower_code.specs.Scopes.{callees_in}
use Rattle.lower_net.specs.Halves.{egress_half, half_of, program_with}
use Rattle.lower_net.specs.NetDeclarations.{switch_role}
use Rattle.lower_net.proofs.Whole.{egress-step}
use Rattle.lower_net.proofs.switch_program.switch_code.Goals as goal

pub returns-clause-program : goal.returns-clause-program
returns-clause-program c =
    let d = design_of c.args.checked.now in
    let r = switch_role d c.args.ingress.now in
    let out = egress-step c.args.checked c.args.functions c.args.ingress.now c.args.number c.requires (half_of d c.in_ok-into.into) c.in_ok-into.ensures
    (half_of d c.in_ok-out.out) (c.in_ok-out.ensures ∙ ap (λ xs. egress_half (callees_in (record { checked = c.args.checked; before = c.args.functions; port = c.args.ingress.now.port })) (counts_of c.in_ok-into.into.to.counts) (map site_of xs)) c.deref.ensures.value) in
    c.in_ok-code.ensures.program ∙ (λ i. program_with d.headers (c.in_ok-into.ensures i) (out i))

pub returns-clause-made : goal.returns-clause-made
returns-clause-made c =
    let d = design_of c.args.checked.now in
    let out = egress-step c.args.checked c.args.functions c.args.ingress.now c.args.number c.requires (half_of d c.in_ok-into.into) c.in_ok-into.ensures
    (half_of d c.in_ok-out.out) (c.in_ok-out.ensures ∙ ap (λ xs. egress_half (callees_in (record { checked = c.args.checked; before = c.args.functions; port = c.args.ingress.now.port })) (counts_of c.in_ok-into.into.to.counts) (map site_of xs)) c.deref.ensures.value) in
    map-append (made_of d) c.in_ok-code.code.ingress.items c.in_ok-code.code.egress.items
    ∙ ap₂ (λ a b. made_in d a.items ++ made_in d b.items) c.in_ok-code.ensures.ingress c.in_ok-code.ensures.egress
    ∙ (λ i. (c.in_ok-into.ensures i).made ++ (out i).made)

pub returns-clause-ingress : goal.returns-clause-ingress
returns-clause-ingress c =
    ap (λ a. made_in (design_of c.args.checked.now) a.items) c.in_ok-code.ensures.ingress ∙ (λ i. (c.in_ok-into.ensures i).made)
