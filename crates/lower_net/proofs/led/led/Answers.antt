use Rattle.std.proofs.Common.{◌∙◌}
use Rattle.std.proofs.lemmas.Result.{IfOk-weaker}
use Rattle.cocoon_syntax.specs.TreeOf.{design_of}
use Rattle.lowering_correct.specs.Wires as spec
use Rattle.role_meaning.proofs.Guards.{role_name_of}
use Rattle.lower_net.proofs.led.led.Goals as goal

pub returns-in-Some-clause-leads : goal.returns-in-Some-clause-leads
returns-in-Some-clause-leads c =
    let d = design_of c.args.checked.now in
    IfOk-weaker c.led_from.result _ _
    (λ to h. h ∙ (λ i. spec.led d c.args.defs.now (record { role = role_name_of d c.args.role.now c.in-Some.role c.in-Some.ensures.there.number i; values = c.from-values.ensures i })))
    c.led_from.ensures.leads
