use Rattle.std.proofs.Common.{subst, sym, ◌∙◌}
use Rattle.cocoon_syntax.specs.TreeOf.{design_of}
use Rattle.cocoon_types.specs.Runs.{world}
use Rattle.role_meaning.specs.Leading.{Leads}
use Rattle.role_meaning.proofs.Sent.{is_led}
use Rattle.role_meaning.proofs.sending.gives.Goals as goal

pub returns-clause-yes : goal.returns-clause-yes
returns-clause-yes c = λ yes defined stands.
    let d = design_of c.args.checked.now in
    (c.args.choices.now, subst (Leads d (world c.args.level d defined) c.args.from.now c.args.packet.now c.args.choices.now) (c.is_at.ensures.0 yes) (c.in_ok-led.ensures.goes defined stands))

pub returns-clause-no : goal.returns-clause-no
returns-clause-no c = λ no e.
    let d = design_of c.args.checked.now in
    let there = is_led d c.args.level c.args.to.now c.args.sent.now c.in_ok-led.led c.requires.to c.requires.sent c.in_ok-led.ensures.at c.in_ok-led.ensures.fits (e ∙ sym c.in_ok-led.ensures.tables) in
    let yes = c.is_at.ensures.1 there in
    cc
