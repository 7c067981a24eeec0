use Rattle.std.proofs.Common.{◌≡◌, Some, None, option_map, ap, sym, ◌∙◌}
use Rattle.std.proofs.lemmas.Result.{IfOk-weaker}
use Rattle.cocoon_syntax.specs.TreeOf.{design_of}
use Rattle.role_meaning.specs.Goings.{led_of}
use Rattle.role_meaning.specs.Located.{loc_of, sent_of}
use Rattle.role_meaning.proofs.Chains.{chain_none, chain_some}
use Rattle.role_meaning.proofs.following.run_chain.Goals as goal

pub returns-in-Some-clause-runs : goal.returns-in-Some-clause-runs
returns-in-Some-clause-runs c =
    let d = design_of c.args.checked.now in
    let first = c.in-Some.first in
    IfOk-weaker c.go_on.result _ _ (λ reached h defined stands.
    h defined stands ∙ chain_some c.args.above d defined c.args.most (loc_of d c.args.from.now) (loc_of d first.to) (sent_of d c.args.packet.now) (sent_of d first.packet) c.args.choices.now first.rest.now
    (ap (option_map (led_of d)) (sym c.in-Some.is) ∙ c.in_ok-first.ensures.runs defined stands))
    c.go_on.ensures.runs

pub returns-in-None-clause-runs : goal.returns-in-None-clause-runs
returns-in-None-clause-runs c = λ defined stands.
    let d = design_of c.args.checked.now in
    chain_none c.args.above d defined c.args.most (loc_of d c.args.from.now) (sent_of d c.args.packet.now) c.args.choices.now
    (ap (option_map (led_of d)) (sym c.in-None.is) ∙ c.in_ok-first.ensures.runs defined stands)
