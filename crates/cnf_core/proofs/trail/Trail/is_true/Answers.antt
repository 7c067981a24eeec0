use Rattle.std.proofs.Common.{◌∙◌, ◌<◌, ap, arith, length, get_or}
use Rattle.std.proofs.lemmas.List.{get_or_read}
use Rattle.cnf_core.specs.TrailViews.{trues}
use Rattle.cnf_core.proofs.LiteralFacts.{index_of-below}
use Rattle.cnf_core.proofs.Placing.{place-test}
use Rattle.cnf_core.proofs.trail.Trail.is_true.Goals as goal

pub returns : goal.returns
returns c =
    let t = c.args.self.now in
    let within : c.index.result < length t.places.items = omega (arith, c.index.ensures, index_of-below c.args.lit.number t.vars c.requires, t.sized) in
    place-test (trues t) t.places.items c.args.lit.number _ t.placed (get_or_read t.places.items c.index.result _ within c.index-2.ensures 0 ∙ ap (λ i. get_or t.places.items i 0) c.index.ensures)
