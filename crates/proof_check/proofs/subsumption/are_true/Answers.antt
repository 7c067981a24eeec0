use Rattle.std.proofs.Common.{subst, sym}
use Rattle.std.specs.List.{All}
use Rattle.cnf_core.specs.Literals.{Names}
use Rattle.cnf_core.specs.Trails.{numbers}
use Rattle.cnf_core.specs.TrailViews.{room}
use Rattle.cnf_core.proofs.LiteralFacts.{named-item}
use Rattle.proof_check.proofs.subsumption.are_true.Goals as goal

pub is_true-requires : goal.is_true-requires
is_true-requires c = (named-item (room c.args.trail.now) c.items-lit-items.result.now c.loop-lit.lit-index c.lit-item.result
    (subst (λ ls. All (Names (room c.args.trail.now)) (numbers ls)) (sym c.items-lit-items.ensures) c.requires) c.loop-lit-test.true c.lit-item.is).1
