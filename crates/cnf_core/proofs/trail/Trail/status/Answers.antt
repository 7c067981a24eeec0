use Rattle.std.proofs.Common.{◌+◌, ◌∙◌, ap, drop, subst, sym, take}
use Rattle.std.specs.List.{All}
use Rattle.std.proofs.lemmas.Bool.{false≢true}
use Rattle.cnf_core.specs.Literals.{Names}
use Rattle.cnf_core.specs.Clauses.{literals}
use Rattle.cnf_core.specs.Trails.{HasStatus, numbers}
use Rattle.cnf_core.specs.TrailViews.{room, trues}
use Rattle.cnf_core.proofs.LiteralFacts.{named-item, split-numbers, taken-numbers}
use Rattle.cnf_core.proofs.ClauseStatuses.{open-whole}
use Rattle.cnf_core.proofs.trail.Trail.status.Goals.{in-Open, in_default}
use Rattle.cnf_core.proofs.trail.Trail.status.Goals as goal

pub status_with-status-requires : goal.status_with-status-requires
status_with-status-requires c = (named-item (room c.args.self.now) c.items-lit-items.result.now c.loop-lit.lit-index c.lit-item.result
    (subst (λ ls. All (Names (room c.args.self.now)) (numbers ls)) (sym c.items-lit-items.ensures) c.requires) c.loop-lit-test.true c.lit-item.is).1

pub returns-then-matches : goal.returns-then-matches
returns-then-matches c =
    let ts = trues c.args.self.now in
    let lits = c.items-lit-items.result.now in
    let i = c.loop-lit.lit-index in
    let whole = literals c.args.clause.now in
    let prefix = numbers (take (i + 1) lits) in
    elim c.match-matches.branch [
      | in-Open w ↦ subst (HasStatus ts whole) (sym w.in-Open.is)
          (open-whole ts prefix (numbers (drop (i + 1) lits)) whole
          (subst (HasStatus ts prefix) w.in-Open.is
          (subst (λ ls. HasStatus ts ls c.status_with-status.result) (sym (taken-numbers lits i c.lit-item.result c.loop-lit-test.true c.lit-item.is))
          (c.status_with-status.ensures (numbers (take i lits)) c.loop-lit.invariant)))
          (ap numbers (sym c.items-lit-items.ensures) ∙ split-numbers lits (i + 1)))
      | in_default w ↦ absurd (false≢true (sym w.matches-is ∙ c.if-matches.true))
    ]

pub loop-lit-preserved : goal.loop-lit-preserved
loop-lit-preserved c =
    let ts = trues c.args.self.now in
    let lits = c.items-lit-items.result.now in
    let i = c.loop-lit.lit-index in
    subst (λ ls. HasStatus ts ls c.status_with-status.result) (sym (taken-numbers lits i c.lit-item.result c.loop-lit-test.true c.lit-item.is))
    (c.status_with-status.ensures (numbers (take i lits)) c.loop-lit.invariant)
