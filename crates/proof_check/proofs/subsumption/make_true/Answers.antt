use Rattle.std.proofs.Common.{◌≡◌, ◌≤◌, ◌+◌, ◌∙◌, ap, drop, subst, sym, take, true}
use Rattle.cnf_core.specs.Deriving.{IsProper, has_no_value}
use Rattle.cnf_core.specs.Literals.{variable}
use Rattle.cnf_core.specs.Trails.{numbers}
use Rattle.cnf_core.specs.TrailViews.{room}
use Rattle.proof_check.proofs.Falsifying.{proper-value, split-at}
use Rattle.proof_check.proofs.subsumption.make_true.Goals as goal

pub push-requires-clause-named : goal.push-requires-clause-named
push-requires-clause-named c =
    let lits = c.items-lit-items.result.now in
    let i = c.loop-lit.lit-index in
    let l = c.lit-item.result.number in
    let vars = room c.args.trail.now in
    let whole = ap numbers (sym c.items-lit-items.ensures) ∙ split-at lits i c.lit-item.result c.loop-lit-test.true c.lit-item.is in
    subst (λ v. variable l ≤ v) (sym c.loop-lit.invariant.same_room)
    (proper-value vars (numbers (take i lits)) l (numbers (drop (i + 1) lits)) (subst (IsProper vars) whole c.requires.proper)).0

pub push-requires-clause-no_value : goal.push-requires-clause-no_value
push-requires-clause-no_value c =
    let lits = c.items-lit-items.result.now in
    let i = c.loop-lit.lit-index in
    let l = c.lit-item.result.number in
    let vars = room c.args.trail.now in
    let whole = ap numbers (sym c.items-lit-items.ensures) ∙ split-at lits i c.lit-item.result c.loop-lit-test.true c.lit-item.is in
    subst (λ ts. has_no_value ts l ≡ true) (sym c.loop-lit.invariant.made)
    (proper-value vars (numbers (take i lits)) l (numbers (drop (i + 1) lits)) (subst (IsProper vars) whole c.requires.proper)).1
