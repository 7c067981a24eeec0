use Rattle.std.proofs.Common.{rules, ◌≡◌, ◌≤◌, ◌+◌, ◌∙◌, ◌∷◌, ◌++◌, [], IsTrue, ap, drop, map, subst, sym, take, true}
use Rattle.std.proofs.lemmas.Bool.{both_ways, false≢true}
use Rattle.cnf_core.specs.Deriving.{IsProper, has_no_value}
use Rattle.cnf_core.specs.Literals.{opposite, variable}
use Rattle.cnf_core.specs.Trails.{numbers}
use Rattle.cnf_core.specs.TrailViews.{room, trues}
use Rattle.cnf_core.proofs.LiteralFacts.{taken-numbers}
use Rattle.proof_check.proofs.Falsifying.{named-variable, opposite-push, proper-free, proper-push, split-at}
use Rattle.proof_check.proofs.step.make_false.Goals as goal

pub returns-then-not-is_free-clause-proper : goal.returns-then-not-is_free-clause-proper
returns-then-not-is_free-clause-proper c =
    let lits = c.items-lit-items.result.now in
    let i = c.loop-lit.lit-index in
    let l = c.lit-item.result.number in
    let vars = room c.args.trail.now in
    let whole = ap numbers (sym c.items-lit-items.ensures) ∙ split-at lits i c.lit-item.result c.loop-lit-test.true c.lit-item.is in (
      λ e. absurd (false≢true e),
      λ p.
          let free = proper-free vars (numbers (take i lits)) l (numbers (drop (i + 1) lits)) (subst (IsProper vars) whole p) in
          absurd (both_ways c.is_free.result (search rules)
          (c.is_free.ensures.1 (
            subst (λ v. variable l ≤ v) (sym c.loop-lit.invariant.same_room) free.0,
            subst (λ ts. has_no_value ts l ≡ true) (sym c.loop-lit.invariant.falsified) free.1,
          ))),
    )

pub loop-lit-preserved : goal.loop-lit-preserved
loop-lit-preserved c =
    let lits = c.items-lit-items.result.now in
    let i = c.loop-lit.lit-index in
    let l = c.lit-item.result.number in
    let xs = numbers (take i lits) in
    let vars = room c.args.trail.now in
    let taken = taken-numbers lits i c.lit-item.result c.loop-lit-test.true c.lit-item.is in
    let held : IsTrue c.is_free.result = search rules in
    let free = c.is_free.ensures.0 held in
    record {
      falsified = c.in_ok-push.ensures.trues ∙ ap (λ m. trues c.loop-lit.trail ++ m ∷ []) c.opposite.ensures
          ∙ ap (λ ts. ts ++ opposite l ∷ []) c.loop-lit.invariant.falsified ∙ opposite-push xs l ∙ ap (map opposite) (sym taken);
      same_room = c.in_ok-push.ensures.room ∙ c.loop-lit.invariant.same_room;
      proper = subst (IsProper vars) (sym taken) (proper-push vars xs l c.loop-lit.invariant.proper
          (named-variable l c.lit-item.result.named, subst (λ v. variable l ≤ v) c.loop-lit.invariant.same_room free.0)
          (subst (λ ts. has_no_value ts l ≡ true) c.loop-lit.invariant.falsified free.1));
    }
