use Rattle.std.proofs.Common.{◌≡◌, ℕ, ◌<◌, ◌≤◌, List, length, map, take, ap, subst, arith, ◌∙◌}
use Rattle.cnf_core.specs.Satisfying.{makes_true}
use Rattle.candidates.specs.Assigned.{row_value}
use Rattle.candidates.proofs.Lists.{value-more}
use Rattle.rounds.proofs.searching.values.Goals as goal

pub read-requires : goal.read-requires
read-requires c =
    let below = subst (λ (xs : List ℕ). c.loop-input.input < length xs) c.items.ensures c.loop-input-test.true in
    let there = c.requires.there in
    omega (arith, below, there)

pub loop-input-preserved : goal.loop-input-preserved
loop-input-preserved c =
    let m = c.args.satisfied.now in
    let below = subst (λ (xs : List ℕ). c.loop-input.input < length xs) c.items.ensures c.loop-input-test.true in
    let there = c.requires.there in
    let here : c.loop-input.input < length m.inputs = omega (arith, below, there) in
    record {
      within = omega (arith, below);
      so_far = value-more (makes_true m.assignment) m.inputs c.loop-input.input here c.loop-input.values.items c.push.new.self.items c.read.result
          c.loop-input.invariant.so_far c.in_ok-push.ensures.items c.read.ensures;
    }

pub returns : goal.returns
returns c =
    let m = c.args.satisfied.now in
    let past = subst (λ (xs : List ℕ). length xs ≤ c.loop-input.input) c.items.ensures c.loop-input-test.false in
    let within = c.loop-input.invariant.within in
    let all : c.loop-input.input ≡ length m.own.inputs = omega (arith, past, within) in
    c.loop-input.invariant.so_far ∙ ap (λ n. map (row_value (makes_true m.assignment)) (take n m.inputs)) all
