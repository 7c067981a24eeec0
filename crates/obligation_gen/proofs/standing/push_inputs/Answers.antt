use Rattle.std.proofs.Common.{◌+◌, ◌++◌, map, slice_index, take, sym, subst}
use Rattle.expr_terms.specs.Variables.{MakesAll}
use Rattle.obligation_laws.specs.States.{input_term}
use Rattle.obligation_gen.proofs.InputTerms.{own_term}
use Rattle.obligation_gen.proofs.PushedBack.{all_taken, input_at, one_made}
use Rattle.obligation_gen.proofs.standing.push_inputs.Goals as goal

pub loop-input-preserved : goal.loop-input-preserved
loop-input-preserved c = λ is ts h m.
    let a = c.args.terms.now in
    let k = c.loop-input.input-index in
    let at = input_at a c.args.inputs.now is k h c.loop-input-test.true in
    let own = own_term a c.count-count.ensures.arena at.input (slice_index c.args.inputs.now k) c.input_term.result at.numbered at.there c.input_term.ensures in
    subst (λ xs. MakesAll a xs (ts ++ map input_term (take (k + 1) is))) (sym c.in_ok-push.ensures.items)
    (one_made a c.loop-input.into.items ts input_term is k c.input_term.result at.input at.more (c.loop-input.invariant is ts h m) (record { there = own.0; term = own.1 }))

pub returns : goal.returns
returns c = λ is ts h m.
    subst (λ xs. MakesAll c.args.terms.now c.loop-input.into.items (ts ++ map input_term xs)) (all_taken c.args.terms.now c.args.inputs.now is h c.loop-input.input-index c.loop-input-test.false)
    (c.loop-input.invariant is ts h m)
