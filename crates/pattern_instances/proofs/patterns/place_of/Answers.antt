use Rattle.std.proofs.Common.{◌<◌, ◌≤◌, length, sym, ◌∙◌, arith}
use Rattle.bv_terms.specs.Arenas.{term_at}
use Rattle.pattern_instances.proofs.Places.{first-place, no-place}
use Rattle.pattern_instances.proofs.patterns.place_of.Goals as goal

pub returns-then-is_input : goal.returns-then-is_input
returns-then-is_input c =
    let l : c.loop-place.place < length c.args.args.now = c.loop-place-test.true in
    sym (first-place (term_at c.args.terms.now) c.args.input c.args.args.now c.loop-place.place c.loop-place.invariant l (sym c.is_input.ensures ∙ c.if-is_input.true))

pub returns : goal.returns
returns c =
    let l : length c.args.args.now ≤ c.loop-place.place = (let f = c.loop-place-test.false in omega (arith, f)) in
    sym (no-place (term_at c.args.terms.now) c.args.input c.args.args.now (λ j m. c.loop-place.invariant j (omega (arith, l, m))))
