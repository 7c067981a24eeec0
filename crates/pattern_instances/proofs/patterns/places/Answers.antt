use Rattle.std.proofs.Common.{◌++◌, ◌+◌, ◌-◌, option_map, sym, ap, ◌∙◌}
use Rattle.bv_terms.specs.Arenas.{args_of, term_at}
use Rattle.query_laws.specs.Patterns.{places_from}
use Rattle.pattern_instances.proofs.Places.{none-place, one-place}
use Rattle.pattern_instances.proofs.patterns.places.Goals as goal

pub returns-in-None : goal.returns-in-None
returns-in-None c =
    let args = args_of (term_at c.args.terms.now) c.args.args.now in
    sym (none-place c.loop-input.input c.args.count args c.loop-input.places.items c.loop-input-test.true (sym c.place_of.ensures ∙ c.in-None.is)) ∙ c.loop-input.invariant

pub loop-input-preserved : goal.loop-input-preserved
loop-input-preserved c =
    let args = args_of (term_at c.args.terms.now) c.args.args.now in
    let i = c.loop-input.input in
    let n = c.args.count in
    ap (λ xs. option_map (λ ks. xs ++ ks) (places_from (i + 1) (n - (i + 1)) args)) c.in_ok-push-in-Some.ensures.items
    ∙ sym (one-place i n c.in-Some.place args c.loop-input.places.items c.loop-input-test.true (sym c.place_of.ensures ∙ c.in-Some.is))
    ∙ c.loop-input.invariant
