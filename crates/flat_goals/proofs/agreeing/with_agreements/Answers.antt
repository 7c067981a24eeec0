use Rattle.std.proofs.Common.{sym, ap, ◌∙◌}
use Rattle.std.proofs.lemmas.List.Elements.{recursion_from_All}
use Rattle.bv_terms.specs.TermTrees.{width}
use Rattle.bv_terms.proofs.Growing.{grows-both}
use Rattle.flat_goals.specs.Agreeing.{IsPair}
use Rattle.flat_goals.proofs.Agreements.{read-alike, read-step}
use Rattle.flat_goals.proofs.agreeing.with_agreements.Goals as goal

pub agreement-requires-clause-alike : goal.agreement-requires-clause-alike
agreement-requires-clause-alike c =
    let pairs = recursion_from_All (λ p. IsPair c.args.taken.now p c.args.later) c.args.earlier.now c.requires.earlier in
    read-alike c.args.terms.now c.args.taken.now c.requires.agree c.args.later c.requires.later c.args.earlier.now pairs c.loop-place.terms c.args.goal c.loop-place.place-index c.loop-place.agreed
    c.loop-place.invariant c.loop-place-test.true c.index-taken-place.result c.index-taken-later.result c.index-taken-place.is c.index-taken-later.is

pub joined-requires-clause-widths : goal.joined-requires-clause-widths
joined-requires-clause-widths c =
    ap width (c.agreement.ensures.grown.kept.terms c.loop-place.agreed c.loop-place.invariant.there) ∙ c.loop-place.invariant.narrow
    ∙ sym c.in_ok-next.ensures.narrow

pub returns-in_err-agreed-clause-grown : goal.returns-in_err-agreed-clause-grown
returns-in_err-agreed-clause-grown c =
    grows-both _ _ _ c.loop-place.invariant.grown (grows-both _ _ _ c.agreement.ensures.grown c.joined.ensures.grown)

pub loop-place-preserved : goal.loop-place-preserved
loop-place-preserved c =
    let pairs = recursion_from_All (λ p. IsPair c.args.taken.now p c.args.later) c.args.earlier.now c.requires.earlier in
    read-step c.args.terms.now c.args.taken.now c.requires.agree c.args.later c.requires.later c.args.earlier.now pairs c.loop-place.terms c.args.goal c.loop-place.place-index c.loop-place.agreed
    c.loop-place.invariant c.loop-place-test.true c.agreement.new.terms c.joined.new.terms c.in_ok-next.next c.in_ok-agreed.agreed c.index-taken-place.result c.index-taken-later.result
    c.index-taken-place.is c.index-taken-later.is c.agreement.ensures.grown c.joined.ensures.grown c.in_ok-next.ensures.made c.in_ok-agreed.ensures.made
