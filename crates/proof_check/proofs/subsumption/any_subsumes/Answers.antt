use Rattle.std.proofs.Common.{◌∙◌, ap, arith, pos, subst, sym, length}
use Rattle.std.proofs.lemmas.List.{length-map}
use Rattle.std.specs.Prelude.{false}
use Rattle.cnf_core.specs.Clauses.{literals}
use Rattle.cnf_core.specs.Literals.{Names, index_of}
use Rattle.cnf_core.specs.Trails.{literal_at, numbers}
use Rattle.cnf_core.specs.TrailViews.{room, trues}
use Rattle.cnf_core.specs.declared.lit.Lit.{Lit}
use Rattle.proof_check.specs.Subsuming.{SubsumesFrom}
use Rattle.proof_check.specs.KnownClauses.{clauses_of}
use Rattle.proof_check.proofs.Subsumed.{none-more, none-subsumes, number-at}
use Rattle.proof_check.proofs.subsumption.any_subsumes.Goals as goal

pub subsumes_from-requires-clause-within : goal.subsumes_from-requires-clause-within
subsumes_from-requires-clause-within c =
    let lits = c.items-lit-items.result.now in
    let t = c.args.trail.now in
    let i = c.loop-lit.lit-index in
    let here = c.requires.trues ∙ ap numbers (sym c.items-lit-items.ensures) in
    (subst (Names (room t)) (ap (λ ts. literal_at ts i) here ∙ number-at lits i c.lit-item.result c.loop-lit-test.true c.lit-item.is)
    (t.named i (pos 0) (omega (arith, ap length here, length-map lits (λ (l : Lit). l.number), c.loop-lit-test.true)))).1

pub loop-lit-preserved : goal.loop-lit-preserved
loop-lit-preserved c = none-more (clauses_of c.args.known.now) (trues c.args.trail.now) c.items-lit-items.result.now c.loop-lit.lit-index c.lit-item.result c.loop-lit-test.true c.lit-item.is
    c.loop-lit.invariant c.if-subsumes_from.ensures

pub returns : goal.returns
returns c =
    let lits = c.items-lit-items.result.now in
    let ts = trues c.args.trail.now in
    let cs = clauses_of c.args.known.now in
    let here = c.requires.trues ∙ ap numbers (sym c.items-lit-items.ensures) in
    none-subsumes cs ts (literals c.args.clause.now) c.loop-lit.lit-index c.requires.trues
    (omega (arith, ap length here, length-map lits (λ (l : Lit). l.number), c.loop-lit-test.false)) c.requires.filled
    (λ p lt. subst (λ us. SubsumesFrom cs ts (index_of (literal_at us p)) false) (sym here) (c.loop-lit.invariant p lt))
