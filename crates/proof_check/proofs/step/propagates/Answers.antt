use Rattle.std.proofs.Common.{◌+◌, arith, drop, subst, sym}
use Rattle.std.proofs.lemmas.Bool.{false≢true}
use Rattle.std.proofs.lemmas.List.{drop_all, drop_more}
use Rattle.cnf_core.specs.Deriving.{Refutes}
use Rattle.cnf_core.specs.TrailViews.{trues}
use Rattle.proof_check.specs.KnownClauses.{clauses_of}
use Rattle.proof_check.proofs.Hinting.{hint-last, last-hint}
use Rattle.proof_check.proofs.step.propagates.Goals as goal

pub returns-in-Conflict-clause-exact : goal.returns-in-Conflict-clause-exact
returns-in-Conflict-clause-exact c =
    let hs = c.args.hints.now in
    let i = c.loop-index.index in
    let e = drop_more hs i 0 c.loop-index-test.true in
    let on = c.in-Conflict.ensures (drop (i + 1) hs) in (
      λ t. c.loop-index.invariant.rest.0 (subst (Refutes (clauses_of c.args.known.now) (trues c.loop-index.trail)) (sym e)
          (on.1 (last-hint hs i c.loop-index-test.true t))),
      λ r. hint-last hs i c.loop-index-test.true
          (on.0 (subst (Refutes (clauses_of c.args.known.now) (trues c.loop-index.trail)) e (c.loop-index.invariant.rest.1 r))),
    )

pub returns-in-Open-clause-exact : goal.returns-in-Open-clause-exact
returns-in-Open-clause-exact c =
    let hs = c.args.hints.now in
    let i = c.loop-index.index in
    let e = drop_more hs i 0 c.loop-index-test.true in (
      λ t. absurd (false≢true t),
      λ r. absurd (c.in-Open.ensures (drop (i + 1) hs)
          (subst (Refutes (clauses_of c.args.known.now) (trues c.loop-index.trail)) e (c.loop-index.invariant.rest.1 r))),
    )

pub push-requires-clause-named : goal.push-requires-clause-named
push-requires-clause-named c = c.in-Forces.ensures.0

pub push-requires-clause-no_value : goal.push-requires-clause-no_value
push-requires-clause-no_value c = c.in-Forces.ensures.1

pub returns-clause-exact : goal.returns-clause-exact
returns-clause-exact c =
    let hs = c.args.hints.now in
    let i = c.loop-index.index in (
      λ t. absurd (false≢true t),
      λ r. absurd (subst (Refutes (clauses_of c.args.known.now) (trues c.loop-index.trail)) (drop_all i hs (omega (arith, c.loop-index-test.false)))
          (c.loop-index.invariant.rest.1 r)),
    )
