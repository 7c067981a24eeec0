use Rattle.std.proofs.Common.{rules, ◌-◌, ◌∙◌, arith, get_or, inl, inr, subst, sym}
use Rattle.std.specs.Prelude.{IsFalse, slice_index_or, []}
use Rattle.std.proofs.lemmas.Bool.{cases_order}
use Rattle.std.proofs.lemmas.List.{length-map}
use Rattle.cnf_core.specs.Licensing.{subsumed_by}
use Rattle.cnf_core.specs.TrailViews.{room, trues}
use Rattle.proof_check.specs.KnownClauses.{clauses_of}
use Rattle.proof_check.specs.Registering.{top_index, tops_of}
use Rattle.proof_check.proofs.Chaining.{last-within}
use Rattle.proof_check.proofs.subsumption.subsumes_from.Goals as goal

pub loop-after-init : goal.loop-after-init
loop-after-init c =
    let cs = clauses_of c.args.known.now in
    let last = c.last-after.ensures (room c.args.trail.now) (tops_of cs) c.requires.registered in
    record {
      skipped = λ j lt e le. absurd (omega (arith, le, last.later j (omega (arith, lt, length-map cs top_index)) e));
      found = λ j e. let r = last.found j e in (omega (arith, r.0, length-map cs top_index), r.1);
    }

pub subsumes-requires-clause-within : goal.subsumes-requires-clause-within
subsumes-requires-clause-within c = (c.loop-after.invariant.found (c.loop-after.after - 1) (omega (arith, c.loop-after-test.true))).0

pub loop-after-smaller : goal.loop-after-smaller
loop-after-smaller c =
    let cs = clauses_of c.args.known.now in
    let before = c.before-after.ensures (room c.args.trail.now) (tops_of cs) c.requires.registered in
    omega (arith, c.loop-after-test.true, last-within (tops_of cs) (get_or (tops_of cs) (c.loop-after.after - 1) 0) (c.loop-after.after - 1) c.before-after.result before)

pub loop-after-preserved : goal.loop-after-preserved
loop-after-preserved c =
    let cs = clauses_of c.args.known.now in
    let n = c.loop-after.after - 1 in
    let before = c.before-after.ensures (room c.args.trail.now) (tops_of cs) c.requires.registered in
    let here = c.loop-after.invariant.found n (omega (arith, c.loop-after-test.true)) in
    let not_here : IsFalse (subsumed_by (trues c.args.trail.now) (slice_index_or cs n [])) = search rules in
    record {
      skipped = λ j lt e le. elim (cases_order j n) [
        | inl is ↦ subst (λ k. IsFalse (subsumed_by (trues c.args.trail.now) (slice_index_or cs k []))) (sym is) not_here
        | inr other ↦ elim other [
          | inl below ↦ absurd (omega (arith, le, before.later j below (e ∙ sym here.1)))
          | inr above ↦ c.loop-after.invariant.skipped j lt e (omega (arith, above))
        ]
      ];
      found = λ j e. let r = before.found j e in (omega (arith, r.0, here.0), r.1 ∙ here.1);
    }
