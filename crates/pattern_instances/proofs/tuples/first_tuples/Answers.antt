use Rattle.std.proofs.Common.{ℕ, ◌⊎◌, ◌≤◌, Vec, length, inl, inr, take, sym, ap, subst, ◌∙◌, arith}
use Rattle.std.specs.declared.alloc.Global.{Global}
use Rattle.query_laws.specs.Tuples.{most_instances}
use Rattle.pattern_instances.specs.Found.{HasTuples, all_found, distinct_ids, found_patterns, tuple_ids}
use Rattle.pattern_instances.proofs.Adding.{first-found, next-application}
use Rattle.pattern_instances.proofs.Firsts.{taken-map}
use Rattle.pattern_instances.proofs.tuples.first_tuples.Goals.{then-loop-at-test+else-len-lt-MOST_INSTANCES, else-loop-at-test}
use Rattle.pattern_instances.proofs.tuples.first_tuples.Goals as goal

pub loop-at-preserved : goal.loop-at-preserved
loop-at-preserved c =
    let ps = found_patterns c.args.patterns.now in
    let ids = c.args.applications.now in
    let i = c.loop-at.at in
    subst (HasTuples c.add_all.new.self) (sym (next-application c.args.terms.now ps ids i c.loop-at-test.true))
    (c.in_ok-add_all.ensures (distinct_ids (all_found c.args.terms.now ps (take i ids))) c.loop-at.invariant)

pub returns : goal.returns
returns c =
    let ps = found_patterns c.args.patterns.now in
    let ids = c.args.applications.now in
    let vs = c.loop-at.found.tuples in
    let done : (length ids ≤ c.loop-at.at) ⊎ (most_instances ≤ length vs.items) = elim c.loop-at-test.branch [
      | then-loop-at-test+else-len-lt-MOST_INSTANCES w ↦ inr (let e = w.len.ensures in let l = w.if-len-lt-MOST_INSTANCES.false in let s = vs.ok.0 in omega (arith, e, l, s))
      | else-loop-at-test w ↦ inl (let l = w.loop-at-test.false in omega (arith, l))
    ] in
    ap tuple_ids c.truncate.ensures.items ∙ taken-map (λ (v : Vec ℕ Global). v.items) most_instances vs.items
    ∙ first-found c.args.terms.now ps ids c.loop-at.found c.loop-at.at c.loop-at.invariant done
