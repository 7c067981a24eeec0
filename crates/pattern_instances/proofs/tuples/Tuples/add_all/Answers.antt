use Rattle.std.proofs.Common.{ℕ, Some, None, Vec, filter_map, fold, map, option_map, take, sym, ap, subst, ◌∙◌}
use Rattle.std.specs.declared.alloc.Global.{Global}
use Rattle.pattern_instances.specs.Found.{HasPlaces, HasTuples, found_pattern, tuple_found, with_ids}
use Rattle.pattern_instances.proofs.Adding.{next-tuple, pattern-at}
use Rattle.pattern_instances.proofs.tuples.Tuples.add_all.Goals.{in-Some+in_ok-add, in_default}
use Rattle.pattern_instances.proofs.tuples.Tuples.add_all.Goals as goal

pub tuple_of-requires-clause-places : goal.tuple_of-requires-clause-places
tuple_of-requires-clause-places c =
    pattern-at (HasPlaces c.args.terms.now c.args.application) c.args.patterns.now c.requires.places c.loop-pattern.pattern-index c.pattern-item.result c.loop-pattern-test.true c.pattern-item.is

pub loop-pattern-preserved : goal.loop-pattern-preserved
loop-pattern-preserved c = λ tuples h.
    let F = tuple_found c.args.terms.now c.args.application in
    let ps = c.args.patterns.now in
    let i = c.loop-pattern.pattern-index in
    let p = c.pattern-item.result in
    let l = c.loop-pattern-test.true in
    let so_far = fold with_ids tuples (filter_map F (map found_pattern (take i ps))) in
    elim c.match-branch-2.branch [
      | in-Some+in_ok-add w ↦
          rw w.self-is (subst (HasTuples w.add.new.self)
          (sym (next-tuple F ps i p l c.pattern-item.is tuples (Some w.in-Some.tuple.items) (ap (option_map (λ (v : Vec ℕ Global). v.items)) (sym w.in-Some.is) ∙ c.in_ok-tuple.ensures)))
          (w.in_ok-add.ensures so_far (c.loop-pattern.invariant tuples h)))
      | in_default w ↦
          rw w.self-is (subst (HasTuples c.loop-pattern.self)
          (sym (next-tuple F ps i p l c.pattern-item.is tuples None (ap (option_map (λ (v : Vec ℕ Global). v.items)) (sym w.in_default.is) ∙ c.in_ok-tuple.ensures)))
          (c.loop-pattern.invariant tuples h))
    ]
