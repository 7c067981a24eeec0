use Rattle.std.proofs.Common.{◌∷◌, [], filter_map, map, option_map, slice_index, take, Some, None, sym, ap, ◌∙◌}
use Rattle.std.proofs.lemmas.List.{map-append}
use Rattle.bv_terms.specs.Arenas.{term_at}
use Rattle.query_laws.specs.Patterns.{pattern_of}
use Rattle.pattern_instances.specs.Found.{found_pattern, found_patterns}
use Rattle.pattern_instances.proofs.Places.{next-patterns, next-term}
use Rattle.pattern_instances.proofs.patterns.patterns_among.Goals.{in-Some+in_ok-push, in_default}
use Rattle.pattern_instances.proofs.patterns.patterns_among.Goals as goal

pub loop-term-preserved : goal.loop-term-preserved
loop-term-preserved c =
    let f = term_at c.args.terms.now in
    let F = pattern_of c.args.count in
    let ids = c.args.among.now in
    let i = c.loop-term.term-index in
    let old = c.loop-term.patterns.items in
    let next = next-term f ids i c.loop-term-test.true in
    elim c.match-branch-2.branch [
      | in-Some+in_ok-push w ↦
          rw w.patterns-is (ap found_patterns w.in_ok-push.ensures.items ∙ map-append found_pattern old (w.in-Some.pattern ∷ [])
          ∙ next-patterns F (map f (take i ids)) (f (slice_index ids i)) (found_patterns old) (Some (found_pattern w.in-Some.pattern)) c.loop-term.invariant
          (ap (option_map found_pattern) (sym w.in-Some.is) ∙ c.in_ok-pattern.ensures)
          ∙ ap (filter_map F) (sym next))
      | in_default w ↦
          rw w.patterns-is (next-patterns F (map f (take i ids)) (f (slice_index ids i)) (found_patterns old) None c.loop-term.invariant
          (ap (option_map found_pattern) (sym w.in_default.is) ∙ c.in_ok-pattern.ensures)
          ∙ ap (filter_map F) (sym next))
    ]
