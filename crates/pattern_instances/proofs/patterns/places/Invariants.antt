use Rattle.std.proofs.Common.{◌≡◌, ◌++◌, ◌-◌, option_map}
use Rattle.bv_terms.specs.Arenas.{args_of, term_at}
use Rattle.query_laws.specs.Patterns.{places_from}
use Rattle.pattern_instances.proofs.patterns.places.Given as goal

abbrev pub invariant-loop-input : goal.invariant-loop-input
invariant-loop-input l =
    option_map (λ ks. l.places.items ++ ks) (places_from l.input (l.count - l.input) (args_of (term_at l.terms) l.args)) ≡ places_from 0 l.count (args_of (term_at l.terms) l.args)
