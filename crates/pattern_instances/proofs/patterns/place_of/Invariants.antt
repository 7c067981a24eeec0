use Rattle.std.proofs.Common.{◌≡◌, ◌<◌, ℕ, false, get_or}
use Rattle.bv_terms.specs.Arenas.{term_at}
use Rattle.query_laws.specs.Patterns.{is_input}
use Rattle.pattern_instances.proofs.patterns.place_of.Given as goal

abbrev pub invariant-loop-place : goal.invariant-loop-place
invariant-loop-place l = (j : ℕ) → j < l.place → is_input l.input (term_at l.terms (get_or l.args j 0)) ≡ false
