use Rattle.std.proofs.Common.{◌≡◌, length}
use Rattle.bv_terms.specs.Arenas.{term_at}
use Rattle.query_laws.specs.Rounds.{Progress}
use Rattle.cocoon_syntax.specs.TreeOf.{design_of}
use Rattle.rounds.proofs.searching.search.Given as goal

abbrev pub invariant-loop : goal.invariant-loop
invariant-loop l = record {
  count : length l.instances.items ≡ l.counter;
  progress : Progress (design_of l.checked) l.level (term_at l.terms l.formula) l.instances.items;
}
