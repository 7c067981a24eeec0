use Rattle.std.proofs.Common.{◌-◌, length}
use Rattle.row_search.specs.Searched.{asked, values_at}
use Rattle.row_search.proofs.Halves.{Narrows}
use Rattle.row_search.proofs.search.search.Given as goal

abbrev pub invariant-loop-span : goal.invariant-loop-span
invariant-loop-span l = Narrows (values_at l.rows) (length l.rows.results.items) (asked l.rows l.meta l.keys) l.span

abbrev pub decreases-loop-span : goal.decreases-loop-span
decreases-loop-span l = l.span.high - l.span.low
