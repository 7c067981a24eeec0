use Rattle.std.proofs.Common.{length, map, ◌-◌, ◌≤◌}
use Rattle.cocoon_syntax.specs.TreeOf.{entry_of}
use Rattle.parsing.specs.PlainParser.{many_from, entry_from, finishes}
use Rattle.cocoon_text.proofs.Eventually.{SoFar}
use Rattle.cocoon_text.proofs.defs.entries.Given as goal

abbrev pub invariant-entries : goal.invariant-entries
invariant-entries l = record {
  within : l.next ≤ length l.source;
  so_far : SoFar (λ n. many_from (entry_from l.source) (finishes l.source) n 0) (λ n. many_from (entry_from l.source) (finishes l.source) n l.next) (map entry_of l.entries.items);
}

abbrev pub decreases-entries : goal.decreases-entries
decreases-entries l = length l.source - l.next
