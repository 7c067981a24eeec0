use Rattle.std.proofs.Common.{◌<◌, length, map, ◌-◌, ◌≤◌}
use Rattle.cocoon_syntax.specs.TreeOf.{pattern_of}
use Rattle.parsing.specs.PlainParser.{commas_from, pattern_from}
use Rattle.cocoon_text.proofs.Eventually.{SoFar, tail_from}
use Rattle.cocoon_text.proofs.defs.patterns.Given as goal

abbrev pub invariant-loop-patterns : goal.invariant-loop-patterns
invariant-loop-patterns l = record {
  forward : l.pos < l.next;
  within : l.next ≤ length l.source;
  so_far : SoFar (λ n. commas_from l.source (λ m. pattern_from l.source) n l.pos) (λ n. tail_from l.source (λ m. pattern_from l.source) n l.next) (map pattern_of l.patterns.items);
}

abbrev pub decreases-loop-patterns : goal.decreases-loop-patterns
decreases-loop-patterns l = length l.source - l.next
