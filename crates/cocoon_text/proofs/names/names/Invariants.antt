use Rattle.std.proofs.Common.{◌<◌, length, map, ◌-◌, ◌≤◌}
use Rattle.cocoon_syntax.specs.TreeOf.{name_of}
use Rattle.parsing.specs.PlainParser.{commas_from, name_from}
use Rattle.cocoon_text.proofs.Eventually.{SoFar, tail_from}
use Rattle.cocoon_text.proofs.names.names.Given as goal

abbrev pub invariant-names : goal.invariant-names
invariant-names l = record {
  forward : l.pos < l.next;
  within : l.next ≤ length l.source;
  so_far : SoFar (λ n. commas_from l.source (λ m. name_from l.source) n l.pos) (λ n. tail_from l.source (λ m. name_from l.source) n l.next) (map name_of l.names.items);
}

abbrev pub decreases-names : goal.decreases-names
decreases-names l = length l.source - l.next
