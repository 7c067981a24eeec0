use Rattle.std.proofs.Common.{◌<◌, length, map, ◌-◌, ◌≤◌}
use Rattle.cocoon_syntax.specs.TreeOf.{param_of}
use Rattle.parsing.specs.PlainParser.{commas_from, param_from}
use Rattle.cocoon_text.proofs.Eventually.{SoFar, tail_from}
use Rattle.cocoon_text.proofs.names.params.Given as goal

abbrev pub invariant-params : goal.invariant-params
invariant-params l = record {
  forward : l.pos < l.next;
  within : l.next ≤ length l.source;
  so_far : SoFar (λ n. commas_from l.source (λ m. param_from l.source) n l.pos) (λ n. tail_from l.source (λ m. param_from l.source) n l.next) (map param_of l.params.items);
}

abbrev pub decreases-params : goal.decreases-params
decreases-params l = length l.source - l.next
