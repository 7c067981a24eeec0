use Rattle.std.proofs.Common.{◌<◌, length, map, ◌-◌, ◌≤◌}
use Rattle.cocoon_syntax.specs.TreeOf.{header_of}
use Rattle.parsing.specs.PlainParser.{closes, header_from, many_from, some_from}
use Rattle.cocoon_text.proofs.Eventually.{SoFar}
use Rattle.cocoon_text.proofs.decls.headers.Given as goal

abbrev pub invariant-headers : goal.invariant-headers
invariant-headers l = record {
  forward : l.pos < l.next;
  within : l.next ≤ length l.source;
  so_far : SoFar (λ n. some_from (header_from l.source) (closes l.source) n l.pos) (λ n. many_from (header_from l.source) (closes l.source) n l.next) (map header_of l.headers.items);
}

abbrev pub decreases-headers : goal.decreases-headers
decreases-headers l = length l.source - l.next
