use Rattle.std.proofs.Common.{◌<◌, length, map, ◌-◌, ◌≤◌}
use Rattle.cocoon_syntax.specs.TreeOf.{param_of}
use Rattle.parsing.specs.PlainParser.{closes, header_field_from, many_from, some_from}
use Rattle.cocoon_text.proofs.Eventually.{SoFar}
use Rattle.cocoon_text.proofs.decls.fields.Given as goal

abbrev pub invariant-fields : goal.invariant-fields
invariant-fields l = record {
  forward : l.pos < l.next;
  within : l.next ≤ length l.source;
  so_far : SoFar (λ n. some_from (λ m. header_field_from l.source) (closes l.source) n l.pos) (λ n. many_from (λ m. header_field_from l.source) (closes l.source) n l.next) (map param_of l.fields.items);
}

abbrev pub decreases-fields : goal.decreases-fields
decreases-fields l = length l.source - l.next
