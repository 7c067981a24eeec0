use Rattle.std.proofs.Common.{length, map, ◌-◌, ◌≤◌}
use Rattle.cocoon_syntax.specs.TreeOf.{refine_of}
use Rattle.parsing.specs.PlainParser.{finishes, many_from, refine_from}
use Rattle.cocoon_text.proofs.Eventually.{SoFar}
use Rattle.cocoon_text.proofs.decls.refines.Given as goal

abbrev pub invariant-refines : goal.invariant-refines
invariant-refines l = record {
  forward : l.pos ≤ l.next;
  within : l.next ≤ length l.source;
  so_far : SoFar (λ n. many_from (refine_from l.source) (finishes l.source) n l.pos) (λ n. many_from (refine_from l.source) (finishes l.source) n l.next) (map refine_of l.refines.items);
}

abbrev pub decreases-refines : goal.decreases-refines
decreases-refines l = length l.source - l.next
