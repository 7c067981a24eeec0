use Rattle.std.proofs.Common.{length, map, ◌-◌, ◌≤◌}
use Rattle.cocoon_syntax.specs.TreeOf.{decl_of}
use Rattle.cocoon_text.specs.Phrases.{stops_of}
use Rattle.parsing.specs.PlainParser.{decl_from, many_from}
use Rattle.cocoon_text.proofs.Eventually.{SoFar}
use Rattle.cocoon_text.proofs.decls.decls.Given as goal

abbrev pub invariant-decls : goal.invariant-decls
invariant-decls l = record {
  forward : l.pos ≤ l.next;
  within : l.next ≤ length l.source;
  so_far : SoFar (λ n. many_from (decl_from l.source) (stops_of l.until l.source) n l.pos) (λ n. many_from (decl_from l.source) (stops_of l.until l.source) n l.next) (map decl_of l.decls.items);
}

abbrev pub decreases-decls : goal.decreases-decls
decreases-decls l = length l.source - l.next
