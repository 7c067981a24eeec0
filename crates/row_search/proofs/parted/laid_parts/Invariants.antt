use Rattle.std.proofs.Common.{All, ◌≡◌, map, nat_lt}
use Rattle.p4_ir.specs.NetOf.{key_row_of}
use Rattle.row_search.specs.Held.{key_count}
use Rattle.row_search.specs.Least.{FindPlaces}
use Rattle.row_search.proofs.parted.laid_parts.Given as goal

abbrev pub invariant-loop-part : goal.invariant-loop-part
invariant-loop-part l = record {
  keys : All (λ f. key_count f ≡ l.count) l.parts.items;
  places : FindPlaces l.count (λ n. nat_lt n l.part) l.numbers (map key_row_of l.rows) l.parts.items;
}
