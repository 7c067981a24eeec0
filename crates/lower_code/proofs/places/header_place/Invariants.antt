use Rattle.std.proofs.Common.{◌≡◌, ◌+◌, drop, map}
use Rattle.cocoon_syntax.specs.TreeOf.{header_of}
use Rattle.lowering.specs.Lower.{header_place}
use Rattle.lower_code.proofs.places.header_place.Given as goal

abbrev pub invariant-loop-header : goal.invariant-loop-header
invariant-loop-header l = header_place (map header_of l.headers) l.name ≡ l.place + header_place (map header_of (drop l.header-index l.headers)) l.name
