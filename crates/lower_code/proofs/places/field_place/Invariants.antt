use Rattle.std.proofs.Common.{◌≡◌, drop, map}
use Rattle.cocoon_syntax.specs.TreeOf.{header_of}
use Rattle.lowering.specs.Lower.{field_place}
use Rattle.lower_code.proofs.places.field_place.Given as goal

abbrev pub invariant-loop-declared : goal.invariant-loop-declared
invariant-loop-declared l =
    field_place (map header_of l.headers) l.header l.field ≡ field_place (map header_of (drop l.declared-index l.headers)) l.header l.field
