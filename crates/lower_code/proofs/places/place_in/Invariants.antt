use Rattle.std.proofs.Common.{◌≡◌, ◌+◌, drop, map}
use Rattle.cocoon_syntax.specs.TreeOf.{param_of}
use Rattle.lowering.specs.Lower.{place_in}
use Rattle.lower_code.proofs.places.place_in.Given as goal

abbrev pub invariant-loop-field : goal.invariant-loop-field
invariant-loop-field l = place_in (map param_of l.fields) l.name ≡ l.place + place_in (map param_of (drop l.field-index l.fields)) l.name
