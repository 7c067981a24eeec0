use Rattle.std.proofs.Common.{◌≡◌, drop, map, option_map}
use Rattle.cocoon_syntax.specs.TreeOf.{param_of}
use Rattle.symbolic_runs.specs.Places.{later, place_in}
use Rattle.symbolic_runs.proofs.fields.place_in.Given as goal

abbrev pub invariant-loop-index : goal.invariant-loop-index
invariant-loop-index l = place_in (map param_of l.params) l.field ≡ option_map (later l.index) (place_in (map param_of (drop l.index l.params)) l.field)
