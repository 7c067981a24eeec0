use Rattle.std.proofs.Common.{◌≡◌, map, take}
use Rattle.bv_terms.specs.Arenas.{width_at}
use Rattle.obligation_tests.proofs.fitting.widths.Given as goal

abbrev pub invariant-loop-arg : goal.invariant-loop-arg
invariant-loop-arg l = l.widths.items ≡ map (width_at l.terms) (take l.arg-index l.args)
