use Rattle.std.proofs.Common.{◌≡◌, ◌≤◌, length, map, take, ◌-◌}
use Rattle.bv_terms.specs.Arenas.{width_at}
use Rattle.solver_tests.proofs.flattening.have_widths_of.Given as goal

abbrev pub invariant-loop-at : goal.invariant-loop-at
invariant-loop-at l = (l.at ≤ length l.args) × (map (width_at l.terms) (take l.at l.args) ≡ map (width_at l.terms) (take l.at l.others))

abbrev pub decreases-loop-at : goal.decreases-loop-at
decreases-loop-at l = length l.args - l.at
