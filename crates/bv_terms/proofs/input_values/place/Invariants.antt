use Rattle.std.proofs.Common.{◌≡◌, ◌+◌, drop}
use Rattle.bv_terms.specs.Copies.{index_in}
use Rattle.bv_terms.proofs.input_values.place.Given as goal

abbrev pub invariant-loop-at : goal.invariant-loop-at
invariant-loop-at l = index_in l.inputs l.input ≡ l.at + index_in (drop l.at l.inputs) l.input
