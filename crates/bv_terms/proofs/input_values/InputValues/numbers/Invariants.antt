use Rattle.std.proofs.Common.{◌≡◌, ◌%◌, ◌^◌, map, take}
use Rattle.bv_terms.specs.Values.{values_of}
use Rattle.bv_terms.proofs.input_values.InputValues.numbers.Given as goal

abbrev pub invariant-loop-input : goal.invariant-loop-input
invariant-loop-input l = l.numbers.items ≡ map (λ i. values_of l.self.inputs.now l.self.values.now i % 2 ^ 64) (take l.input-index l.inputs)
