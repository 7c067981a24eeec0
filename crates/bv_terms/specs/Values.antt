-- Cited by the clauses of what searches for values of a formula's inputs, and of what reads them: values by the places of inputs.
use Rattle.std.specs.Prelude.{ℕ, List, option_map, slice_get, unwrap_or}
use Rattle.bv_terms.specs.TermValues.{Inputs}
use Rattle.cocoon_num.specs.declared.bits.Bits.{Bits}
use Rattle.bv_terms.specs.Copies.{new_name}

-- the number of an input, by its place among these; 0 if it has no value
abbrev pub values_of : (inputs : List ℕ) → (values : List Bits) → Inputs
values_of inputs values i = unwrap_or (option_map (λ (b : Bits). b.value) (slice_get values (new_name 0 inputs i))) 0
