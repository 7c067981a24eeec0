-- Cited by the clauses of `candidate`, and by private clauses: the values of inputs under an assignment.
use Rattle.std.specs.Prelude.{ℤ, Bool, List, option_map, slice_get, unwrap_or}
use Rattle.bit_blast.specs.Blasting.{InputRow}
use Rattle.bit_blast.specs.Readings.{number_read}
use Rattle.bv_terms.specs.TermValues.{Inputs}
use Rattle.cocoon_num.specs.Values.{Value, number}

-- the number of the bits of an input, where literals have these values
abbrev pub row_value : (ℤ → Bool) → InputRow → Value
row_value v row = number row.width (number_read v row.bits)

-- the same of each input that has a row; 0 of others
abbrev pub assigned : (ℤ → Bool) → List InputRow → Inputs
assigned v rows i = unwrap_or (option_map (λ (row : InputRow). number_read v row.bits) (slice_get rows i)) 0
