use Rattle.std.proofs.Common.{refl}
use Rattle.bit_blast.proofs.laws.and_of_one_input_has_five_clauses.Goals as goal

pub returns : goal.returns
returns c = record {
  clauses = refl;
  vars = refl;
}
