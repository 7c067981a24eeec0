use Rattle.bit_blast.proofs.InputFacts.{hold-satisfies, satisfies-hold}
use Rattle.bit_blast.proofs.laws.satisfying_is_making_hold.Goals as goal

pub returns : goal.returns
returns c = λ cnf goal e a. (satisfies-hold cnf goal a e, hold-satisfies cnf goal a e)
