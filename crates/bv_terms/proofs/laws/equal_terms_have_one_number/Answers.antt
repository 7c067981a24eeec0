use Rattle.bv_terms.proofs.OneNumber.{one-number}
use Rattle.bv_terms.proofs.laws.equal_terms_have_one_number.Goals as goal

pub returns : goal.returns
returns c = one-number
