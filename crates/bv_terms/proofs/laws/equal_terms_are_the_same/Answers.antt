use Rattle.bv_terms.proofs.SameTerms.{same-itself, same-only}
use Rattle.bv_terms.proofs.laws.equal_terms_are_the_same.Goals as goal

pub returns : goal.returns
returns c = record {
  itself = same-itself;
  only = same-only;
}
