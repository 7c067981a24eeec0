use Rattle.cert_text.proofs.Showing.{not_miscounted, not_refused}
use Rattle.cert_text.proofs.laws.certificates_that_show_are_not_refused.Goals as goal

pub returns : goal.returns
returns c = record {
  refused = λ d certs shows number told. not_refused d certs shows number told.1;
  counted = λ d certs shows found wanted told. not_miscounted d certs shows told.differ;
}
