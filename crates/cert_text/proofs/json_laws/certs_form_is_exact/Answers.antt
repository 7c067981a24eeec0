use Rattle.cert_text.proofs.CertsExact.{certs_is_exact}
use Rattle.cert_text.proofs.json_laws.certs_form_is_exact.Goals as goal

pub returns : goal.returns
returns c = certs_is_exact
