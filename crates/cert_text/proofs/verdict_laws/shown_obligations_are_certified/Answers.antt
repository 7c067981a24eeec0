use Rattle.cert_text.proofs.Certified.{holds, show}
use Rattle.cert_text.proofs.verdict_laws.shown_obligations_are_certified.Goals as goal

pub returns : goal.returns
returns c = record {
  show = λ d nodes os certs owed shown. show d nodes os certs owed shown;
  holds = λ d nodes os certs owed shown. holds d nodes os certs owed shown;
}
