use Rattle.cert_text.proofs.CertsExact.{read_back}
use Rattle.cert_text.proofs.json_laws.written_reads_back.Goals as goal

pub returns : goal.returns
returns c = read_back
