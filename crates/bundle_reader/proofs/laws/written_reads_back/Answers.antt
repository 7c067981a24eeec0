use Rattle.bundle_reader.proofs.Put.{written_back}
use Rattle.bundle_reader.proofs.laws.written_reads_back.Goals as goal

pub returns : goal.returns
returns c = written_back
