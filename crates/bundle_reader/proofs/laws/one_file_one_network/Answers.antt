use Rattle.bundle_reader.proofs.OldNew.{one_network}
use Rattle.bundle_reader.proofs.laws.one_file_one_network.Goals as goal

pub returns : goal.returns
returns c = one_network c.one_reading.ensures
