use Rattle.bundle_reader.proofs.OldNew.{left, old_or_new}
use Rattle.bundle_reader.proofs.laws.old_new_or_refused.Goals as goal

pub returns-clause-left : goal.returns-clause-left
returns-clause-left c = left

pub returns-clause-read : goal.returns-clause-read
returns-clause-read c = old_or_new c.one_file_one_network.ensures
