use Rattle.p4_texts.proofs.Standing.{stands_as}
use Rattle.p4_texts.proofs.program_laws.stands_where_it_reads.Goals as goal

pub returns : goal.returns
returns c = stands_as
