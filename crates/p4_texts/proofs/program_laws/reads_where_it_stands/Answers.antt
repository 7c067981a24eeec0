use Rattle.p4_texts.proofs.Standing.{read_as}
use Rattle.p4_texts.proofs.program_laws.reads_where_it_stands.Goals as goal

pub returns : goal.returns
returns c = read_as
