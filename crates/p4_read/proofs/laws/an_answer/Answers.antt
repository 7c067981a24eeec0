use Rattle.p4_read.proofs.AnAnswer.{found}
use Rattle.p4_read.proofs.laws.an_answer.Goals as goal

pub returns : goal.returns
returns c = found c.reads_where_it_stands.ensures
