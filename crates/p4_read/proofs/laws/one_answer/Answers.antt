use Rattle.p4_read.proofs.OneAnswer.{the_answer}
use Rattle.p4_read.proofs.laws.one_answer.Goals as goal

pub returns : goal.returns
returns c = the_answer c.stands_where_it_reads.ensures
