use Rattle.bit_blast.proofs.Extending.{extends-to, reads-back}
use Rattle.bit_blast.proofs.laws.clauses_mean_the_goal.Goals as goal

pub returns : goal.returns
returns c = record {
  reads = reads-back;
  extends = λ goal g F ins fit. (λ e. reads-back goal g e.0 e.1.holds F ins e.1.reads, extends-to goal g F ins fit);
}
