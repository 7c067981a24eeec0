use Rattle.bit_blast.proofs.GateMeanings.{and-means, or-means, xor-means, same-means, choice-means, carry-means}
use Rattle.bit_blast.proofs.laws.gates_mean_their_operations.Goals as goal

pub returns : goal.returns
returns c = record {
  and = and-means;
  or = or-means;
  xor = xor-means;
  same = same-means;
  choice = choice-means;
  carry = carry-means;
}
