use Rattle.std.proofs.lemmas.Bool.{false_from_ne_true}
use Rattle.bv_terms.specs.TermTrees.{input}
use Rattle.std.proofs.Common.{[]}
use Rattle.bv_terms.specs.Walks.{is_among, walk}
use Rattle.bit_blast.specs.Clauses.{goal_blasted}
use Rattle.bit_blast.proofs.Tabling.{goal-tabled, no-bits}
use Rattle.bit_blast.proofs.laws.inputs_have_their_bits.Goals as goal

pub returns : goal.returns
returns c = record {
  present = λ t g i w h. (goal-tabled t g.term g.unapplied).counts (input i w) h;
  absent = λ t g i w n.
      no-bits (walk t []) (goal_blasted t) (goal-tabled t g.term g.unapplied) (input i w) (false_from_ne_true (is_among (walk t []) (input i w)) n);
}
