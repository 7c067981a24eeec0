use Rattle.std.proofs.Common.{suc, false}
use Rattle.refinement.specs.Segments.{is_new}
use Rattle.obligation_laws.proofs.Together.{tree_shown}
use Rattle.obligation_laws.proofs.leaf_laws.leaves_have_values.Goals as goal

pub returns : goal.returns
returns c = record {
  inlined = λ d es h ins above role r is within first.
      tree_shown d es h (c.expressions_have_values.ensures.by_definitions d es h) (c.declarations_are_typed.ensures.roles d h.rules h.literals)
      ins (suc above) (is_new above d) within role r is first;
  one_body = λ d es h ins level role r is.
      tree_shown d es h (c.expressions_have_values.ensures.by_definitions d es h) (c.declarations_are_typed.ensures.roles d h.rules h.literals)
      ins level (λ x. false) 1 role r is;
}
