use Rattle.std.proofs.Common.{suc, false}
use Rattle.refinement.specs.Segments.{is_new}
use Rattle.obligation_laws.proofs.LeafWidths.{tree_wide}
use Rattle.obligation_laws.proofs.tree_laws.leaves_have_widths.Goals as goal

pub returns : goal.returns
returns c = record {
  inlined = λ d w l above role r is within first n leaf there.
      tree_wide d (suc above) (c.terms_have_widths.ensures d w l) (c.declarations_are_typed.ensures.roles d w l (suc above)) (is_new above d) within role r is first n leaf there;
  one_body = λ d w l level role r is first n leaf there.
      tree_wide d level (c.terms_have_widths.ensures d w l) (c.declarations_are_typed.ensures.roles d w l level) (λ x. false) 1 role r is first n leaf there;
}
