use Rattle.std.proofs.Common.{suc, false}
use Rattle.refinement.specs.Segments.{is_new}
use Rattle.query_laws.proofs.LeavesOver.{tree_applies}
use Rattle.query_laws.proofs.formula_laws.leaves_apply_declared_functions.Goals as goal

pub returns : goal.returns
returns c = record {
  inlined = λ d w l above role r is within first n leaf there.
      tree_applies d (suc above) (c.terms_have_widths.ensures d w l) (c.terms_apply_declared_functions.ensures d w l) (c.declarations_are_typed.ensures.roles d w l (suc above)) (is_new above d) within role r is first n leaf there;
  one_body = λ d w l level role r is first n leaf there.
      tree_applies d level (c.terms_have_widths.ensures d w l) (c.terms_apply_declared_functions.ensures d w l) (c.declarations_are_typed.ensures.roles d w l level) (λ x. false) 1 role r is first n leaf there;
}
