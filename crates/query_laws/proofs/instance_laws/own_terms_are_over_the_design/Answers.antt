use Rattle.cocoon_types.specs.Design.{last_level, widths_of}
use Rattle.query_laws.proofs.Instances.{own-term-over}
use Rattle.query_laws.proofs.PatternFits.{own_inputs}
use Rattle.query_laws.proofs.instance_laws.own_terms_are_over_the_design.Goals as goal

pub returns : goal.returns
returns c = λ d w l i a is. (
  own_inputs (widths_of a.params),
  own-term-over d (c.terms_apply_declared_functions.ensures d w l) (last_level d) a (c.declarations_are_typed.ensures.assumptions d w l (last_level d) i a is),
)
