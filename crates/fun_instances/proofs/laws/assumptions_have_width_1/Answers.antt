use Rattle.cocoon_types.specs.Design.{last_level, widths_of}
use Rattle.fun_instances.specs.AssumptionTerms.{number_terms}
use Rattle.fun_instances.proofs.Assumed.{truth_wide}
use Rattle.fun_instances.proofs.Numbers.{numbers_wide}
use Rattle.fun_instances.proofs.laws.assumptions_have_width_1.Goals as goal

pub returns-clause-terms : goal.returns-clause-terms
returns-clause-terms c = λ d w l i a is ts.
    truth_wide d (c.terms_have_widths.ensures d w l) a (c.declarations_are_typed.ensures.assumptions d w l (last_level d) i a is) ts

pub returns-clause-numbers : goal.returns-clause-numbers
returns-clause-numbers c = λ d w l i a is ns fit.
    truth_wide d (c.terms_have_widths.ensures d w l) a (c.declarations_are_typed.ensures.assumptions d w l (last_level d) i a is)
    (number_terms (widths_of a.params) ns) (numbers_wide (widths_of a.params) ns fit)
