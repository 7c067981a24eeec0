use Rattle.query_laws.proofs.Candidate.{asked-over}
use Rattle.query_laws.proofs.search_laws.asked_goals_apply_declared_functions.Goals as goal

pub returns : goal.returns
returns c = λ d w l level formula stands is fits.
    asked-over d level
    (record {
      pattern_widths = c.instances_fit.ensures.pattern_widths d w l level;
      patterns_over = c.instances_fit.ensures.patterns_over d w l level;
      value_widths = λ i a at ns fit. c.instances_fit.ensures.value_widths d w l i a at ns fit;
      values_over = λ i a at ns fit p. c.instances_fit.ensures.values_over d w l i a at ns fit p;
    }) is fits formula stands
