use Rattle.query_laws.proofs.Untrue.{added_wide, own_stands}
use Rattle.query_laws.proofs.laws.added_terms_fit.Goals as goal

pub returns : goal.returns
returns c = record {
  own = own_stands;
  added = λ d w l level formula stands is fits.
      added_wide d level
      (record {
        pattern_widths = c.instances_fit.ensures.pattern_widths d w l level;
        patterns_over = c.instances_fit.ensures.patterns_over d w l level;
        value_widths = λ i a at ns fit. c.instances_fit.ensures.value_widths d w l i a at ns fit;
        values_over = λ i a at ns fit p. c.instances_fit.ensures.values_over d w l i a at ns fit p;
      }) formula stands is fits;
}
