use Rattle.query_laws.specs.OwnNames.{input_count}
use Rattle.query_laws.specs.Queries.{asked}
use Rattle.query_laws.proofs.Untrue.{TermLaws, can_flatten}
use Rattle.query_laws.proofs.laws.queries_are_goals.Goals as goal

pub returns : goal.returns
returns c =
    let terms : TermLaws = record {
      alike = c.design_terms_apply_alike.ensures.alike;
      inputs = c.design_terms_apply_alike.ensures.inputs;
      others = c.design_terms_apply_alike.ensures.others;
      walk_renamed = c.names_keep_the_walk.ensures;
      value_renamed = c.names_keep_values.ensures;
    } in
    record {
      flat = λ d w l level formula stands is fits term.
          can_flatten terms d level
          (record {
            pattern_widths = c.instances_fit.ensures.pattern_widths d w l level;
            patterns_over = c.instances_fit.ensures.patterns_over d w l level;
            value_widths = λ i a at ns fit. c.instances_fit.ensures.value_widths d w l i a at ns fit;
            values_over = λ i a at ns fit p. c.instances_fit.ensures.values_over d w l i a at ns fit p;
          }) formula stands is fits term;
      goal = λ d w l level formula stands is fits term.
          c.flat_goals_are_goals.ensures (asked d level formula is) (input_count formula)
          (can_flatten terms d level
          (record {
            pattern_widths = c.instances_fit.ensures.pattern_widths d w l level;
            patterns_over = c.instances_fit.ensures.patterns_over d w l level;
            value_widths = λ i a at ns fit. c.instances_fit.ensures.value_widths d w l i a at ns fit;
            values_over = λ i a at ns fit p. c.instances_fit.ensures.values_over d w l i a at ns fit p;
          }) formula stands is fits term);
    }
