use Rattle.query_laws.proofs.Untrue.{FlatLaws, TermLaws, refuted, untrue}
use Rattle.query_laws.proofs.laws.refuted_formulas_are_never_true.Goals as goal

pub returns : goal.returns
returns c =
    let terms : TermLaws = record {
      alike = c.design_terms_apply_alike.ensures.alike;
      inputs = c.design_terms_apply_alike.ensures.inputs;
      others = c.design_terms_apply_alike.ensures.others;
      walk_renamed = c.names_keep_the_walk.ensures;
      value_renamed = c.names_keep_values.ensures;
    } in
    let flat : FlatLaws = record {
      goals = c.flat_goals_are_goals.ensures;
      stays_true = c.flat_goals_stay_true.ensures;
      inputs_fit = c.flat_inputs_fit.ensures.flat;
      results_fit = c.flat_inputs_fit.ensures.results;
      extends = c.clauses_mean_the_goal.ensures.extends;
      holds = c.satisfying_is_making_hold.ensures;
      no_model = c.derived_clauses_have_no_model.ensures;
    } in
    record {
      untrue = λ d w l level formula stands is fits term.
          untrue terms d level
          (record {
            pattern_widths = c.instances_fit.ensures.pattern_widths d w l level;
            patterns_over = c.instances_fit.ensures.patterns_over d w l level;
            value_widths = λ i a at ns fit. c.instances_fit.ensures.value_widths d w l i a at ns fit;
            values_over = λ i a at ns fit p. c.instances_fit.ensures.values_over d w l i a at ns fit p;
          }) formula stands is fits term
          (record {
            patterns = c.instances_hold.ensures.patterns d w l level;
            values = c.instances_hold.ensures.values d w l level;
            functions = c.definitions_fit_design_terms.ensures d w l;
          }) flat;
      certified = λ d w l level formula stands cert term h.
          refuted terms d level
          (record {
            pattern_widths = c.instances_fit.ensures.pattern_widths d w l level;
            patterns_over = c.instances_fit.ensures.patterns_over d w l level;
            value_widths = λ i a at ns fit. c.instances_fit.ensures.value_widths d w l i a at ns fit;
            values_over = λ i a at ns fit p. c.instances_fit.ensures.values_over d w l i a at ns fit p;
          }) formula stands cert.instances h.fit term
          (record {
            patterns = c.instances_hold.ensures.patterns d w l level;
            values = c.instances_hold.ensures.values d w l level;
            functions = c.definitions_fit_design_terms.ensures d w l;
          }) flat cert.log h.derives;
    }
