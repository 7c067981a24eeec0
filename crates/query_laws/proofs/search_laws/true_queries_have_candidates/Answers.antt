use Rattle.query_laws.proofs.Candidate.{candidate, formula-true}
use Rattle.query_laws.proofs.search_laws.true_queries_have_candidates.Goals as goal

pub returns-clause-candidate : goal.returns-clause-candidate
returns-clause-candidate c = λ d w l level formula is none ins tables z.
    candidate d level
    (record {
      pattern_widths = c.instances_fit.ensures.pattern_widths d w l level;
      patterns_over = c.instances_fit.ensures.patterns_over d w l level;
      value_widths = λ i a at ns fit. c.instances_fit.ensures.value_widths d w l i a at ns fit;
      values_over = λ i a at ns fit p. c.instances_fit.ensures.values_over d w l i a at ns fit p;
    }) c.flat_goals_have_tables.ensures formula z.stands is z.fit z.term (c.queries_are_goals.ensures.flat d w l level formula z.stands is z.fit z.term) none ins z.inputs z.is_true tables z.definitions z.rows

pub returns-clause-formula : goal.returns-clause-formula
returns-clause-formula c = λ d w l level formula is none ins tables z.
    formula-true d level
    (record {
      pattern_widths = c.instances_fit.ensures.pattern_widths d w l level;
      patterns_over = c.instances_fit.ensures.patterns_over d w l level;
      value_widths = λ i a at ns fit. c.instances_fit.ensures.value_widths d w l i a at ns fit;
      values_over = λ i a at ns fit p. c.instances_fit.ensures.values_over d w l i a at ns fit p;
    }) c.flat_goals_have_tables.ensures formula z.stands is z.fit z.term (c.queries_are_goals.ensures.flat d w l level formula z.stands is z.fit z.term) none ins z.inputs z.is_true tables z.definitions z.rows
