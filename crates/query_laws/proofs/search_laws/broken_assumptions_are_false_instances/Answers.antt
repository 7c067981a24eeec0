use Rattle.query_laws.proofs.Broken.{all-masked, false-instance, numbers-fit}
use Rattle.query_laws.proofs.search_laws.broken_assumptions_are_false_instances.Goals as goal

pub returns-clause-fits : goal.returns-clause-fits
returns-clause-fits c = λ d w l level formula is tables k i a at b.
    let masked = all-masked d tables k.definitions k.literal in
    numbers-fit d w l tables
    (record {
      definitions = c.tables_are_definitions.ensures.definitions d tables w k.definitions;
      stands = c.tables_are_definitions.ensures.stands d tables w k.definitions masked;
      says = c.assumptions_have_values.ensures d;
      over = λ i a at ns fit p. c.instances_fit.ensures.values_over d w l i a at ns fit p;
      fit = c.tables_take_the_place.ensures.fit d tables k.definitions;
      rows = c.rows_keep_values.ensures.values tables;
      by_definitions = λ defs s. c.tables_keep_values.ensures d tables defs k.definitions s;
    }) i a at b

pub returns-clause-false_ : goal.returns-clause-false_
returns-clause-false_ c = λ d w l level formula is tables k i a at b t.
    let masked = all-masked d tables k.definitions k.literal in
    false-instance d w l tables
    (record {
      definitions = c.tables_are_definitions.ensures.definitions d tables w k.definitions;
      stands = c.tables_are_definitions.ensures.stands d tables w k.definitions masked;
      says = c.assumptions_have_values.ensures d;
      over = λ i a at ns fit p. c.instances_fit.ensures.values_over d w l i a at ns fit p;
      fit = c.tables_take_the_place.ensures.fit d tables k.definitions;
      rows = c.rows_keep_values.ensures.values tables;
      by_definitions = λ defs s. c.tables_keep_values.ensures d tables defs k.definitions s;
    }) i a at b t
