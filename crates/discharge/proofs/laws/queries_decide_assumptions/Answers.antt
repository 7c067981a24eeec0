use Rattle.cocoon_types.specs.Design.{last_level}
use Rattle.discharge.proofs.Deciding.{Goals, broken, met}
use Rattle.discharge.proofs.laws.queries_decide_assumptions.Goals as goal

pub returns-clause-broken : goal.returns-clause-broken
returns-clause-broken c = λ d tables w l z i a is asked cnf clauses x sat es h s.
    broken c.tables_keep_values.ensures c.tables_take_the_place.ensures.inputs
    (record {
      reads = c.clauses_mean_the_goal.ensures.reads;
      extends = c.clauses_mean_the_goal.ensures.extends;
      present = c.inputs_have_their_bits.ensures.present;
      absent = c.inputs_have_their_bits.ensures.absent;
      holds = c.satisfying_is_making_hold.ensures;
    }) d a (c.terms_apply_declared_functions.ensures d w l) (c.declarations_are_typed.ensures.assumptions d w l (last_level d) i a is) tables z asked cnf clauses x sat es h
    (c.expressions_have_values.ensures.by_definitions d es h) s

pub returns-clause-met : goal.returns-clause-met
returns-clause-met c = λ d tables w l z i a is asked cnf clauses none es h s.
    met c.tables_keep_values.ensures c.tables_take_the_place.ensures.inputs
    (record {
      reads = c.clauses_mean_the_goal.ensures.reads;
      extends = c.clauses_mean_the_goal.ensures.extends;
      present = c.inputs_have_their_bits.ensures.present;
      absent = c.inputs_have_their_bits.ensures.absent;
      holds = c.satisfying_is_making_hold.ensures;
    }) d a (c.terms_apply_declared_functions.ensures d w l) (c.declarations_are_typed.ensures.assumptions d w l (last_level d) i a is) tables z asked cnf clauses none es h
    (c.expressions_have_values.ensures.by_definitions d es h) s
