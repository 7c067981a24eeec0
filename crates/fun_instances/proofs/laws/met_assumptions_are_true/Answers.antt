use Rattle.cocoon_types.specs.Design.{last_level}
use Rattle.cocoon_types.specs.Tables.{defs_of}
use Rattle.sound_types.proofs.Declared.{names_differ}
use Rattle.obligation_laws.proofs.Rows.{rows_fit}
use Rattle.fun_instances.proofs.AssumptionValues.{met_if_true, true_if_met, value_true_if_met}
use Rattle.fun_instances.proofs.laws.met_assumptions_are_true.Goals as goal

pub returns-clause-terms : goal.returns-clause-terms
returns-clause-terms c = λ d es h i a is.
    true_if_met d (defs_of d es) h.rules h.literals (rows_fit d (defs_of d es) (names_differ d h.rules) (c.expressions_have_values.ensures.by_definitions d es h))
    a (c.declarations_are_typed.ensures.assumptions d h.rules h.literals (last_level d) i a is)

pub returns-clause-numbers : goal.returns-clause-numbers
returns-clause-numbers c = λ d es h i a is.
    value_true_if_met d (defs_of d es) h.rules h.literals (rows_fit d (defs_of d es) (names_differ d h.rules) (c.expressions_have_values.ensures.by_definitions d es h))
    a (c.declarations_are_typed.ensures.assumptions d h.rules h.literals (last_level d) i a is)

pub returns-clause-met : goal.returns-clause-met
returns-clause-met c = λ d es h i a is.
    met_if_true d (defs_of d es) h.rules h.literals (rows_fit d (defs_of d es) (names_differ d h.rules) (c.expressions_have_values.ensures.by_definitions d es h))
    a (c.declarations_are_typed.ensures.assumptions d h.rules h.literals (last_level d) i a is)
