use Rattle.cocoon_types.specs.Design.{last_level}
use Rattle.cocoon_types.specs.Tables.{defs_of}
use Rattle.sound_types.proofs.Declared.{names_differ}
use Rattle.obligation_laws.proofs.Rows.{rows_fit}
use Rattle.fun_instances.proofs.AssumptionValues.{says}
use Rattle.fun_instances.proofs.laws.assumptions_have_values.Goals as goal

pub returns : goal.returns
returns c = λ d es h i a is.
    says d (defs_of d es) h.rules h.literals (rows_fit d (defs_of d es) (names_differ d h.rules) (c.expressions_have_values.ensures.by_definitions d es h))
    a (c.declarations_are_typed.ensures.assumptions d h.rules h.literals (last_level d) i a is)
