use Rattle.cocoon_types.specs.Tables.{defs_of}
use Rattle.sound_types.proofs.Declared.{names_differ}
use Rattle.obligation_laws.proofs.Rows.{rows_fit}
use Rattle.obligation_laws.proofs.ExprsTogether.{values_are}
use Rattle.obligation_laws.proofs.expr_laws.terms_have_values.Goals as goal

pub returns : goal.returns
returns c = λ d es h. values_are d (defs_of d es) h.rules h.literals (rows_fit d (defs_of d es) (names_differ d h.rules) (c.expressions_have_values.ensures.by_definitions d es h))
