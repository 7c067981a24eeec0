use Rattle.cocoon_types.specs.Tables.{defs_of}
use Rattle.sound_types.proofs.Declared.{names_differ}
use Rattle.obligation_laws.proofs.Rows.{rows_fit}
use Rattle.obligation_laws.proofs.TreesTogether.{body_runs, inlined_runs}
use Rattle.obligation_laws.proofs.tree_laws.leaves_are_runs.Goals as goal

pub returns : goal.returns
returns c = record {
  inlined = λ d es h above within n role r is first.
      inlined_runs d (defs_of d es) h.rules h.literals (rows_fit d (defs_of d es) (names_differ d h.rules) (c.expressions_have_values.ensures.by_definitions d es h))
      (c.declarations_are_typed.ensures.roles d h.rules h.literals) above within n role r is first;
  one_body = λ d es h level role r is first.
      body_runs d (defs_of d es) h.rules h.literals (rows_fit d (defs_of d es) (names_differ d h.rules) (c.expressions_have_values.ensures.by_definitions d es h))
      (c.declarations_are_typed.ensures.roles d h.rules h.literals) level role r is first;
}
