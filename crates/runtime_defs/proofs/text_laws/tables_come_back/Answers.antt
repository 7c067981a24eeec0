use Rattle.cocoon_types.specs.Design.{functions}
use Rattle.runtime_defs.proofs.OwnNames.{functions_distinct}
use Rattle.runtime_defs.proofs.EntryTables.{tables_back}
use Rattle.runtime_defs.proofs.text_laws.tables_come_back.Goals as goal

pub returns : goal.returns
returns c = λ d ps rules fit masked. tables_back (functions d) ps (functions_distinct d rules) fit masked
