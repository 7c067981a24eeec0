-- The readings were derived token by token.
use Rattle.command_laws.proofs.ExampleReads.{design_reads, defs_read}
use Rattle.command_laws.proofs.ExampleTables.{c_rules}
use Rattle.command_laws.proofs.example.example_reads.Goals as goal

pub returns-clause-design : goal.returns-clause-design
returns-clause-design c = design_reads

pub returns-clause-definitions : goal.returns-clause-definitions
returns-clause-definitions c = defs_read

pub returns-clause-rules : goal.returns-clause-rules
returns-clause-rules c = c_rules
