-- The program that takes choices from a list computes the runs.
use Rattle.command_laws.proofs.ExampleRuns.{c_delivers, c_delivers_otherwise, c_delivers_nothing}
use Rattle.command_laws.proofs.example.example_delivers.Goals as goal

pub returns-clause-tagged : goal.returns-clause-tagged
returns-clause-tagged c = c_delivers c.runs_are_taken.ensures

pub returns-clause-untagged : goal.returns-clause-untagged
returns-clause-untagged c = c_delivers_otherwise c.runs_are_taken.ensures

pub returns-clause-too_short : goal.returns-clause-too_short
returns-clause-too_short c = c_delivers_nothing
