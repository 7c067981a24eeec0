use Rattle.std.proofs.Common.{ap, ◌∙◌, option_and_then}
use Rattle.clap.specs.Words.{found_of}
use Rattle.clap.proofs.WalkLemmas.{first_value-rows}
use Rattle.command_line.specs.Arguments.{number_up_to}
use Rattle.command_line.specs.Subcommands.{highest_level}
use Rattle.command_line.proofs.subcommands.level.Goals as goal

pub returns-in-Some : goal.returns-in-Some
returns-in-Some c = c.number_up_to.ensures ∙ ap (option_and_then (number_up_to highest_level)) (c.in-Some.ensures ∙ first_value-rows (found_of c.args.matches.now) _)

pub returns-in-None : goal.returns-in-None
returns-in-None c = ap (option_and_then (number_up_to highest_level)) (c.in-None.ensures ∙ first_value-rows (found_of c.args.matches.now) _)
