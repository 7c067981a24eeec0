use Rattle.std.proofs.Common.{sym, ap, ◌∙◌, option_and_then}
use Rattle.command_line.specs.Subcommands.{command_of}
use Rattle.command_line.proofs.Matching.{met_subcommand, no_subcommand}
use Rattle.command_line.proofs.parse.asked.Goals as goal

pub returns-in-Some : goal.returns-in-Some
returns-in-Some c = c.command_of.ensures ∙ sym (ap (option_and_then command_of) (met_subcommand c.args.matches.now c.in-Some.name.now _ c.in-Some.ensures.name c.in-Some.ensures.rows))

pub returns-in-None : goal.returns-in-None
returns-in-None c = sym (ap (option_and_then command_of) (no_subcommand c.args.matches.now c.in-None.ensures.rows))
