use Rattle.std.proofs.Common.{ap, ◌∙◌}
use Rattle.clap.specs.Words.{found_of}
use Rattle.clap.proofs.WalkLemmas.{first_value-rows}
use Rattle.command_line.specs.Arguments.{number_or}
use Rattle.command_line.proofs.arguments.option_number.Goals as goal

pub returns-in-Some : goal.returns-in-Some
returns-in-Some c = c.number_between.ensures ∙ ap (number_or c.args.usual c.args.most) (c.in-Some.ensures ∙ first_value-rows (found_of c.args.matches.now) _)

pub returns-in-None : goal.returns-in-None
returns-in-None c = ap (number_or c.args.usual c.args.most) (c.in-None.ensures ∙ first_value-rows (found_of c.args.matches.now) _)
