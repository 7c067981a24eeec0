use Rattle.std.proofs.Common.{ap, ◌∙◌, option_and_then}
use Rattle.clap.specs.Words.{found_of}
use Rattle.clap.proofs.WalkLemmas.{first_value-rows}
use Rattle.command_line.specs.Arguments.{number_between}
use Rattle.command_line.proofs.arguments.argument_number.Goals as goal

pub returns-in_err-word : goal.returns-in_err-word
returns-in_err-word c = c.from_residual.ensures ∙ ap (option_and_then (number_between 1 c.args.most)) (c.in_err-word.ensures ∙ first_value-rows (found_of c.args.matches.now) _)

pub returns : goal.returns
returns c = c.number_between.ensures ∙ ap (option_and_then (number_between 1 c.args.most)) (c.in_ok-word.ensures ∙ first_value-rows (found_of c.args.matches.now) _)
