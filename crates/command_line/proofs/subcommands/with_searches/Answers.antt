use Rattle.std.proofs.Common.{ap, ◌∙◌}
use Rattle.std.proofs.lemmas.Result.{IfOk-weaker}
use Rattle.clap.specs.Words.{App, with_rule}
use Rattle.command_line.specs.Syntax.{option_argument, rounds_argument}
use Rattle.command_line.proofs.subcommands.with_searches.Goals as goal

-- the second option, behind the first
pub returns-clause-app : goal.returns-clause-app
returns-clause-app c =
    IfOk-weaker c.with_option-2.result _ _ (λ r e. e ∙ ap (λ (a : App). with_rule a (option_argument rounds_argument)) c.in_ok-command.ensures.app)
    c.with_option-2.ensures.app
