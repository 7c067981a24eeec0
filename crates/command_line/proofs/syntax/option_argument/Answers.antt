use Rattle.command_line.proofs.Matching.{rule_option, option_local}
use Rattle.command_line.proofs.syntax.option_argument.Goals as goal

pub returns-clause-rule : goal.returns-clause-rule
returns-clause-rule c = rule_option c.new.result c.long.result c.action.result c.args.name.now c.args.name c.new.ensures.rule c.long.ensures c.action.ensures

pub returns-clause-local : goal.returns-clause-local
returns-clause-local c = option_local c.new.result c.long.result c.action.result c.args.name c.new.ensures.optional.1 c.long.ensures c.action.ensures
