use Rattle.command_line.proofs.Matching.{rule_required, stays_local}
use Rattle.command_line.proofs.syntax.required_argument.Goals as goal

pub returns-clause-rule : goal.returns-clause-rule
returns-clause-rule c = rule_required _ _ _ _ c.new.ensures.rule c.required.ensures c.action.ensures

pub returns-clause-local : goal.returns-clause-local
returns-clause-local c = stays_local c.new.result c.required.result c.action.result c.new.ensures.optional.1 c.required.ensures c.action.ensures
