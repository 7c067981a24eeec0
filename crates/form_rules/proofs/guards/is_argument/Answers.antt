use Rattle.form_rules.proofs.CallTrees.{one_argument}
use Rattle.form_rules.proofs.guards.is_argument.Goals as goal

pub returns-then-is_variable : goal.returns-then-is_variable
returns-then-is_variable c = one_argument c.args.args.now c.in-Some.rest.now c.in-Some.arg.now c.args.name.now c.is_empty.result c.in-Some.ensures.cases.0 c.if-is_variable.ensures c.is_empty.ensures
