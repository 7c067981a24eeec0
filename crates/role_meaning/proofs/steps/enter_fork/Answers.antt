use Rattle.std.proofs.lemmas.Result.{IfOk-weaker}
use Rattle.cocoon_syntax.specs.TreeOf.{expr_of, name_of}
use Rattle.role_values.specs.Meant.{meant}
use Rattle.role_meaning.proofs.Blocks.{enters}
use Rattle.role_meaning.proofs.steps.enter_fork.Goals as goal

pub returns-in_ok-bind-in-Some-clause-enters : goal.returns-in_ok-bind-in-Some-clause-enters
returns-in_ok-bind-in-Some-clause-enters c =
    IfOk-weaker c.is_true.result _ _
    (λ does h. enters c.args.level.now c.args.progress.now c.choose.new.self c.bind.new.self (name_of c.args.name.now) c.args.width (expr_of c.args.condition.now) (meant c.in-Some.value)
    c.in-Some.ensures.chooses c.in-Some.ensures.same c.in_ok-bind-in-Some.ensures does h)
    c.is_true.ensures
