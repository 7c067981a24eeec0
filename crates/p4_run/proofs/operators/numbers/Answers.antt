use Rattle.std.proofs.Common.{subst, sym, ◌∙◌}
use Rattle.cocoon_num.specs.Values.{work}
use Rattle.p4_ir.specs.Program.{binary_of}
use Rattle.p4_run.specs.Operating.{Compares}
use Rattle.p4_run.proofs.OperatorFacts.{compared}
use Rattle.p4_run.proofs.operators.numbers.Goals as goal

pub returns-in_ok-first-2 : goal.returns-in_ok-first-2
returns-in_ok-first-2 c =
    let k = work (binary_of c.args.op) in
    compared k c.args.a c.args.b c.comparison.result (sym c.is_comparison.ensures ∙ c.if-is_comparison.true) c.requires
    (subst (λ x. Compares k x c.args.b.code c.comparison.result) c.in_ok-first-2.ensures.first
    (subst (λ y. Compares k c.in_ok-first-2.first.value y c.comparison.result) c.in_ok-first-2.ensures.second c.comparison.ensures))
