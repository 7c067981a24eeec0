use Rattle.std.proofs.Common.{◌+◌, ◌-◌, ◌%◌, ◌^◌, refl, subst, sym}
use Rattle.p4_ir.specs.Program.{unary_of}
use Rattle.p4_run.specs.Meaning.{number_by}
use Rattle.p4_run.proofs.CodeFacts.{by_flip}
use Rattle.p4_run.proofs.OperatorFacts.{flipped_one}
use Rattle.p4_run.proofs.Widths.{turned, Made}
use Rattle.p4_run.proofs.operators.unary.Goals as goal

pub returns-in_ok-new-in-Number : goal.returns-in_ok-new-in-Number
returns-in_ok-new-in-Number c =
    let a = c.in-Number.field-0 in
    flipped_one (unary_of c.args.op) c.args.a a _ c.in-Number.is c.requires.sort refl
    (λ r l. subst (Made a.width (2 ^ a.width - 1 - number_by a.code r)) (sym (by_flip c.in_ok-new-in-Number.field-0 c.mask.result r))
    (subst (λ x. Made a.width (2 ^ a.width - 1 - number_by a.code r) ((c.mask.result + (2 ^ 128 - number_by x r)) % 2 ^ 128)) (sym c.in_ok-new-in-Number.ensures.ok)
    (turned (number_by a.code r) a.width c.mask.result a.narrow l c.mask.ensures)))
