use Rattle.std.proofs.Common.{◌+◌, ◌*◌, ◌%◌, ◌^◌, bit_or, refl, subst, sym}
use Rattle.p4_run.specs.Meaning.{number_by}
use Rattle.p4_run.proofs.CodeFacts.{by_join}
use Rattle.p4_run.proofs.OperatorFacts.{joined_two}
use Rattle.p4_run.proofs.Widths.{joined, Made}
use Rattle.p4_run.proofs.operators.joined.Goals as goal

pub returns : goal.returns
returns c =
    let a = c.args.a in
    let b = c.args.b in
    joined_two a b _ c.requires refl
    (λ r p q.
    let n = number_by a.code r * 2 ^ b.width + number_by b.code r in
    subst (Made (a.width + b.width) n) (sym (by_join c.in_ok-first.first c.in_ok-first.second _ r))
    (subst (λ x. Made (a.width + b.width) n (bit_or (number_by x r * 2 ^ b.width % 2 ^ 128) (number_by c.in_ok-first.second.value r))) (sym c.in_ok-first.ensures.first)
    (subst (λ y. Made (a.width + b.width) n (bit_or (number_by a.code r * 2 ^ b.width % 2 ^ 128) (number_by y r))) (sym c.in_ok-first.ensures.second)
    (joined (number_by a.code r) a.width (number_by b.code r) b.width c.requires p q))))
