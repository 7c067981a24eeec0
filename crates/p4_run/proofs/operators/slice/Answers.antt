use Rattle.std.proofs.Common.{◌+◌, ◌-◌, ◌/◌, ◌%◌, ◌^◌, ap, bit_and, refl, subst, sym}
use Rattle.p4_run.specs.Meaning.{number_by}
use Rattle.p4_run.proofs.CodeFacts.{by_slice}
use Rattle.p4_run.proofs.OperatorFacts.{sliced_one}
use Rattle.p4_run.proofs.Widths.{sliced, Made}
use Rattle.p4_run.proofs.operators.slice.Goals as goal

pub returns : goal.returns
returns c =
    let low = c.args.low in
    let w = c.args.high - low + 1 in
    let first = c.in_ok-first-in-Number.first.value in
    sliced_one c.args.high low c.args.a c.in-Number.number _ c.in-Number.is c.requires refl
    (λ r. subst (Made w (number_by c.in-Number.number.code r / 2 ^ low % 2 ^ w)) (sym (by_slice c.in_ok-first-in-Number.first _ c.mask.result r))
    (subst (λ n. Made w (n / 2 ^ low % 2 ^ w) (bit_and (number_by first r / 2 ^ low) c.mask.result)) (ap (λ x. number_by x r) c.in_ok-first-in-Number.ensures.ok)
    (sliced (number_by first r) low w c.mask.result c.mask.ensures)))
