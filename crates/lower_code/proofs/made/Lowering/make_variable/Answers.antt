use Rattle.std.proofs.Common.{◌≡◌, suc, arith}
use Rattle.lower_code.proofs.made.Lowering.make_variable.Goals as goal

pub returns-clause-made : goal.returns-clause-made
returns-clause-made c = λ d.
    let next : c.in_ok-next.next ≡ suc c.args.self.now.counts.variable = omega arith in
    let e = c.in_ok-number.ensures.made d in
    (λ i. record { made = (e i).made; next = record { app = (e i).next.app; var = next i; field = (e i).next.field; site = (e i).next.site } })
