use Rattle.std.proofs.Common.{◌≡◌, ◌∙◌, ◌+◌, ◌*◌, ◌<◌, ◌^◌, None, sym, rules, arith}
use Rattle.p4_resolve.proofs.NumberFacts.{too_large}
use Rattle.p4_resolve.proofs.numbers.number.Goals as goal

pub returns-in_err-value : goal.returns-in_err-value
returns-in_err-value c = λ n e.
    let none : c.from_residual-in_err-value.result ≡ None = search rules in
    let large : (c.loop-byte.value * 10 + c.in_ok-digit.digit < 2 ^ 32) → ⊥ = c.in_err-value.ensures in
    none ∙ too_large c.args.digits.now c.loop-byte.value c.loop-byte.byte-index c.in_ok-digit.digit n c.loop-byte-test.true c.loop-byte.invariant e (sym c.in_ok-digit.ensures) (omega (arith, large))
