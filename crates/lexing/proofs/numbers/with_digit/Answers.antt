use Rattle.std.proofs.Common.{◌≡◌, ◌+◌, ◌*◌, ◌≤◌, ◌^◌, ap, sym, ◌∙◌, inl, inr}
use Rattle.std.proofs.lemmas.Bool.{cases_lt}
use Rattle.lexing.specs.Numbers.{small}
use Rattle.lexing.proofs.SmallValues.{kept, large_product}
use Rattle.lexing.proofs.numbers.with_digit.Goals as goal

pub returns-in_err-checked_mul : goal.returns-in_err-checked_mul
returns-in_err-checked_mul c =
    let product = c.args.value * c.args.base in
    let far : 2 ^ 128 ≤ product = elim (cases_lt product (2 ^ 128)) [ inl h ↦ absurd (c.in_err-checked_mul.ensures h) | inr h ↦ h ] in
    c.from_residual.ensures ∙ sym (large_product c.args.value c.args.base c.args.digit far)

pub returns : goal.returns
returns c =
    let product : c.in_ok-checked_mul.field-0 ≡ c.args.value * c.args.base = c.in_ok-checked_mul.ensures.1 in
    kept c.checked_add.result (c.in_ok-checked_mul.field-0 + c.from.result) c.checked_add.ensures
    ∙ ap (λ x. small (x + c.from.result)) product
    ∙ ap (λ d. small (c.args.value * c.args.base + d)) c.from.ensures
