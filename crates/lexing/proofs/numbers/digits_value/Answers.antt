use Rattle.std.proofs.Common.{rules, ◌≡◌, ◌+◌, ◌*◌, Some, None, drop, get_or, sym, ap, ◌∙◌}
use Rattle.std.proofs.lemmas.List.{drop_more, drop_all}
use Rattle.lexing.specs.Numbers.{base_of, digit_of, small}
use Rattle.lexing.proofs.SmallValues.{Goes, is_large, is_small, next_digit, small_is_kept, stays_large}
use Rattle.lexing.proofs.numbers.digits_value.Goals as goal

pub loop-byte-preserved : goal.loop-byte-preserved
loop-byte-preserved c =
    let radix = c.args.radix in
    let v = c.loop-byte.value in
    let i = c.loop-byte.byte-index in
    let text = c.args.text.now in
    let byte = get_or text i 0 in
    let digit : digit_of radix byte ≡ Some c.in_ok-digit.digit = search rules in
    let value : small (v * base_of radix + c.in_ok-digit.digit) ≡ Some c.in_ok-value.value = search rules in
    let next = is_small (v * base_of radix + c.in_ok-digit.digit) c.in_ok-value.value value in
    record {
      most = rw (sym next.0) next.1;
      rest = c.loop-byte.invariant.rest
          ∙ ap (Goes radix v) (drop_more text i 0 c.loop-byte-test.true)
          ∙ next_digit radix v byte c.in_ok-digit.digit (drop (i + 1) text) digit
          ∙ ap (λ n. Goes radix n (drop (i + 1) text)) next.0;
    }

pub returns-in_err-value : goal.returns-in_err-value
returns-in_err-value c =
    let radix = c.args.radix in
    let v = c.loop-byte.value in
    let i = c.loop-byte.byte-index in
    let text = c.args.text.now in
    let byte = get_or text i 0 in
    let digit : digit_of radix byte ≡ Some c.in_ok-digit.digit = search rules in
    let value : small (v * base_of radix + c.in_ok-digit.digit) ≡ None = search rules in
    c.from_residual-in_err-value.ensures
    ∙ sym (c.loop-byte.invariant.rest
    ∙ ap (Goes radix v) (drop_more text i 0 c.loop-byte-test.true)
    ∙ next_digit radix v byte c.in_ok-digit.digit (drop (i + 1) text) digit
    ∙ stays_large radix (v * base_of radix + c.in_ok-digit.digit) (drop (i + 1) text) (is_large (v * base_of radix + c.in_ok-digit.digit) value))

pub returns : goal.returns
returns c =
    let text = c.args.text.now in
    sym (c.loop-byte.invariant.rest
    ∙ ap (Goes c.args.radix c.loop-byte.value) (drop_all c.loop-byte.byte-index text c.loop-byte-test.false)
    ∙ small_is_kept c.loop-byte.value c.loop-byte.invariant.most)
