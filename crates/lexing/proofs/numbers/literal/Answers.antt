use Rattle.std.proofs.Common.{rules, ◌≡◌, ◌+◌, None, Some, take, drop, option_map, option_and_then, sym, ap, ◌∙◌}
use Rattle.cocoon_num.specs.Tokens as tokens
use Rattle.lexing.specs.Numbers.{literal_kind, small, value_of}
use Rattle.lexing.specs.declared.numbers.Radix.TheVariants.{Decimal}
use Rattle.lexing.proofs.SmallValues.{literal_is, no_value, no_w}
use Rattle.lexing.proofs.numbers.literal.Goals as goal

pub returns-then-width_len-run : goal.returns-then-width_len-run
returns-then-width_len-run c = sym (no_w c.args.widest c.requires c.args.run.now c.len_before-width_len.result c.len_before-width_len.ensures.is c.if-width_len-run.true)

pub returns-in_err-width : goal.returns-in_err-width
returns-in_err-width c =
    let run = c.args.run.now in
    let n = c.len_before-width_len.result in
    let widest = c.args.widest in
    let none : value_of Decimal (take n run) ≡ None = ap (value_of Decimal) (sym c.split_at.ensures.front) ∙ sym (c.in_err-width.ensures) in
    ap (λ o. option_map literal_kind o) c.from_residual.ensures
    ∙ sym (literal_is widest c.requires run n c.len_before-width_len.ensures.is
    ∙ ap (λ w. tokens.literal_of widest w (option_and_then small (tokens.literal_value (drop (n + 1) run)))) none)

pub returns-in_err-value : goal.returns-in_err-value
returns-in_err-value c =
    let run = c.args.run.now in
    let n = c.len_before-width_len.result in
    let widest = c.args.widest in
    let width = value_of Decimal (take n run) in
    let none : option_and_then small (tokens.literal_value (drop (n + 1) run)) ≡ None =
    ap (λ bs. option_and_then small (tokens.literal_value bs)) (sym c.split_at-2.ensures.back) ∙ sym (c.in_err-value.ensures) in
    ap (λ o. option_map literal_kind o) c.from_residual-in_err-value.ensures
    ∙ sym (literal_is widest c.requires run n c.len_before-width_len.ensures.is ∙ ap (λ v. tokens.literal_of widest width v) none ∙ no_value widest c.requires width)

pub returns : goal.returns
returns c =
    let run = c.args.run.now in
    let n = c.len_before-width_len.result in
    let widest = c.args.widest in
    let width : value_of Decimal (take n run) ≡ Some c.in_ok-width.width = search rules in
    let value : option_and_then small (tokens.literal_value (drop (n + 1) run)) ≡ Some c.in_ok-value.value = search rules in
    c.bits.ensures
    ∙ sym (literal_is widest c.requires run n c.len_before-width_len.ensures.is
    ∙ ap (λ w. tokens.literal_of widest w (option_and_then small (tokens.literal_value (drop (n + 1) run)))) width
    ∙ ap (λ v. tokens.literal_of widest (Some c.in_ok-width.width) v) value)
