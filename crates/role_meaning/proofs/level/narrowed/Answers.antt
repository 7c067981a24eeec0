use Rattle.std.proofs.Common.{◌<◌, ◌≡◌, ◌++◌, ◌∷◌, ◌^◌, [], get_or, rules, sym, ap, ◌∙◌}
use Rattle.std.proofs.lemmas.List.{take_more}
use Rattle.role_meaning.proofs.Guards.{word_at}
use Rattle.role_meaning.proofs.level.narrowed.Goals as goal

pub overflow_cast-number : goal.overflow_cast-number
overflow_cast-number c =
    let small : get_or c.args.numbers.now c.loop-number.number-index 0 < 2 ^ 64 = word_at c.args.numbers.now c.loop-number.number-index 0 c.requires c.loop-number-test.true in
    search rules

pub loop-number-preserved : goal.loop-number-preserved
loop-number-preserved c =
    let ns = c.args.numbers.now in
    let i = c.loop-number.number-index in
    c.in_ok-push.ensures.items ∙ ap (λ xs. xs ++ get_or ns i 0 ∷ []) c.loop-number.invariant ∙ sym (take_more ns i 0 c.loop-number-test.true)
