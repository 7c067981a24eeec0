use Rattle.std.proofs.Common.{◌≡◌, ◌++◌, ◌∷◌, [], take, sym, ap, ◌∙◌}
use Rattle.std.proofs.lemmas.List.{take_more}
use Rattle.role_meaning.proofs.going.widened.Goals as goal

pub loop-number-preserved : goal.loop-number-preserved
loop-number-preserved c =
    let ns = c.args.numbers.now in
    let i = c.loop-number.number-index in
    c.in_ok-push.ensures.items ∙ ap (λ xs. xs ++ c.from.result ∷ []) c.loop-number.invariant
    ∙ ap (λ n. take i ns ++ n ∷ []) c.from.ensures ∙ sym (take_more ns i 0 c.loop-number-test.true)
