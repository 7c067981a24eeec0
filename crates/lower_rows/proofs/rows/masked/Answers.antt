use Rattle.std.proofs.Common.{◌++◌, drop, sym, ap, ◌∙◌}
use Rattle.std.proofs.lemmas.List.{append-nil, drop_all}
use Rattle.lowering_correct.specs.SwitchRows.{masked}
use Rattle.lower_rows.proofs.Walks.{masked-end}
use Rattle.lower_rows.proofs.rows.masked.Goals.{then-loop-at-test+else-at-masks, else-loop-at-test}
use Rattle.lower_rows.proofs.rows.masked.Goals as goal

pub returns : goal.returns
returns c =
    let bits = c.loop-at.bits.items in
    let vs = c.args.values.now in
    let ms = c.args.masks.now in
    let i = c.loop-at.at in
    elim c.loop-at-test.branch [
      | then-loop-at-test+else-at-masks w ↦
          sym (append-nil bits) ∙ ap (λ xs. bits ++ xs) (sym (ap (masked (drop i vs)) (drop_all i ms w.if-at-masks.false) ∙ masked-end (drop i vs))) ∙ c.loop-at.invariant.rest
      | else-loop-at-test w ↦
          sym (append-nil bits) ∙ ap (λ xs. bits ++ masked xs (drop i ms)) (sym (drop_all i vs w.loop-at-test.false)) ∙ c.loop-at.invariant.rest
    ]
