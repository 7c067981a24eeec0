use Rattle.std.proofs.Common.{ℕ, arith, sym, ap, get_or, ◌≤◌, ◌*◌, ◌+◌, ◌∙◌}
use Rattle.cocoon_resolve.proofs.Widths.{total-more}
use Rattle.cocoon_resolve.proofs.layout.bytes.Goals as goal

pub loop-width-preserved : goal.loop-width-preserved
loop-width-preserved c = record {
  sum = c.with_field-bits.ensures.sum ∙ ap (λ n. n + get_or c.args.widths.now c.loop-width.width-index 0) c.loop-width.invariant.sum
      ∙ sym (total-more c.args.widths.now c.loop-width.width-index 0 c.loop-width-test.true);
  bound = by c.loop-width.width-index c.loop-width.bits c.with_field-bits.result c.with_field-bits.ensures.bound c.loop-width.invariant.bound;
}
  where
    by : (i bits new : ℕ) → new ≤ bits + 255 → bits ≤ 255 * i → new ≤ 255 * (i + 1)
    by i bits new h k = omega arith
