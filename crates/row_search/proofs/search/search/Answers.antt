use Rattle.std.proofs.Common.{◌+◌, ◌-◌, ◌/◌, ◌<◌, ◌≤◌, length, sym, ◌∙◌, arith}
use Rattle.row_search.specs.Searched.{asked, values_at}
use Rattle.row_search.proofs.Halves.{narrows}
use Rattle.row_search.proofs.search.search.Goals as goal

pub returns-then-is_equal : goal.returns-then-is_equal
returns-then-is_equal c =
    let n = length c.args.rows.now.results.items in
    let s = c.loop-span.span in
    let middle = s.low + (s.high - s.low) / 2 in
    let test : s.low < s.high = c.loop-span-test.true in
    let top : s.high ≤ n = c.loop-span.invariant.high in
    let l : middle < n = omega arith in
    (l, sym c.compare_at-found.ensures ∙ c.is_equal.ensures.0 c.if-is_equal.true)

pub loop-span-preserved : goal.loop-span-preserved
loop-span-preserved c =
    let n = length c.args.rows.now.results.items in
    let s = c.loop-span.span in
    let middle = s.low + (s.high - s.low) / 2 in
    let test : s.low < s.high = c.loop-span-test.true in
    let top : s.high ≤ n = c.loop-span.invariant.high in
    narrows (values_at c.args.rows.now) n (asked c.args.rows.now c.args.meta.now c.args.keys.now) s c.narrowed-span.result middle c.compare_at-found.result
    c.args.rows.now.sorted c.loop-span.invariant (omega arith) (omega arith) c.compare_at-found.ensures
    (λ e. let yes = c.is_equal.ensures.1 e in let not_ = c.if-is_equal.false in cc) c.narrowed-span.ensures
