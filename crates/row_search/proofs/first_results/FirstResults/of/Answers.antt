use Rattle.std.proofs.Common.{◌≡◌, ◌+◌, ◌-◌, ◌*◌, ◌<◌, ◌≤◌, Some, take, drop, length, get_or, if◌then◌else◌, sym, ap, ◌∙◌, arith}
use Rattle.std.proofs.Math.Seq.{drop-length}
use Rattle.std.proofs.lemmas.List.{length-drop, length-take-le}
use Rattle.cocoon_num.specs.Names.{same_name}
use Rattle.row_search.specs.Pairs.{found, pairs_of}
use Rattle.row_search.proofs.FirstFacts.{same_compare}
use Rattle.row_search.proofs.PairFacts.{pairs_back, row_back, row_within}
use Rattle.row_search.proofs.first_results.FirstResults.of.Goals as goal

pub loop-row-init : goal.loop-row-init
loop-row-init c = record {
  within = omega arith;
  at = c.requires;
  found = λ xs. c.new-first.ensures.none xs ∙ sym (ap (λ rs. found (pairs_of c.args.count (drop (length c.args.values.now) c.args.values.now) rs) xs) (drop-length c.args.results.now));
  counted = c.new-first.ensures.counted c.args.count;
}

pub loop-row-preserved : goal.loop-row-preserved
loop-row-preserved c =
    let n = c.args.count in
    let values = c.args.values.now in
    let results = c.args.results.now in
    let row = c.loop-row.row in
    let at = c.loop-row.at in
    let r = get_or results (row - 1) 0 in
    let own = take n (drop (at - n) values) in
    let others = found (pairs_of n (drop at values) (drop row results)) in
    let some : 0 < row = c.loop-row-test.true in
    let within : row ≤ length results = c.loop-row.invariant.within in
    let place = (row_back at row n c.loop-row.invariant.at some).0 in
    let fits : (row - 1) * n + n ≤ length values = row_within (row - 1) (length results) n (length values) (omega arith) c.requires in
    let left : length (drop (at - n) values) ≡ length values - (at - n) = length-drop (at - n) values in
    record {
      within = omega arith;
      at = place;
      found = λ xs.
          c.in_ok-note.ensures.noted xs
          ∙ (λ i. if same_name xs (c.laid_row.ensures i) then Some r else c.loop-row.invariant.found xs i)
          ∙ ap (λ b. if b then Some r else others xs) (sym (same_compare xs own))
          ∙ sym (ap (λ ps. found ps xs) (pairs_back n values results at row c.loop-row.invariant.at some within));
      counted = c.in_ok-note.ensures.counted n (ap length c.laid_row.ensures ∙ length-take-le n (drop (at - n) values) (omega arith)) c.loop-row.invariant.counted;
    }
