use Rattle.std.proofs.Common.{◌≡◌, ◌+◌, ◌-◌, ◌*◌, ◌<◌, ◌≤◌, drop, length, get_or, sym, ap, subst, ◌∙◌, arith}
use Rattle.std.specs.Ordering.{nat_cmp}
use Rattle.std.proofs.Math.Nat.{add-zero}
use Rattle.std.proofs.lemmas.Grind.{get_or_default_zero}
use Rattle.std.proofs.lemmas.List.{get_or-drop, get_or-take, length-drop, length-take-le}
use Rattle.row_search.specs.Keyed.{keyed}
use Rattle.row_search.specs.Searched.{asked, IsTelling, values_at}
use Rattle.row_search.proofs.Halves.{first_tells}
use Rattle.row_search.proofs.PairFacts.{row_within}
use Rattle.row_search.proofs.ScanFacts.{keyed_counted, masked_counted}
use Rattle.row_search.proofs.search.compare_at.Goals as goal

pub returns-then-is_telling : goal.returns-then-is_telling
returns-then-is_telling c =
    let rows = c.args.rows.now in
    let row = c.args.row in
    let keys = c.args.keys.now in
    let meta = c.args.meta.now in
    let n = length rows.masks.items in
    let values = rows.values.items in
    let own = values_at rows row in
    let xs = asked rows meta keys in
    let at = row * length keys in
    let at_is : at ≡ row * n = ap (λ k. row * k) c.requires.many in
    let some : 0 < n = rows.some in
    let fits : row * n + n ≤ length values = row_within row (length rows.results.items) n (length values) c.requires.row rows.many in
    let left : length (drop (row * n) values) ≡ length values - row * n = length-drop (row * n) values in
    let listed : at < length values = omega arith in
    let head : get_or own 0 0 ≡ c.index.result.now =
    get_or-take n (drop (row * n) values) 0 0 some ∙ get_or-drop (row * n) values 0 0 ∙ ap (λ k. get_or values k 0) (add-zero (row * n) ∙ sym at_is)
    ∙ sym (get_or_default_zero values at c.index.result.now listed) ∙ sym c.index.ensures in
    let is : c.compare_numbers-found.result ≡ nat_cmp (get_or own 0 0) (get_or xs 0 0) = c.compare_numbers-found.ensures ∙ (λ i. nat_cmp (sym head i) (c.requires.first i)) in
    let telling : IsTelling (nat_cmp (get_or own 0 0) (get_or xs 0 0)) n =
    subst (λ r. IsTelling r n) is (subst (λ k. IsTelling c.compare_numbers-found.result k) c.requires.many (c.is_telling.ensures c.if-is_telling.true)) in
    is ∙ first_tells own xs n (length-take-le n (drop (row * n) values) (omega arith)) (masked_counted rows.masks.items (keyed meta keys) (keyed_counted meta keys ∙ c.requires.many)) some telling
