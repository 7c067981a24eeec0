use Rattle.std.proofs.Common.{length, sym, ap, ◌∙◌}
use Rattle.std.specs.Prelude.{unwrap_or}
use Rattle.std.proofs.lemmas.Grind.{get_or_default_zero}
use Rattle.row_search.specs.Searched.{asked}
use Rattle.row_search.proofs.PairFacts.{none_found, search_finds}
use Rattle.row_search.proofs.sorted.SortedRows.look.Goals as goal

pub returns-in-Some : goal.returns-in-Some
returns-in-Some c =
    let s = c.args.self.now in
    let xs = asked s c.args.meta.now c.args.keys.now in
    let n = length s.masks.items in
    c.index.ensures ∙ get_or_default_zero s.results.items c.in-Some.row c.index.result.now c.in-Some.ensures.0
    ∙ sym (ap (λ o. unwrap_or o c.args.default) (search_finds n s.values.items s.results.items xs c.in-Some.row s.sorted c.in-Some.ensures))

pub returns-in-None : goal.returns-in-None
returns-in-None c =
    let s = c.args.self.now in
    let xs = asked s c.args.meta.now c.args.keys.now in
    sym (ap (λ o. unwrap_or o c.args.default) (none_found (length s.masks.items) s.values.items s.results.items xs c.in-None.ensures))
