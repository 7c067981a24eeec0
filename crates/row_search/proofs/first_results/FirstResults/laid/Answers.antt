use Rattle.std.proofs.Common.{◌≡◌, ◌++◌, ◌*◌, [], length, sym, ap, subst, ◌∙◌}
use Rattle.std.specs.Map.Iter.{deref_pair}
use Rattle.std.proofs.lemmas.List.{append-nil}
use Rattle.std.proofs.lemmas.Map.Iter.{rest_all}
use Rattle.row_search.specs.Laid.{Ascend, laid_at}
use Rattle.row_search.specs.Pairs.{found, pairs_of}
use Rattle.row_search.proofs.PairFacts.{all_ascend, all_counted, all_found, all_results, all_values}
use Rattle.row_search.proofs.first_results.FirstResults.laid.Goals as goal

pub returns-clause-many : goal.returns-clause-many
returns-clause-many c =
    let es = c.args.self.now.results.entries in
    let end : c.loop-key.key-iterator ≡ [] = rest_all deref_pair _ _ _ c.in-None.is c.next.ensures.steps in
    let values : c.loop-key.values.items ≡ all_values es =
    sym (append-nil c.loop-key.values.items) ∙ ap (λ it. c.loop-key.values.items ++ all_values it) (sym end) ∙ c.loop-key.invariant.values in
    let results : c.loop-key.results.items ≡ all_results es =
    sym (append-nil c.loop-key.results.items) ∙ ap (λ it. c.loop-key.results.items ++ all_results it) (sym end) ∙ c.loop-key.invariant.results in
    ap length values ∙ all_counted c.args.count es c.requires ∙ sym (ap (λ rs. length rs * c.args.count) results)

pub returns-clause-found : goal.returns-clause-found
returns-clause-found c = λ xs.
    let es = c.args.self.now.results.entries in
    let end : c.loop-key.key-iterator ≡ [] = rest_all deref_pair _ _ _ c.in-None.is c.next.ensures.steps in
    let values : c.loop-key.values.items ≡ all_values es =
    sym (append-nil c.loop-key.values.items) ∙ ap (λ it. c.loop-key.values.items ++ all_values it) (sym end) ∙ c.loop-key.invariant.values in
    let results : c.loop-key.results.items ≡ all_results es =
    sym (append-nil c.loop-key.results.items) ∙ ap (λ it. c.loop-key.results.items ++ all_results it) (sym end) ∙ c.loop-key.invariant.results in
    (λ i. found (pairs_of c.args.count (values i) (results i)) xs) ∙ all_found c.args.count es xs c.requires

pub returns-clause-sorted : goal.returns-clause-sorted
returns-clause-sorted c =
    let es = c.args.self.now.results.entries in
    let end : c.loop-key.key-iterator ≡ [] = rest_all deref_pair _ _ _ c.in-None.is c.next.ensures.steps in
    let values : c.loop-key.values.items ≡ all_values es =
    sym (append-nil c.loop-key.values.items) ∙ ap (λ it. c.loop-key.values.items ++ all_values it) (sym end) ∙ c.loop-key.invariant.values in
    let results : c.loop-key.results.items ≡ all_results es =
    sym (append-nil c.loop-key.results.items) ∙ ap (λ it. c.loop-key.results.items ++ all_results it) (sym end) ∙ c.loop-key.invariant.results in
    subst (λ rs. Ascend (laid_at c.args.count c.loop-key.values.items) (length rs)) (sym results)
    (subst (λ vs. Ascend (laid_at c.args.count vs) (length (all_results es))) (sym values) (all_ascend c.args.count es c.requires c.into_iter-key-iterator.ensures.into_iter_gives.5))
