use Rattle.std.proofs.Common.{◌∙◌}
use Rattle.std.proofs.lemmas.Result.{IfOk-weaker}
use Rattle.row_search.proofs.first_results.first_pairs.Goals as goal

pub returns-clause-found : goal.returns-clause-found
returns-clause-found c = IfOk-weaker c.laid.result _ _ (λ laid h. λ xs. h xs ∙ c.in_ok-first.ensures.found xs) c.laid.ensures.found
