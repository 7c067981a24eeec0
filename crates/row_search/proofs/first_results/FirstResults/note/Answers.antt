use Rattle.std.proofs.Common.{◌≡◌, Some, if◌then◌else◌, length, subst, sym, ap, ◌∙◌, rules}
use Rattle.std.proofs.lemmas.Map.Views.{All-keys-insert_entry}
use Rattle.cocoon_num.specs.Names.{same_name}
use Rattle.row_search.specs.FirstResults.{result_by}
use Rattle.row_search.proofs.FirstFacts.{value_updated}
use Rattle.row_search.proofs.PairFacts.{Counted, key_cmp}
use Rattle.row_search.proofs.first_results.FirstResults.note.Goals as goal

pub returns-clause-noted : goal.returns-clause-noted
returns-clause-noted c = λ xs.
    let copied : c.in_ok-to_vec.field-0.items ≡ c.args.values.now = search rules in
    value_updated c.args.self.now.results c.insert.new.self c.in_ok-to_vec.field-0 (Some c.args.row_result) c.in_ok-insert.ensures.updates xs
    ∙ ap (λ k. if same_name xs k then Some c.args.row_result else result_by c.args.self.now xs) copied

pub returns-clause-counted : goal.returns-clause-counted
returns-clause-counted c = λ count many counted.
    let copied : c.in_ok-to_vec.field-0.items ≡ c.args.values.now = search rules in
    subst (Counted count) (sym c.in_ok-insert.ensures.entries)
    (All-keys-insert_entry key_cmp c.in_ok-to_vec.field-0 c.args.row_result (λ k. length k.items ≡ count) c.args.self.now.results.entries counted (ap length copied ∙ many))
