use Rattle.std.proofs.Common.{◌≡◌, ◌++◌, map, drop, option_map}
use Rattle.serde_json.specs.View.{items_view}
use Rattle.json_forms.specs.Forms.{all_form}
use Rattle.json_forms.proofs.from_json.all.Given as goal

abbrev pub invariant-loop-value : goal.invariant-loop-value
invariant-loop-value g l = option_map (λ xs. map g.T.FromJson.meaning l.items.items ++ xs) (all_form g.T.FromJson.form (items_view (drop l.value-index l.values))) ≡ all_form g.T.FromJson.form (items_view l.values)
