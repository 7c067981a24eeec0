use Rattle.std.proofs.Common.{ℕ, ◌%◌, ◌^◌, map, ap, ◌∙◌}
use Rattle.bv_terms.specs.Values.{values_of}
use Rattle.failure_reading.proofs.Read.{made_of}
use Rattle.failure_reading.proofs.beginning.begin_of.Goals as goal

pub returns-clause-is : goal.returns-clause-is
returns-clause-is c =
    let values = values_of c.args.values.now.inputs.now c.args.values.now.values.now in
    let low : ℕ → ℕ = λ i. values i % 2 ^ 64 in
    made_of values c.args.obligation.now c.from.result c.from-2.result c.from-3.result
    (c.from.ensures ∙ c.in_ok-args.ensures ∙ ap (map low) c.items.ensures)
    (c.from-2.ensures ∙ c.in_ok-fields.ensures ∙ ap (map low) c.items-2.ensures)
    (c.from-3.ensures ∙ c.in_ok-choices.ensures ∙ ap (map low) c.choices.ensures)
