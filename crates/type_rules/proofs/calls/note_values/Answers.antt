use Rattle.std.proofs.Common.{◌≡◌, ◌==◌, length, rules, Some, None, if◌then◌else◌, is_none, refl, sym, ◌∙◌}
use Rattle.std.proofs.lemmas.List.{length-map}
use Rattle.cocoon_syntax.specs.TreeOf.{function_of, name_of, param_of, result_of}
use Rattle.cocoon_types.specs.Typing.{result_sort}
use Rattle.type_rules.proofs.CallTests.{values_notes, values_sort}
use Rattle.type_rules.proofs.calls.note_values.Goals as goal

pub returns-clause-typed : goal.returns-clause-typed
returns-clause-typed c = λ s at es hc hf ha.
    let many : c.len.result ≡ length c.args.function.now.params.items = search rules in
    c.result_if.ensures
    ∙ (λ i. if c.fit.ensures i then Some (result_sort (result_of c.args.function.now.result)) else None)
    ∙ values_sort c.noting_laws.ensures s (name_of c.args.name.now) es (function_of c.args.function.now) c.args.args.now.typed (c.len.result == c.args.count) (is_none c.args.args.now.wrong) c.args.args.now.wrong
    hf ha.typed (λ i. (many ∙ sym (length-map c.args.function.now.params.items param_of)) i == hc i) refl ha.wrong

pub returns-clause-noted : goal.returns-clause-noted
returns-clause-noted c = λ s at es hc hf ha.
    let many : c.len.result ≡ length c.args.function.now.params.items = search rules in
    values_notes c.noting_laws.ensures at s (name_of c.args.name.now) es (function_of c.args.function.now) c.args.args.now.typed (c.len.result == c.args.count) c.args.args.now.wrong
    c.args.noted.now c.note_where.new.noted c.note_held_where.new.noted
    hf ha.typed (λ i. (many ∙ sym (length-map c.args.function.now.params.items param_of)) i == hc i) ha.wrong c.note_where.ensures c.note_held_where.ensures
