use Rattle.std.proofs.Common.{◌≡◌, Some, None, sym, ap, ◌∙◌}
use Rattle.std.proofs.lemmas.Result.{IfOk-weaker}
use Rattle.bv_terms.specs.TermTrees as term
use Rattle.bv_terms.specs.TermTrees.{width}
use Rattle.obligation_gen.specs.Sent.{fields_of, sent_at, values_of}
use Rattle.obligation_gen.proofs.InputTerms.{own_term}
use Rattle.obligation_gen.proofs.ReadBack.{field_back, fields_made, none_back, sent_there, value_back, values_made}
use Rattle.obligation_gen.proofs.standing.read_back.Goals as goal

pub returns-in-Some-clause-made : goal.returns-in-Some-clause-made
returns-in-Some-clause-made c = λ d i o e n h s t.
    let a = c.args.terms.now in
    let arena = c.count-count.ensures.arena in
    let own = own_term a arena i c.args.choice c.input_term-own.result n h c.input_term-own.ensures in
    let found : sent_at c.input_term-own.result (values_of c.args.old.now) (values_of c.args.end.now) ≡ Some c.in-Some.value =
    (λ j. sent_at c.input_term-own.result (sym c.values.ensures j) (sym c.values-2.ensures j)) ∙ sym c.in-Some.ensures in
    record {
      there = sent_there a c.input_term-own.result (values_of c.args.old.now) (values_of c.args.end.now) c.in-Some.value (values_made d a c.args.end.now e t).there found;
      term = sym (value_back a arena i c.input_term-own.result own.0 own.1 d c.args.old.now c.args.end.now o e s t c.in-Some.value found);
    }

pub returns-in-Some-sent_at-clause-made : goal.returns-in-Some-sent_at-clause-made
returns-in-Some-sent_at-clause-made c = λ d i o e n h s t.
    let a = c.args.terms.now in
    let arena = c.count-count.ensures.arena in
    let own = own_term a arena i c.args.choice c.input_term-own.result n h c.input_term-own.ensures in
    let none : sent_at c.input_term-own.result (values_of c.args.old.now) (values_of c.args.end.now) ≡ None =
    (λ j. sent_at c.input_term-own.result (sym c.values.ensures j) (sym c.values-2.ensures j)) ∙ sym c.in-None.ensures in
    let found : sent_at c.input_term-own.result (fields_of c.args.old.now) (fields_of c.args.end.now) ≡ Some c.in-Some-sent_at.field =
    (λ j. sent_at c.input_term-own.result (sym c.fields.ensures j) (sym c.fields-in-None.ensures j)) ∙ sym c.in-Some-sent_at.ensures in
    record {
      there = sent_there a c.input_term-own.result (fields_of c.args.old.now) (fields_of c.args.end.now) c.in-Some-sent_at.field (fields_made d a c.args.end.now e t).there found;
      term = sym (field_back a arena i c.input_term-own.result own.0 own.1 d c.args.old.now c.args.end.now o e s t c.in-Some-sent_at.field none found);
    }

pub returns-in-None-sent_at-clause-made : goal.returns-in-None-sent_at-clause-made
returns-in-None-sent_at-clause-made c = λ d i o e n h s t.
    let a = c.args.terms.now in
    let arena = c.count-count.ensures.arena in
    let own = own_term a arena i c.args.choice c.input_term-own.result n h c.input_term-own.ensures in
    let values : sent_at c.input_term-own.result (values_of c.args.old.now) (values_of c.args.end.now) ≡ None =
    (λ j. sent_at c.input_term-own.result (sym c.values.ensures j) (sym c.values-2.ensures j)) ∙ sym c.in-None.ensures in
    let fields : sent_at c.input_term-own.result (fields_of c.args.old.now) (fields_of c.args.end.now) ≡ None =
    (λ j. sent_at c.input_term-own.result (sym c.fields.ensures j) (sym c.fields-in-None.ensures j)) ∙ sym c.in-None-sent_at.ensures in
    let wide : c.width.result ≡ i.width = c.width.ensures ∙ ap width own.1 in
    IfOk-weaker c.constant.result _ _
    (λ id p. record {
      there = p.there;
      term = p.term ∙ (λ j. term.constant ((c.new.ensures.width ∙ wide) j) (c.new.ensures.value j))
          ∙ sym (none_back a arena i c.input_term-own.result own.0 own.1 d c.args.old.now c.args.end.now o e s t values fields);
    }) c.constant.ensures.put
