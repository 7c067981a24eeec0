use Rattle.std.proofs.Common.{rules, ◌≡◌, map, Err}
use Rattle.cocoon_syntax.specs.TreeOf.{param_of}
use Rattle.parsing.specs.PlainParser.{closes, header_field_from}
use Rattle.cocoon_text.proofs.Eventually.{flat, at_once, fails_as, agrees_read, some_begin, some_fail, many_more, many_broken, many_stop, all_read}
use Rattle.cocoon_text.proofs.decls.fields.Goals as goal

pub returns-in_err-first-clause-agrees : goal.returns-in_err-first-clause-agrees
returns-in_err-first-clause-agrees c =
    let e : c.from_residual.result ≡ Err c.in_err-first.field-0.0 = search rules in
    fails_as param_of (λ v. map param_of v.items) c.in_err-first.field-0.0 e (λ i g. some_fail (λ m. header_field_from c.args.source.now) (closes c.args.source.now) c.args.pos g) (at_once c.in_err-first.ensures.agrees)

pub fields-init : goal.fields-init
fields-init c = record {
  forward = search rules;
  within = search rules;
  so_far = some_begin (λ m. header_field_from c.args.source.now) (closes c.args.source.now) param_of c.args.pos (flat (λ n. c.in_ok-first.ensures.agrees)) (search rules);
}

pub fields-preserved : goal.fields-preserved
fields-preserved c = record {
  forward = search rules;
  within = search rules;
  so_far = many_more (λ m. header_field_from c.args.source.now) (closes c.args.source.now) param_of c.fields.next c.fields.fields.items c.fields.invariant.so_far (search rules) (flat (λ n. c.in_ok-field.ensures.agrees)) (search rules);
}

pub returns-in_err-field-clause-agrees : goal.returns-in_err-field-clause-agrees
returns-in_err-field-clause-agrees c =
    let e : c.from_residual-in_err-field.result ≡ Err c.in_err-field.field-0.0 = search rules in
    fails_as param_of (λ v. map param_of v.items) c.in_err-field.field-0.0 e
    (many_broken (λ m. header_field_from c.args.source.now) (closes c.args.source.now) c.fields.next c.fields.invariant.so_far (search rules))
    (at_once c.in_err-field.ensures.agrees)

pub returns-clause-agrees : goal.returns-clause-agrees
returns-clause-agrees c = agrees_read (λ v. map param_of v.items) (all_read c.fields.invariant.so_far (many_stop (λ m. header_field_from c.args.source.now) (closes c.args.source.now) c.fields.next (search rules)))
