use Rattle.std.proofs.Common.{rules, ◌≡◌, true, false, codes, map, ◌∷◌, [], slice_get, refl, Err}
use Rattle.p4_texts.specs.Machine as machine
use Rattle.p4_texts.specs.TreeOf.{field_of}
use Rattle.p4_parse.specs.Fields.{field_phrase, field_tokens, fields_tokens}
use Rattle.p4_parse.specs.Phrases.{is_mark}
use Rattle.p4_parse.proofs.FieldPhrases.{all_fields, field_stopped, one_field_more}
use Rattle.p4_parse.proofs.Compose.{phrase_fails}
use Rattle.p4_parse.proofs.decls.fields.Goals as goal

pub fields-preserved : goal.fields-preserved
fields-preserved c =
    let m : is_mark (codes "}") (slice_get c.args.source.now c.fields.next) ≡ false = search rules in
    record { is = one_field_more c.args.source.now c.args.pos c.fields.next c.in_ok-field.after c.fields.fields.items _ c.in_ok-field.field (search rules) c.fields.invariant.is m c.in_ok-field.ensures }

pub returns-in_err-field : goal.returns-in_err-field
returns-in_err-field c =
    let m : is_mark (codes "}") (slice_get c.args.source.now c.fields.next) ≡ false = search rules in
    let e : c.from_residual.result ≡ Err c.in_err-field.field-0.0 = search rules in
    phrase_fails field_phrase (machine.fields ∷ []) field_tokens fields_tokens c.args.source.now c.args.pos c.fields.next _ c.in_err-field.field-0.0 e
    (λ i r. field_stopped c.args.source.now c.args.pos c.fields.next i (map field_of c.fields.fields.items) c.fields.invariant.is m r) c.in_err-field.ensures

pub returns : goal.returns
returns c =
    let m : is_mark (codes "}") (slice_get c.args.source.now c.fields.next) ≡ true = search rules in
    all_fields fields_tokens c.args.source.now c.args.pos c.fields.next c.fields.fields (map field_of c.fields.fields.items) c.fields.invariant.is m (λ ks. refl)
