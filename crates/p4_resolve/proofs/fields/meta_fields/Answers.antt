use Rattle.std.proofs.Common.{◌≡◌, ◌∷◌, [], map, arith, rules, ap, ◌∙◌, Err}
use Rattle.std.proofs.lemmas.List.{map-append}
use Rattle.p4_ir.specs.Program as ir
use Rattle.p4_resolve.proofs.DeclarationFacts.{none_yet, one_more, one_breaks, all_pass, all_made}
use Rattle.p4_resolve.proofs.FieldForms.{of_meta}
use Rattle.p4_resolve.proofs.PieceFacts.{handed_on}
use Rattle.p4_resolve.proofs.fields.meta_fields.Goals as goal

pub loop-written-init : goal.loop-written-init
loop-written-init c = none_yet of_meta c.args.at c.args.fields.now c.new-before.result.keys (map ir.field_of c.new-made.result.items) c.new-before.ensures.empty (ap (map ir.field_of) c.new-made.ensures.items)

pub loop-written-preserved : goal.loop-written-preserved
loop-written-preserved c =
    let inv = c.loop-written.invariant in
    let made = map ir.field_of c.loop-written.made.items in
    let k = c.in_ok-field.ensures.keeps (map of_meta.name made) inv.seen in
    one_more of_meta c.args.at c.args.fields.now c.loop-written.before.keys c.meta_field.new.before.keys made (map ir.field_of c.push.new.self.items) c.loop-written.next c.in_ok-field.end c.loop-written.written-index c.written-item.result (ir.field_of c.in_ok-field.field)
    c.loop-written-test.true c.written-item.is inv k.is k.seen k.passes
    (ap (map ir.field_of) c.in_ok-push.ensures.items ∙ map-append ir.field_of c.loop-written.made.items (c.in_ok-field.field ∷ []))

pub returns-in_err-field-clause-stops : goal.returns-in_err-field-clause-stops
returns-in_err-field-clause-stops c =
    let inv = c.loop-written.invariant in
    let made = map ir.field_of c.loop-written.made.items in
    let e : c.from_residual.result ≡ Err c.in_err-field.field-0.0 = search rules in
    handed_on c.from_residual.result c.in_err-field.field-0.0 _ e
    (one_breaks of_meta c.args.at c.args.fields.now c.loop-written.before.keys made c.loop-written.next c.loop-written.written-index c.written-item.result c.in_err-field.field-0.0
    c.loop-written-test.true c.written-item.is inv (c.in_err-field.ensures.stops (map of_meta.name made) inv.seen))

pub returns-clause-fields : goal.returns-clause-fields
returns-clause-fields c = all_made of_meta c.args.at c.args.fields.now c.loop-written.before.keys (map ir.field_of c.loop-written.made.items) c.loop-written.next c.loop-written.written-index (omega arith) c.loop-written.invariant

pub returns-clause-passes : goal.returns-clause-passes
returns-clause-passes c = all_pass of_meta c.args.at c.args.fields.now c.loop-written.before.keys (map ir.field_of c.loop-written.made.items) c.loop-written.next c.loop-written.written-index (omega arith) c.loop-written.invariant
