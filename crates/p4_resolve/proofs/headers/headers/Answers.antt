use Rattle.std.proofs.Common.{◌≡◌, ◌∷◌, [], map, arith, rules, ap, ◌∙◌, Err}
use Rattle.std.proofs.lemmas.List.{map-append}
use Rattle.p4_ir.specs.Program as ir
use Rattle.p4_resolve.proofs.DeclarationFacts.{none_yet, one_more, one_breaks, all_pass, all_made}
use Rattle.p4_resolve.proofs.FieldForms.{of_texts}
use Rattle.p4_resolve.proofs.PieceFacts.{handed_on}
use Rattle.p4_resolve.proofs.headers.headers.Goals as goal

pub loop-written-init : goal.loop-written-init
loop-written-init c = none_yet of_texts c.args.at c.args.headers.now c.new-before.result.keys (map ir.header_of c.new-made.result.items) c.new-before.ensures.empty (ap (map ir.header_of) c.new-made.ensures.items)

pub loop-written-preserved : goal.loop-written-preserved
loop-written-preserved c =
    let inv = c.loop-written.invariant in
    let made = map ir.header_of c.loop-written.made.items in
    let k = c.in_ok-header.ensures.keeps (map of_texts.name made) inv.seen in
    one_more of_texts c.args.at c.args.headers.now c.loop-written.before.keys c.header.new.before.keys made (map ir.header_of c.push.new.self.items) c.loop-written.next c.in_ok-header.end c.loop-written.written-index c.written-item.result (ir.header_of c.in_ok-header.header)
    c.loop-written-test.true c.written-item.is inv k.is k.seen k.passes
    (ap (map ir.header_of) c.in_ok-push.ensures.items ∙ map-append ir.header_of c.loop-written.made.items (c.in_ok-header.header ∷ []))

pub returns-in_err-header-clause-stops : goal.returns-in_err-header-clause-stops
returns-in_err-header-clause-stops c =
    let inv = c.loop-written.invariant in
    let made = map ir.header_of c.loop-written.made.items in
    let e : c.from_residual.result ≡ Err c.in_err-header.field-0.0 = search rules in
    handed_on c.from_residual.result c.in_err-header.field-0.0 _ e
    (one_breaks of_texts c.args.at c.args.headers.now c.loop-written.before.keys made c.loop-written.next c.loop-written.written-index c.written-item.result c.in_err-header.field-0.0
    c.loop-written-test.true c.written-item.is inv (c.in_err-header.ensures.stops (map of_texts.name made) inv.seen))

pub returns-clause-headers : goal.returns-clause-headers
returns-clause-headers c = all_made of_texts c.args.at c.args.headers.now c.loop-written.before.keys (map ir.header_of c.loop-written.made.items) c.loop-written.next c.loop-written.written-index (omega arith) c.loop-written.invariant

pub returns-clause-passes : goal.returns-clause-passes
returns-clause-passes c = all_pass of_texts c.args.at c.args.headers.now c.loop-written.before.keys (map ir.header_of c.loop-written.made.items) c.loop-written.next c.loop-written.written-index (omega arith) c.loop-written.invariant
