use Rattle.std.proofs.Common.{◌<◌, ◌^◌, length, map, subst, sym, arith}
use Rattle.std.proofs.lemmas.List.{length-map}
use Rattle.p4_texts.specs.Meant.{names_of}
use Rattle.p4_texts.specs.TreeOf.{field_of}
use Rattle.numbering.specs.NameNumbers.{Numbers}
use Rattle.p4_resolve.proofs.CountFacts.{few_at}
use Rattle.p4_resolve.proofs.ScopeFacts.{each_taken}
use Rattle.p4_resolve.proofs.scope.names_of_headers.Goals as goal

pub loop-header-preserved : goal.loop-header-preserved
loop-header-preserved c =
    each_taken c.loop-header.names.items c.push.new.self.items c.args.headers.now c.loop-header.header-index c.header-item.result c.in_ok-field_names.field-0 c.loop-header-test.true c.header-item.is c.in_ok-push.ensures.items c.loop-header.invariant
    (subst (λ fs. Numbers c.in_ok-field_names.field-0 (names_of (map field_of fs))) c.items.ensures c.in_ok-field_names.ensures)

pub field_names-requires : goal.field_names-requires
field_names-requires c =
    let own = few_at c.args.headers.now c.loop-header.header-index c.header-item.result c.loop-header-test.true c.header-item.is c.requires.few in
    let here = subst (λ fs. length (map field_of fs) < 2 ^ 32) (sym c.items.ensures) own in
    omega (arith, here, length-map c.items.result.now field_of)
