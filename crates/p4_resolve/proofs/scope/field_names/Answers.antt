use Rattle.std.proofs.Common.{length, map, take}
use Rattle.p4_texts.specs.Meant.{names_of}
use Rattle.p4_texts.specs.Written.{FieldText}
use Rattle.p4_texts.specs.TreeOf.{field_of}
use Rattle.p4_resolve.proofs.CountFacts.{room, taken_twice}
use Rattle.p4_resolve.proofs.scope.field_names.Goals as goal

pub add-requires : goal.add-requires
add-requires c =
    let fields = c.args.fields.now in
    let i = c.loop-field.field-index in
    record { room = room c.loop-field.names (names_of (map field_of (take i fields))) i (length fields) c.loop-field.invariant (taken_twice (λ (f : FieldText). f.name) field_of fields i c.loop-field-test.true) c.loop-field-test.true c.requires.few }
