use Rattle.std.proofs.Common.{◌≤◌, length, rules}
use Rattle.role_meaning.proofs.Kept.{not_set, set_at}
use Rattle.role_meaning.proofs.trail.set_field.Goals as goal

pub returns-then-place-fields : goal.returns-then-place-fields
returns-then-place-fields c = set_at c.args.fields.now c.args.header.now c.args.name.now c.args.choice _ c.field_place-place.result c.field_place-place.ensures c.if-place-fields.true

pub returns-else-place-fields : goal.returns-else-place-fields
returns-else-place-fields c =
    let behind : length c.args.fields.now ≤ c.field_place-place.result = search rules in
    not_set c.args.fields.now c.args.header.now c.args.name.now c.args.choice c.field_place-place.result c.field_place-place.ensures behind
