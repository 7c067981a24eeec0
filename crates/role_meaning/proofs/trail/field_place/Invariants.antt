use Rattle.std.proofs.Common.{◌≡◌, drop, map}
use Rattle.role_meaning.specs.Views.{field_of, place_of}
use Rattle.role_meaning.proofs.trail.field_place.Given as goal

abbrev pub invariant-loop-field : goal.invariant-loop-field
invariant-loop-field l =
    (l.place ≡ l.field-index)
    × (place_of l.place (map field_of (drop l.field-index l.fields)) l.header l.name ≡ place_of 0 (map field_of l.fields) l.header l.name)
