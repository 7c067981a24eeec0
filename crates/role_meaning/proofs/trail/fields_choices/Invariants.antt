use Rattle.std.proofs.Common.{◌≡◌, take, map}
use Rattle.refinement.specs.Trails.{FieldMark}
use Rattle.role_meaning.specs.Views.{field_of}
use Rattle.role_meaning.proofs.trail.fields_choices.Given as goal

abbrev pub invariant-loop-field : goal.invariant-loop-field
invariant-loop-field l = l.choices.items ≡ map (λ (f : FieldMark). f.choice) (map field_of (take l.field-index l.fields))
