use Rattle.std.proofs.Common.{◌≡◌, drop, map}
use Rattle.refinement.specs.Trails.{field_choice}
use Rattle.role_meaning.specs.Views.{field_of}
use Rattle.role_meaning.proofs.trail.field_choice.Given as goal

abbrev pub invariant-loop-field : goal.invariant-loop-field
invariant-loop-field l = field_choice (map field_of (drop l.field-index l.fields)) l.header l.name ≡ field_choice (map field_of l.fields) l.header l.name
