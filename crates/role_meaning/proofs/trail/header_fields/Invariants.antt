use Rattle.std.proofs.Common.{◌≡◌, ◌++◌, drop, map}
use Rattle.cocoon_syntax.specs.TreeOf.{header_of}
use Rattle.role_meaning.specs.Views.{field_of}
use Rattle.refinement.specs.Trails.{first_marks}
use Rattle.role_meaning.proofs.trail.header_fields.Given as goal

abbrev pub invariant-loop-header : goal.invariant-loop-header
invariant-loop-header l = map field_of l.fields.items ++ (first_marks (map header_of (drop l.header-index l.headers))).fields ≡ (first_marks (map header_of l.headers)).fields
