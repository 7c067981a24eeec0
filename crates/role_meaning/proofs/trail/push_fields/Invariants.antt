use Rattle.std.proofs.Common.{◌≡◌, ◌++◌, drop, map, None}
use Rattle.cocoon_num.specs.Tree.{Param}
use Rattle.cocoon_syntax.specs.TreeOf.{header_of, param_of}
use Rattle.refinement.specs.Trails.{FieldMark, header_marks}
use Rattle.role_meaning.specs.Views.{field_of}
use Rattle.role_meaning.proofs.trail.push_fields.Given as goal

abbrev pub invariant-loop-field : goal.invariant-loop-field
invariant-loop-field l =
    let named : Param → FieldMark = λ f. record { header = l.header.name.text; field = f.name.text; choice = None } in
    map field_of l.fields.items ++ map named (map param_of (drop l.field-index l.field-items)) ≡ map field_of l.fn.fields.items ++ header_marks (header_of l.header)
