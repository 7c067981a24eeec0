use Rattle.std.proofs.Common.{◌≡◌, ◌++◌, map, take}
use Rattle.cocoon_syntax.specs.TreeOf.{param_of}
use Rattle.cocoon_types.specs.Design.{widths_of}
use Rattle.cocoon_resolve.proofs.layout.append_fields.Given as goal

abbrev pub invariant-loop-field : goal.invariant-loop-field
invariant-loop-field l = l.widths.items ≡ l.fn.widths.items ++ widths_of (map param_of (take l.field-index l.fields))
