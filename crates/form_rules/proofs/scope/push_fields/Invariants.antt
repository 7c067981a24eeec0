use Rattle.std.proofs.Common.{◌≡◌, ◌++◌, drop, map}
use Rattle.cocoon_num.specs.Tree.{Param}
use Rattle.cocoon_syntax.specs.TreeOf.{header_of, param_of}
use Rattle.form_rules.specs.declared.scope.FieldName.{FieldName}
use Rattle.form_rules.specs.Following.{names_of_header}
use Rattle.form_rules.proofs.scope.push_fields.Given as goal

abbrev pub invariant-loop-field : goal.invariant-loop-field
invariant-loop-field l =
    let named : Param → FieldName = λ f. record { header = l.header.name.text; field = f.name.text } in
    l.fields.items ++ map named (map param_of (drop l.field-index l.field-items)) ≡ l.fn.fields.items ++ names_of_header (header_of l.header)
