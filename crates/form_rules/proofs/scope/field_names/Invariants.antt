use Rattle.std.proofs.Common.{◌≡◌, ◌++◌, drop, map}
use Rattle.cocoon_syntax.specs.TreeOf.{header_of}
use Rattle.form_rules.specs.Following.{names_in}
use Rattle.form_rules.proofs.scope.field_names.Given as goal

abbrev pub invariant-loop-header : goal.invariant-loop-header
invariant-loop-header l = l.fields.items ++ names_in (map header_of (drop l.header-index l.headers)) ≡ names_in (map header_of l.headers)
