use Rattle.std.proofs.Common.{◌≡◌, ◌++◌, drop, map}
use Rattle.form_rules.specs.declared.scope.FieldName.{FieldName}
use Rattle.form_rules.specs.Following.{nothing}
use Rattle.form_rules.proofs.state.nothing_each.Given as goal

abbrev pub invariant-loop-name : goal.invariant-loop-name
invariant-loop-name l = l.held.items ++ map (λ (y : FieldName). nothing) (drop l._name-index l.names) ≡ map (λ (y : FieldName). nothing) l.names
