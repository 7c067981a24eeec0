use Rattle.std.proofs.Common.{◌≡◌, ◌+◌, drop, option_map}
use Rattle.form_rules.specs.Following.{first_field}
use Rattle.form_rules.proofs.scope.first_field.Given as goal

abbrev pub invariant-loop-i : goal.invariant-loop-i
invariant-loop-i l = option_map (λ k. l.i + k) (first_field (drop l.i l.fields) l.header l.field) ≡ first_field l.fields l.header l.field
