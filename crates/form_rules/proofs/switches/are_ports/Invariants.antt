use Rattle.std.proofs.Common.{◌≡◌, ◌==◌, map, drop}
use Rattle.std.specs.List.{list_all}
use Rattle.cocoon_syntax.specs.TreeOf.{param_of}
use Rattle.cocoon_types.specs.Design.{widths_of}
use Rattle.form_rules.proofs.switches.are_ports.Given as goal

abbrev pub invariant-loop-param : goal.invariant-loop-param
invariant-loop-param l = list_all (λ w. w == 16) (widths_of (map param_of (drop l.param-index l.params))) ≡ list_all (λ w. w == 16) (widths_of (map param_of l.params))
