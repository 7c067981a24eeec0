use Rattle.std.proofs.Common.{map, drop, Option}
use Rattle.cocoon_syntax.specs.TreeOf.{param_of}
use Rattle.cocoon_types.specs.FirstFault.{Fault}
use Rattle.cocoon_types.specs.Noting.{Notes}
use Rattle.cocoon_types.specs.Rules.{too_wide}
use Rattle.cocoon_types.specs.TypeRules.{wide_params}
use Rattle.type_rules.specs.Tests.{fails_among}
use Rattle.type_rules.proofs.decls.note_widths.Given as goal

abbrev pub invariant-loop-param : goal.invariant-loop-param
invariant-loop-param l = (last : Option Fault) → Notes (fails_among too_wide (wide_params (map param_of (drop l.param-index l.params)))) l.noted last
    → Notes (fails_among too_wide (wide_params (map param_of l.params))) l.fn.noted last
