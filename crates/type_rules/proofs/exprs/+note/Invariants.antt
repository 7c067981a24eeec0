use Rattle.std.proofs.Common.{map, take}
use Rattle.cocoon_syntax.specs.TreeOf.{design_of, expr_of, exprs_of, param_of}
use Rattle.cocoon_types.specs.Design.{widths_of}
use Rattle.cocoon_types.specs.Noting.{Notes}
use Rattle.type_rules.specs.Tests.{in_exprs}
use Rattle.type_rules.specs.Typed.{AreArgs, Around, scope_of}
use Rattle.type_rules.proofs.exprs.+note.Given as goal

abbrev pub invariant-note_args-loop-index : goal.invariant-note_args-loop-index
invariant-note_args-loop-index l = record {
  args : (w : Around) → AreArgs l.found (scope_of w (design_of l.design) l.vars l.packet) (widths_of (map param_of l.params)) (exprs_of (map expr_of (take l.index l.args)));
  noted : (w : Around) → Notes (in_exprs (scope_of w (design_of l.design) l.vars l.packet) (map expr_of (take l.index l.args))) l.fn.noted l.noted;
}
