use Rattle.std.proofs.Common.{Bool, map, drop, Option}
use Rattle.cocoon_syntax.specs.TreeOf.{design_of, expr_of}
use Rattle.cocoon_types.specs.FirstFault.{Fault}
use Rattle.cocoon_types.specs.Noting.{Notes}
use Rattle.name_rules.specs.Tests.{in_exprs, scope_at}
use Rattle.name_rules.proofs.exprs.+note.Given as goal

abbrev pub invariant-note_args-loop-arg : goal.invariant-note_args-loop-arg
invariant-note_args-loop-arg l = (packet : Bool) (last : Option Fault)
    → Notes (in_exprs (scope_at (design_of l.design) l.point l.vars packet) (map expr_of (drop l.arg-index l.args))) l.noted last
    → Notes (in_exprs (scope_at (design_of l.design) l.point l.vars packet) (map expr_of l.args)) l.fn.noted last
