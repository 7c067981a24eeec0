use Rattle.std.proofs.Common.{drop, map, Option}
use Rattle.cocoon_syntax.specs.TreeOf.{expr_of, exprs_of}
use Rattle.cocoon_types.specs.FirstFault.{Fault}
use Rattle.cocoon_types.specs.Noting.{Notes}
use Rattle.cocoon_types.specs.Rules.{not_wire}
use Rattle.cocoon_types.specs.Among.{among}
use Rattle.form_rules.specs.Stmts.{fields_of}
use Rattle.form_rules.proofs.exprs.+fields.Given as goal

abbrev pub invariant-note_fields_of-loop-expr : goal.invariant-note_fields_of-loop-expr
invariant-note_fields_of-loop-expr l = (last : Option Fault)
    → Notes (among not_wire (fields_of (exprs_of (map expr_of (drop l.expr-index l.exprs))))) l.noted last
    → Notes (among not_wire (fields_of (exprs_of (map expr_of l.exprs)))) l.fn.noted last
