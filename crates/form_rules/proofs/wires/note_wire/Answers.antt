use Rattle.std.proofs.Common.{subst, sym}
use Rattle.cocoon_syntax.specs.TreeOf.{stmt_of}
use Rattle.cocoon_types.specs.Noting.{Notes}
use Rattle.cocoon_types.specs.Rules.{not_wire}
use Rattle.cocoon_types.specs.Among.{among}
use Rattle.form_rules.specs.Tested.{wire_fails}
use Rattle.form_rules.proofs.StmtFacts.{wire-notes}
use Rattle.form_rules.proofs.wires.note_wire.Goals as goal

pub returns-in-Some : goal.returns-in-Some
returns-in-Some c = subst (λ o. Notes (among not_wire (wire_fails o (stmt_of c.args.stmt.now))) c.args.noted.now c.note_reads.new.noted) (sym c.in-Some.is)
    (wire-notes c.among_laws.ensures c.in-Some.wire c.args.stmt.now c.may_have.result c.may_have.ensures c.note_unless.ensures c.note_reads.ensures)
