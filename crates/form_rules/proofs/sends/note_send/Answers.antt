use Rattle.std.proofs.Common.{subst, sym}
use Rattle.cocoon_syntax.specs.TreeOf.{stmt_of}
use Rattle.cocoon_types.specs.Noting.{Notes}
use Rattle.cocoon_types.specs.Rules.{not_switch_form}
use Rattle.cocoon_types.specs.Among.{among}
use Rattle.form_rules.specs.Tested.{send_fails}
use Rattle.form_rules.proofs.StmtFacts.{send-notes}
use Rattle.form_rules.proofs.sends.note_send.Goals as goal

pub returns-in-Some : goal.returns-in-Some
returns-in-Some c = subst (λ o. Notes (among not_switch_form (send_fails o (stmt_of c.args.stmt.now))) c.args.noted.now c.note_unless.new.noted) (sym c.in-Some.is)
    (send-notes c.in-Some.sender c.args.stmt.now c.sends_own.result c.sends_own.ensures c.note_unless.ensures)
