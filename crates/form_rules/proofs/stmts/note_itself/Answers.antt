use Rattle.cocoon_syntax.specs.TreeOf.{stmt_of}
use Rattle.form_rules.proofs.StmtFacts.{itself}
use Rattle.form_rules.proofs.stmts.note_itself.Goals as goal

pub returns : goal.returns
returns c = itself c.noting_laws.ensures c.args.asked.now (stmt_of c.args.stmt.now) c.note_choice.ensures c.note_wire.ensures c.note_send.ensures
