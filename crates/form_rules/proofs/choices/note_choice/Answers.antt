use Rattle.std.proofs.Common.{not, ap}
use Rattle.cocoon_syntax.specs.TreeOf.{stmt_of}
use Rattle.cocoon_types.specs.FormRules.{is_choice}
use Rattle.cocoon_types.specs.RuleParts.{stmt_at}
use Rattle.cocoon_types.specs.Rules.{last_choice}
use Rattle.form_rules.proofs.StmtFacts.{moved, stands-at}
use Rattle.form_rules.proofs.choices.note_choice.Goals as goal

pub returns : goal.returns
returns c = moved last_choice (not c.is_choice.result) (not (is_choice (stmt_of c.args.stmt.now))) c.args.stmt.now.at (stmt_at (stmt_of c.args.stmt.now)) (ap not c.is_choice.ensures) (stands-at c.args.stmt.now) c.note_unless.ensures
