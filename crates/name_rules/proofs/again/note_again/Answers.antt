use Rattle.std.proofs.Common.{subst}
use Rattle.cocoon_types.specs.Noting.{Notes}
use Rattle.cocoon_types.specs.RuleNames.{rule_of}
use Rattle.cocoon_types.specs.RuleParts.{unless}
use Rattle.cocoon_types.specs.Among.{among}
use Rattle.name_rules.proofs.AgainFacts.{none-found}
use Rattle.name_rules.proofs.again.note_again.Goals as goal

pub returns-in_err-append-clause-notes : goal.returns-in_err-append-clause-notes
returns-in_err-append-clause-notes c = λ names h. subst (λ b. Notes (among (rule_of c.args.rule) (unless b c.args.name.now.at)) c.args.noted.now c.note_unless.new.noted) (none-found c.args.table.now names c.args.name.now.text c.bytes.result.now c.number.result c.is_none.result h c.is_none.ensures c.number.ensures c.bytes.ensures) c.note_unless.ensures

pub returns-clause-notes : goal.returns-clause-notes
returns-clause-notes c = λ names h. subst (λ b. Notes (among (rule_of c.args.rule) (unless b c.args.name.now.at)) c.args.noted.now c.note_unless.new.noted) (none-found c.args.table.now names c.args.name.now.text c.bytes.result.now c.number.result c.is_none.result h c.is_none.ensures c.number.ensures c.bytes.ensures) c.note_unless.ensures
