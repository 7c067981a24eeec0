use Rattle.std.proofs.Common.{◌&&◌, not, subst, sym, ap, ◌∙◌, append-nil}
use Rattle.cocoon_syntax.specs.TreeOf.{name_of}
use Rattle.cocoon_types.specs.Noting.{Notes}
use Rattle.cocoon_types.specs.Rules.{twice}
use Rattle.cocoon_types.specs.RuleParts.{unless, unless_named, has_name}
use Rattle.cocoon_types.specs.Among.{among}
use Rattle.name_rules.proofs.AgainFacts.{none-found}
use Rattle.name_rules.proofs.redeclared.note_role.Goals as goal

pub returns-in_err-append-clause-notes : goal.returns-in_err-append-clause-notes
returns-in_err-append-clause-notes c = λ names h. subst (λ l. Notes (among twice l) c.args.noted.now c.note_unless.new.noted) (sym (append-nil (unless_named (not (has_name c.args.role.now.text names) && c.args.may) (name_of c.args.role.now))))
    (subst (λ b. Notes (among twice (unless b c.args.role.now.at)) c.args.noted.now c.note_unless.new.noted)
    (c.both_hold.ensures ∙ ap (λ b. b && c.args.may) (none-found c.args.seen.now names c.args.role.now.text c.bytes.result.now c.number.result c.is_none-first.result h c.is_none-first.ensures c.number.ensures c.bytes.ensures)) c.note_unless.ensures)

pub returns-clause-notes : goal.returns-clause-notes
returns-clause-notes c = λ names h. subst (λ l. Notes (among twice l) c.args.noted.now c.note_unless.new.noted) (sym (append-nil (unless_named (not (has_name c.args.role.now.text names) && c.args.may) (name_of c.args.role.now))))
    (subst (λ b. Notes (among twice (unless b c.args.role.now.at)) c.args.noted.now c.note_unless.new.noted)
    (c.both_hold.ensures ∙ ap (λ b. b && c.args.may) (none-found c.args.seen.now names c.args.role.now.text c.bytes.result.now c.number.result c.is_none-first.result h c.is_none-first.ensures c.number.ensures c.bytes.ensures)) c.note_unless.ensures)
