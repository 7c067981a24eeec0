use Rattle.std.proofs.Common.{◌≡◌, Bool, is_none, rules, subst, ap, ◌∙◌}
use Rattle.cocoon_types.specs.Noting.{Notes}
use Rattle.cocoon_types.specs.RuleParts.{unless}
use Rattle.cocoon_types.specs.Rules.{twice}
use Rattle.cocoon_types.specs.Among.{among}
use Rattle.declarations.specs.Widths.{width_in}
use Rattle.name_rules.proofs.stmts.note_bound.Goals as goal

pub returns : goal.returns
returns c =
    let none : c.is_none.result ≡ is_none c.width-width.result = search rules in
    subst (λ (b : Bool). Notes (among twice (unless b c.args.name.now.at)) c.args.noted.now c.note_unless.new.noted)
    (none ∙ ap is_none (c.width-width.ensures ∙ ap (width_in c.args.vars.now) c.bytes.ensures)) c.note_unless.ensures
