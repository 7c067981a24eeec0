use Rattle.std.proofs.Common.{◌≡◌, Bool, Bor, is_some, rules, subst, sym, ap, ◌∙◌}
use Rattle.cocoon_syntax.specs.TreeOf.{role_of}
use Rattle.cocoon_syntax.specs.declared.decl.Role.{Role}
use Rattle.cocoon_types.specs.Design.{role_at}
use Rattle.cocoon_types.specs.Noting.{Notes}
use Rattle.cocoon_types.specs.RuleParts.{unless}
use Rattle.cocoon_types.specs.Rules.{unknown_role}
use Rattle.cocoon_types.specs.Among.{among}
use Rattle.name_rules.proofs.NameTests.{some_mapped}
use Rattle.name_rules.proofs.stmts.note_role.Goals as goal

pub returns : goal.returns
returns c = λ s same same_level.
    let found : c.is_some.result ≡ is_some c.role_at-found.result = search rules in
    subst (λ (b : Bool). Notes (among unknown_role (unless b c.args.role.now.at)) c.args.noted.now c.note_unless.new.noted)
    (found ∙ some_mapped (λ (r : Bor Role). role_of r.now) c.role_at-found.result ∙ ap is_some c.role_at-found.ensures
    ∙ (λ i. is_some (role_at (sym same_level i) (sym same i) (c.bytes.ensures i)))) c.note_unless.ensures
