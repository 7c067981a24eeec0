use Rattle.std.proofs.Common.{◌++◌, subst, ◌∙◌, sym, ap, append-nil}
use Rattle.std.specs.Prelude.{option_map}
use Rattle.cocoon_syntax.specs.TreeOf.{decl_of, role_of}
use Rattle.cocoon_types.specs.Noting.{Notes}
use Rattle.cocoon_types.specs.Rules.{twice}
use Rattle.cocoon_types.specs.Among.{among}
use Rattle.name_rules.specs.Among.{Seen, declared_again}
use Rattle.name_rules.proofs.ListedFacts.{one-role, no-role}
use Rattle.name_rules.proofs.redeclared.note_decl.Goals as goal

pub returns-in_ok-note_role-in-Some : goal.returns-in_ok-note_role-in-Some
returns-in_ok-note_role-in-Some c =
    let found = sym c.role_in.ensures ∙ ap (option_map (λ r. role_of r.now)) c.in-Some.is in
    let one = one-role (decl_of c.args.decl.now) (role_of c.in-Some.role.now) found in
    record {
      kept = λ names h. subst (λ l. Seen c.note_role.new.seen (names ++ l)) (sym one) (c.in_ok-note_role-in-Some.ensures.kept names h);
      notes = λ names h. subst (λ l. Notes (among twice (declared_again (λ r. c.args.may) names l)) c.args.noted.now c.note_role.new.noted) (sym one) (c.in_ok-note_role-in-Some.ensures.notes names h);
    }

pub returns-in-None : goal.returns-in-None
returns-in-None c =
    let found = sym c.role_in.ensures ∙ ap (option_map (λ r. role_of r.now)) c.in-None.is in
    let none = no-role (decl_of c.args.decl.now) found in
    record {
      kept = λ names h. subst (λ l. Seen c.args.seen.now (names ++ l)) (sym none) (subst (Seen c.args.seen.now) (sym (append-nil names)) h);
      notes = λ names h. subst (λ l. Notes (among twice (declared_again (λ r. c.args.may) names l)) c.args.noted.now c.args.noted.now) (sym none) (c.among_laws.ensures.none twice c.args.noted.now);
    }
