use Rattle.std.proofs.Common.{◌∷◌, ◌++◌, [], map, subst, sym, ap, ◌∙◌, append-nil}
use Rattle.std.specs.Prelude.{option_map}
use Rattle.cocoon_num.specs.Tree.{Name}
use Rattle.cocoon_syntax.specs.TreeOf.{decl_of, role_of}
use Rattle.name_rules.specs.Among.{Seen}
use Rattle.name_rules.proofs.ListedFacts.{one-role, no-role, put-name}
use Rattle.declarations.specs.NameNumbers.{Numbers}
use Rattle.name_rules.proofs.listed.put_role.Goals as goal

pub returns-in_ok-append-in-Some : goal.returns-in_ok-append-in-Some
returns-in_ok-append-in-Some c =
    let found = sym c.role_in.ensures ∙ ap (option_map (λ r. role_of r.now)) c.in-Some.is in
    λ names h. subst (λ l. Seen c.append.new.self (names ++ l)) (sym (one-role (decl_of c.args.decl.now) (role_of c.in-Some.role.now) found))
    (put-name c.append.new.self names (role_of c.in-Some.role.now).name (subst (λ x. Numbers c.append.new.self (map (λ (n : Name). n.text) names ++ x ∷ [])) c.bytes.ensures (c.in_ok-append-in-Some.ensures (map (λ (n : Name). n.text) names) h)))

pub returns-in-None : goal.returns-in-None
returns-in-None c =
    let found = sym c.role_in.ensures ∙ ap (option_map (λ r. role_of r.now)) c.in-None.is in
    λ names h. subst (λ l. Seen c.args.table.now (names ++ l)) (sym (no-role (decl_of c.args.decl.now) found)) (subst (Seen c.args.table.now) (sym (append-nil names)) h)
