use Rattle.std.proofs.Common.{sym, ap, ◌∙◌}
use Rattle.std.specs.Prelude.{option_map}
use Rattle.cocoon_syntax.specs.TreeOf.{design_of, role_of}
use Rattle.name_rules.proofs.RedeclaredFacts.{stands-role, no-stand}
use Rattle.name_rules.proofs.redeclared.decl_may_stand.Goals as goal

pub returns-in-Some : goal.returns-in-Some
returns-in-Some c = λ list role h e. c.role_may_stand.ensures list h ∙ stands-role (design_of c.args.design.now) c.args.above list (role_of c.in-Some.role.now) role (sym c.role_in.ensures ∙ ap (option_map (λ r. role_of r.now)) c.in-Some.is) e

pub returns-in-None : goal.returns-in-None
returns-in-None c = λ list role h e. no-stand role (sym c.role_in.ensures ∙ ap (option_map (λ r. role_of r.now)) c.in-None.is) e
