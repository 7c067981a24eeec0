use Rattle.std.proofs.Common.{map}
use Rattle.cocoon_syntax.specs.TreeOf.{decl_of, role_of}
use Rattle.cocoon_types.specs.Design.{as_role}
use Rattle.form_rules.proofs.Joined.{pushed}
use Rattle.form_rules.proofs.declared.push_roles.Goals as goal

pub loop-decl-preserved : goal.loop-decl-preserved
loop-decl-preserved c =
    pushed as_role decl_of c.args.decls.now c.loop-decl.decl-index c.decl-item.result
    (map (λ r. role_of r.now) c.args.roles.now.items) (map (λ r. role_of r.now) c.loop-decl.roles.items) (map (λ r. role_of r.now) c.push_role.new.roles.items)
    c.loop-decl-test.true c.decl-item.is c.loop-decl.invariant c.in_ok-push_role.ensures
