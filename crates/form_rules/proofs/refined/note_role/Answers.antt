use Rattle.std.proofs.Common.{◌&&◌, ◌∙◌, [], Some, None, ap, subst}
use Rattle.cocoon_num.specs.Tree.{Design, Role}
use Rattle.cocoon_syntax.specs.TreeOf.{design_of, role_of}
use Rattle.cocoon_types.specs.Design.{role_at}
use Rattle.cocoon_types.specs.Noting.{Notes}
use Rattle.cocoon_types.specs.RuleParts.{unless_named}
use Rattle.cocoon_types.specs.Rules.{header_changed}
use Rattle.cocoon_types.specs.SameTrees.{same_expr, same_params}
use Rattle.cocoon_types.specs.Among.{among}
use Rattle.form_rules.proofs.Joined.{noted-as}
use Rattle.form_rules.proofs.refined.note_role.Goals as goal

pub returns-in-Some : goal.returns-in-Some
returns-in-Some c =
    let d : Design = design_of c.args.design.now in
    let r : Role = role_of c.args.role.now in
    subst (λ o. Notes (among header_changed (elim o [ None ↦ [] | Some old ↦ unless_named (same_params old.params r.params && same_expr old.guard r.guard) r.name ])) c.args.noted.now c.note_unless.new.noted)
    (c.in-Some.ensures ∙ ap (role_at c.args.above d) c.bytes.ensures)
    (noted-as header_changed r.name.at c.args.noted.now c.note_unless.new.noted c.same_header-same.ensures c.note_unless.ensures)
