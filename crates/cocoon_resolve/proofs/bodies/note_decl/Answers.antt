use Rattle.std.proofs.Common.{Some, sym, ap, ◌∙◌}
use Rattle.cocoon_syntax.specs.TreeOf.{decl_of, design_of, role_of}
use Rattle.cocoon_types.specs.Design.{as_role}
use Rattle.declarations.specs.Declares.{role_number}
use Rattle.cocoon_resolve.proofs.Rows.{is-no-role, is-none, no-role, no-number, one-role}
use Rattle.cocoon_resolve.proofs.bodies.note_decl.Goals as goal

pub returns-in_ok-put : goal.returns-in_ok-put
returns-in_ok-put c = λ before h. one-role (design_of c.args.design.now) before (decl_of c.args.decl.now) (role_of c.in-Role.role) c.in-Some.number c.args.row.now.items c.put.new.row.items
    (ap (λ x. as_role (decl_of x)) c.in-Role.is) (ap (role_number (design_of c.args.design.now)) (sym c.bytes.ensures) ∙ sym c.role_of.ensures ∙ c.in-Some.is)
    (c.in_ok-put.ensures.there ∙ ap Some c.in_ok-reads.ensures) c.in_ok-put.ensures.others h

pub returns-in_default-role_of : goal.returns-in_default-role_of
returns-in_default-role_of c = λ before h. no-number (design_of c.args.design.now) before (decl_of c.args.decl.now) (role_of c.in-Role.role) c.args.row.now.items
    (ap (λ x. as_role (decl_of x)) c.in-Role.is) (ap (role_number (design_of c.args.design.now)) (sym c.bytes.ensures) ∙ sym c.role_of.ensures ∙ is-none c.role_of.result c.in_default-role_of.not-Some) h

pub returns-in_default : goal.returns-in_default
returns-in_default c = λ before h. no-role (design_of c.args.design.now) before (decl_of c.args.decl.now) c.args.row.now.items (is-no-role c.args.decl.now c.in_default.not-Role) h
