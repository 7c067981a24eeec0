use Rattle.std.proofs.Common.{◌≡◌, true, length, map, option_map, Bor, refl, sym, ap, ◌∙◌}
use Rattle.cocoon_syntax.specs.TreeOf.{design_of, expr_of, exprs_of, name_of, role_of}
use Rattle.cocoon_syntax.specs.declared.decl.Role.{Role}
use Rattle.cocoon_types.specs.TypeRules.{first_role}
use Rattle.type_rules.specs.Typed.{scope_of}
use Rattle.type_rules.proofs.CallTests.{counted}
use Rattle.type_rules.proofs.StmtTests.{sent}
use Rattle.type_rules.proofs.StmtParts.{send_in}
use Rattle.type_rules.proofs.plain.note_send_and_values.Goals as goal

pub returns : goal.returns
returns c = λ w.
    let d = design_of c.args.design.now in
    let s = scope_of w d c.args.vars.now true in
    let r = name_of c.args.role.now in
    let es = map expr_of c.args.args.now in
    let known : first_role d r.text ≡ option_map (λ (x : Bor Role). role_of x.now) c.first_role-found.result = ap (first_role d) (sym c.bytes.ensures) ∙ sym c.first_role-found.ensures in
    send_in c.noting_laws.ensures s c.args.ended c.args.at r es (c.note_args-values.ensures.noted w)
    (c.note_send.ensures s r (exprs_of es) (counted (length c.args.args.now) c.args.args.now refl) known
    (sent r known c.role_parameters-params.ensures refl (c.note_args-values.ensures.args w)))
