use Rattle.std.proofs.Common.{◌≡◌, ◌==◌, length, rules, None, Bor, option_map, subst, sym, ap, ◌∙◌}
use Rattle.std.proofs.lemmas.List.{length-map}
use Rattle.cocoon_syntax.specs.TreeOf.{param_of, role_of}
use Rattle.cocoon_syntax.specs.declared.decl.Role.{Role}
use Rattle.cocoon_types.specs.Noting.{Notes}
use Rattle.cocoon_types.specs.Rules.{wrong_width}
use Rattle.cocoon_types.specs.TypeRules.{role_widths, wrong_args}
use Rattle.type_rules.specs.Tests.{fails_among}
use Rattle.type_rules.proofs.StmtTests.{send_notes}
use Rattle.type_rules.proofs.bodies.note_send.Goals as goal

pub returns-in-Some : goal.returns-in-Some
returns-in-Some c = λ s r es hc hf ha.
    let many : c.len.result ≡ length c.in-Some.role.now.params.items = search rules in
    let here = hf ∙ ap (option_map (λ (x : Bor Role). role_of x.now)) c.in-Some.is in
    send_notes c.noting_laws.ensures s c.args.ended c.args.at r es (role_of c.in-Some.role.now) here
    (λ i. (many ∙ sym (length-map c.in-Some.role.now.params.items param_of)) i == hc i)
    (subst (λ f. Notes (fails_among wrong_width (wrong_args s (role_widths f) es)) None c.args.args.now.wrong) here ha.wrong)
    c.note_if.ensures c.note_if-in-Some.ensures c.note_held_if.ensures
