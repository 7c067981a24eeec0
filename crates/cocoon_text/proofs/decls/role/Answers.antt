use Rattle.std.proofs.Common.{rules, arith, ◌≡◌, map, Err}
use Rattle.cocoon_num.specs.Tree.{a_role}
use Rattle.cocoon_syntax.specs.TreeOf.{decl_of, name_of, param_of}
use Rattle.cocoon_text.specs.Phrases.{head_of, duty_of}
use Rattle.cocoon_text.proofs.Eventually.{fails_as, moves_made}
use Rattle.cocoon_text.proofs.Heads.{role_agrees, role_fails}
use Rattle.cocoon_text.proofs.decls.role.Goals as goal

pub returns-in_err-name-clause-agrees : goal.returns-in_err-name-clause-agrees
returns-in_err-name-clause-agrees c =
    let e : c.from_residual.result ≡ Err c.in_err-name.field-0.0 = search rules in
    fails_as head_of decl_of c.in_err-name.field-0.0 e (λ k g. role_fails c.args.source.now c.args.pos k g) c.in_err-name.ensures.agrees

pub returns-clause-agrees : goal.returns-clause-agrees
returns-clause-agrees c = role_agrees c.args.source.now c.args.pos (c.in_ok-name.name, c.in_ok-name.params) _ _ c.in_ok-name.ensures.agrees c.duty.ensures.agrees c.role_node.ensures

pub returns-clause-moves : goal.returns-clause-moves
returns-clause-moves c = moves_made duty_of decl_of (λ d. a_role (record { name = name_of c.in_ok-name.name; params = map param_of c.in_ok-name.params.items; guard = d.guard; body = d.body })) c.args.pos _ _ _ _ (let h = c.in_ok-name.ensures.moves in omega (arith, h.0)) c.duty.ensures.moves c.role_node.ensures
