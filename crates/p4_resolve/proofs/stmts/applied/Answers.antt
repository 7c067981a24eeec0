use Rattle.std.proofs.Common.{◌≡◌, None, MatchOption, subst, sym, rules, false, true}
use Rattle.p4_texts.specs.KindFaults.{stmt_keeps}
use Rattle.p4_texts.specs.Meant.{number_in}
use Rattle.p4_texts.specs.Written.{w_apply}
use Rattle.p4_resolve.specs.Numbered.{small}
use Rattle.p4_resolve.proofs.NumberFacts.{not_small}
use Rattle.p4_resolve.proofs.StmtFacts.{too_large}
use Rattle.p4_resolve.proofs.stmts.applied.Goals as goal

pub returns-in_err-number : goal.returns-in_err-number
returns-in_err-number c = λ t d k.
    let x = c.args.name.now in
    let none : c.from_residual.result ≡ None = search rules in
    let large : None ≡ small (number_in x) = c.in_err-number.ensures 116 (sym c.if-not-is_numbered.ensures) in
    subst (λ r. MatchOption r (stmt_keeps t d (w_apply x) ≡ false) (λ number. (stmt_keeps t d (w_apply x) ≡ true) × (number ≡ number_in x))) (sym none)
    (too_large t d x k.small (not_small (number_in x) large))
