use Rattle.std.proofs.Common.{◌≡◌, true, rules, subst}
use Rattle.cocoon_syntax.specs.TreeOf.{design_of}
use Rattle.bv_terms.specs.Arenas.{term_at}
use Rattle.query_laws.specs.Certified.{AllFit}
use Rattle.queries.specs.Asked.{IsQuery}
use Rattle.queries.proofs.Logs.{checked}
use Rattle.queries.proofs.checking.check_cert.Goals as goal

pub returns-in-Ok-clause-exact : goal.returns-in-Ok-clause-exact
returns-in-Ok-clause-exact c =
    let d = design_of c.args.checked.now in
    let formula = term_at c.args.terms.now c.args.formula in
    let cert = c.args.cert.now in
    let fit : AllFit d c.args.level cert.instances = subst (AllFit d c.args.level) c.items.ensures (c.all_fit.ensures.0 (search rules)) in
    let is : IsQuery d c.args.level formula cert.instances c.in_ok-own.own = subst (λ xs. IsQuery d c.args.level formula xs c.in_ok-own.own) c.items-2.ensures c.in_ok-own.ensures in
    checked d c.args.level formula cert c.in_ok-own.own is c.in-Ok.cnf c.in-Ok.ensures.clauses c.in-Ok.ensures.named fit c.in_ok-check_log-in-Ok.field-0 c.in_ok-check_log-in-Ok.ensures

pub returns-in-Ok-clause-holds : goal.returns-in-Ok-clause-holds
returns-in-Ok-clause-holds c = λ e.
    let d = design_of c.args.checked.now in
    let formula = term_at c.args.terms.now c.args.formula in
    let cert = c.args.cert.now in
    let fit : AllFit d c.args.level cert.instances = subst (AllFit d c.args.level) c.items.ensures (c.all_fit.ensures.0 (search rules)) in
    let is : IsQuery d c.args.level formula cert.instances c.in_ok-own.own = subst (λ xs. IsQuery d c.args.level formula xs c.in_ok-own.own) c.items-2.ensures c.in_ok-own.ensures in
    let exact = checked d c.args.level formula cert c.in_ok-own.own is c.in-Ok.cnf c.in-Ok.ensures.clauses c.in-Ok.ensures.named fit c.in_ok-check_log-in-Ok.field-0 c.in_ok-check_log-in-Ok.ensures in
    let yes : c.in_ok-check_log-in-Ok.field-0 ≡ true = cc in
    c.refuted_formulas_are_never_true.ensures.certified d c.design-design.ensures.resolves.rules (c.code_literals_fit.ensures.designs c.args.checked.now) c.args.level formula c.requires.stands cert is.asked_ (exact.0 yes)
