use Rattle.std.proofs.Common.{◌≡◌, List, rules, subst, sym}
use Rattle.cnf_core.specs.declared.certificates.Cert.{Cert}
use Rattle.cocoon_syntax.specs.TreeOf.{design_of}
use Rattle.obligation_gen.specs.Shown.{ShowsObligations}
use Rattle.obligation_laws.specs.Obligations.{all_obligations}
use Rattle.cert_text.specs.Keeping.{AreShown}
use Rattle.command_answers.proofs.Kept.{all_said, all_unsaid, keeps_all}
use Rattle.command_answers.proofs.obligations.decide_all.Goals as goal

pub returns-clause-decided : goal.returns-clause-decided
returns-clause-decided c =
    let d = design_of c.args.checked.now in
    let nodes = c.in_ok-owed.owed.terms in
    let os = c.deref.result.now in
    let same : os ≡ c.in_ok-owed.owed.obligations.items = search rules in
    let few = c.in_ok-owed.ensures.few in
    let owed = subst (λ xs. ShowsObligations d nodes xs (all_obligations d)) (sym same) c.in_ok-owed.ensures.shows in
    let laws = c.shown_obligations_are_certified.ensures in
    all_said d nodes os c.args.conflicts c.args.rounds c.show_all.result few (λ (certs : List Cert) (shown : AreShown d nodes os certs).
    keeps_all d certs few
    (c.blocks_that_never_fail_are_refined.ensures.design d c.design-design.ensures.resolves.rules (c.code_literals_fit.ensures.designs c.args.checked.now) (laws.holds d nodes os certs owed shown))
    (laws.show d nodes os certs owed shown)) c.show_all.ensures.decided

pub returns-clause-refused : goal.returns-clause-refused
returns-clause-refused c = all_unsaid (design_of c.args.checked.now) c.args.rounds c.show_all.result c.in_ok-owed.ensures.few c.show_all.ensures.refused
