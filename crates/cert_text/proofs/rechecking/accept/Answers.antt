use Rattle.std.proofs.Common.{Ok, ap, sym, ◌∙◌}
use Rattle.std.proofs.lemmas.Bool.{false≢true}
use Rattle.cocoon_syntax.specs.TreeOf.{design_of}
use Rattle.cert_text.specs.Faults.{of_query}
use Rattle.cert_text.proofs.Accepting.{accepted, given_at, here, refused, told}
use Rattle.cert_text.proofs.Telling.{passed}
use Rattle.cert_text.proofs.rechecking.accept.Goals as goal

pub recheck_one-requires : goal.recheck_one-requires
recheck_one-requires c =
    let h = here (design_of c.args.checked.now) c.args.terms.now c.args.obligations.now c.requires.owed c.args.number c.index-obligations-number.result c.requires.there.0 c.index-obligations-number.is in
    record { number = c.args.number; owed = h.owed; there = h.there; shown = h.shown }

pub returns-in_err-shows-clause-fault : goal.returns-in_err-shows-clause-fault
returns-in_err-shows-clause-fault c =
    let d = design_of c.args.checked.now in
    let o = c.index-obligations-number.result in
    let cert = c.index-certs-number.result in
    let h = here d c.args.terms.now c.args.obligations.now c.requires.owed c.args.number o c.requires.there.0 c.index-obligations-number.is in
    let given = given_at c.args.certs.now c.args.number cert c.requires.there.1 c.index-certs-number.is in
    passed c.from_residual.result (of_query c.in_err-shows.field-0.0) _ c.from_residual.ensures.1 (told d c.args.terms.now o c.args.number h c.args.certs.now cert given c.in_err-shows.field-0.0 c.in_err-shows.ensures.fault)

pub returns-then-shows-clause-accepted : goal.returns-then-shows-clause-accepted
returns-then-shows-clause-accepted c =
    let d = design_of c.args.checked.now in
    let o = c.index-obligations-number.result in
    let cert = c.index-certs-number.result in
    let h = here d c.args.terms.now c.args.obligations.now c.requires.owed c.args.number o c.requires.there.0 c.index-obligations-number.is in
    let given = given_at c.args.certs.now c.args.number cert c.requires.there.1 c.index-certs-number.is in
    accepted d c.args.terms.now o c.args.number h c.args.certs.now cert given (c.in_ok-shows.ensures.exact.0 c.if-shows.true) c.in_ok-shows.ensures.few (c.in_ok-shows.ensures.holds (ap Ok c.if-shows.true))

pub returns-else-shows-clause-fault : goal.returns-else-shows-clause-fault
returns-else-shows-clause-fault c =
    let d = design_of c.args.checked.now in
    let o = c.index-obligations-number.result in
    let cert = c.index-certs-number.result in
    let h = here d c.args.terms.now c.args.obligations.now c.requires.owed c.args.number o c.requires.there.0 c.index-obligations-number.is in
    let given = given_at c.args.certs.now c.args.number cert c.requires.there.1 c.index-certs-number.is in
    refused d c.args.terms.now o c.args.number h c.args.certs.now cert given (λ is. false≢true (sym c.if-shows.false ∙ c.in_ok-shows.ensures.exact.1 is)) c.in_ok-shows.ensures.few c.report.result c.report.ensures
