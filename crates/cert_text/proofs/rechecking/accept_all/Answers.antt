use Rattle.cocoon_syntax.specs.TreeOf.{design_of}
use Rattle.cert_text.proofs.Telling.{first_told, miscounted, told_on}
use Rattle.cert_text.proofs.rechecking.accept_all.Goals as goal

pub returns-then-certs-obligations-clause-fault : goal.returns-then-certs-obligations-clause-fault
returns-then-certs-obligations-clause-fault c =
    miscounted (design_of c.args.checked.now) c.args.certs.now c.requires.few c.args.terms.now c.args.obligations.now c.requires.owed c.if-certs-obligations.true _ _ c.report-found.ensures c.report.ensures

pub returns-clause-fault : goal.returns-clause-fault
returns-clause-fault c =
    told_on c.accept_each.result (first_told (design_of c.args.checked.now) c.args.certs.now c.requires.few c.args.terms.now c.args.obligations.now c.requires.owed c.if-certs-obligations.false) c.accept_each.ensures.fault
