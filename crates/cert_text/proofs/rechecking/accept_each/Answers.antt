use Rattle.cocoon_syntax.specs.TreeOf.{design_of}
use Rattle.cert_text.proofs.Accepting.{all_accepted, all_hold, first, next}
use Rattle.cert_text.proofs.Telling.{passed}
use Rattle.cert_text.proofs.rechecking.accept_each.Goals as goal

pub loop-number-preserved : goal.loop-number-preserved
loop-number-preserved c = next (design_of c.args.checked.now) c.args.certs.now c.loop-number.number c.loop-number.invariant c.in_ok-accept.ensures.accepted

pub returns-in_err-accept-clause-fault : goal.returns-in_err-accept-clause-fault
returns-in_err-accept-clause-fault c =
    passed c.from_residual.result c.in_err-accept.field-0.0 _ c.from_residual.ensures.1
    (first (design_of c.args.checked.now) c.args.certs.now c.loop-number.number c.loop-number.invariant c.in_err-accept.field-0.0 c.in_err-accept.ensures.fault)

pub returns-clause-accepted : goal.returns-clause-accepted
returns-clause-accepted c =
    all_accepted (design_of c.args.checked.now) c.args.terms.now c.args.obligations.now c.requires.owed c.args.certs.now c.requires.as_many c.loop-number.number c.loop-number-test.false c.loop-number.invariant

pub returns-clause-holds : goal.returns-clause-holds
returns-clause-holds c =
    all_hold (design_of c.args.checked.now) c.args.terms.now c.args.obligations.now c.requires.owed c.args.certs.now c.requires.as_many c.loop-number.number c.loop-number-test.false c.loop-number.invariant
