use Rattle.std.proofs.Common.{◌≡◌, IfErr, length, rules}
use Rattle.cocoon_syntax.specs.TreeOf.{design_of}
use Rattle.command_answers.specs.Updating.{NotAccepts, unformed, unshown}
use Rattle.command_answers.proofs.Counted.{passed}
use Rattle.command_answers.proofs.standing.accept.Goals as goal

pub returns-in_err-certs-clause-refused : goal.returns-in_err-certs-clause-refused
returns-in_err-certs-clause-refused c =
    let h = c.in_err-certs.ensures.refused in
    passed (λ answer. IfErr answer (NotAccepts (design_of c.args.checked.now) c.args.bytes.now)) _ c.in_err-certs.field-0.0 c.from_residual.ensures.1 (unformed h.0 h.1 h.2)

pub returns-in_err-check-clause-refused : goal.returns-in_err-check-clause-refused
returns-in_err-check-clause-refused c =
    let h = c.in_err-check.ensures.refused in
    passed (λ answer. IfErr answer (NotAccepts (design_of c.args.checked.now) c.args.bytes.now)) _ c.in_err-check.field-0.0 c.from_residual-in_err-check.ensures.1
    (unshown c.in_ok-certs.certs.certs h.0 c.in_ok-certs.ensures.read h.1 h.2)

pub returns-clause-accepts : goal.returns-clause-accepts
returns-clause-accepts c =
    let certs = c.in_ok-certs.certs in
    let counted : length c.items.result.now ≡ length certs.certs = search rules in
    record {
      certs = certs.certs;
      read = c.in_ok-certs.ensures.read;
      few = c.in_ok-check.ensures.few;
      accepted = c.in_ok-check.ensures.accepted;
      refines = c.in_ok-check.ensures.refines;
      certify = c.files_are_read_as_they_certify.ensures.written (design_of c.args.checked.now) c.args.bytes.now certs c.in_ok-certs.ensures.read c.in_ok-check.ensures.show;
      counted = counted;
    }
