use Rattle.std.proofs.Common.{option_and_then, sym, ap, ◌∙◌}
use Rattle.cert_text.specs.CertsForm.{step_of_two}
use Rattle.cert_text.proofs.Scanned.{step_is}
use Rattle.cert_text.proofs.json_reading.StepScanJsonCertJson.scan.Goals as goal

pub returns-clause-ok : goal.returns-clause-ok
returns-clause-ok c =
    let read = c.in_ok-pair.ensures.ok in
    record { found = read.found; reads = read.reads; is = step_is read.found ∙ ap (option_and_then step_of_two) read.is ∙ sym c.step.ensures }
