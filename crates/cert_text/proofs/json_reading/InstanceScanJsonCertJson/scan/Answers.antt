use Rattle.std.proofs.Common.{option_and_then, sym, ap, ◌∙◌}
use Rattle.cert_text.specs.CertsForm.{instance_of_two}
use Rattle.cert_text.proofs.Scanned.{instance_is}
use Rattle.cert_text.proofs.json_reading.InstanceScanJsonCertJson.scan.Goals as goal

pub returns-clause-ok : goal.returns-clause-ok
returns-clause-ok c =
    let read = c.in_ok-pair.ensures.ok in
    record { found = read.found; reads = read.reads; is = instance_is read.found ∙ ap (option_and_then instance_of_two) read.is ∙ sym c.instance.ensures }
