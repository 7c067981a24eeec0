use Rattle.std.proofs.Common.{option_and_then, sym, ap, ◌∙◌}
use Rattle.cert_text.proofs.json_reading.BothMembersScanJsonCertJson.scan.Goals as goal

pub returns-clause-ok : goal.returns-clause-ok
returns-clause-ok c =
    let read = c.in_ok-pair.ensures.ok in
    record { found = read.found; reads = read.reads; is = read.is ∙ sym c.members.ensures }
