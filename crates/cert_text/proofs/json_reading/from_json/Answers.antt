use Rattle.std.proofs.Common.{ap, ◌∙◌}
use Rattle.std.proofs.lemmas.Result.{IfErr-weaker, IfOk-weaker}
use Rattle.cert_text.specs.CertsForm.{certs_of_two}
use Rattle.cert_text.proofs.Scanned.{certs_are, shaped_refused}
use Rattle.cert_text.proofs.json_reading.from_json.Goals as goal

pub returns-in-Ok-clause-certs : goal.returns-in-Ok-clause-certs
returns-in-Ok-clause-certs c =
    let read = c.in-Ok.ensures.ok in
    IfOk-weaker c.certs_of_members.result _ _ (λ certs h. record { value = read.found; is = read.is_json; answers = certs_are read.found ∙ ap certs_of_two read.is ∙ h }) c.certs_of_members.ensures.certs

pub returns-in-Ok-clause-fault : goal.returns-in-Ok-clause-fault
returns-in-Ok-clause-fault c =
    let read = c.in-Ok.ensures.ok in
    IfErr-weaker c.certs_of_members.result _ _ (shaped_refused c.args.bytes.now read.found read.is_json _ (certs_are read.found ∙ ap certs_of_two read.is)) c.certs_of_members.ensures.fault
