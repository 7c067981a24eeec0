use Rattle.cert_text.specs.Faults.{of_form}
use Rattle.cert_text.proofs.Telling.{no_file, passed}
use Rattle.cert_text.proofs.reading.from_json.Goals as goal

pub returns-in_err-from_json-clause-fault : goal.returns-in_err-from_json-clause-fault
returns-in_err-from_json-clause-fault c =
    passed c.from_residual.result (of_form c.in_err-from_json.field-0.0) _ c.from_residual.ensures.1 (no_file c.args.bytes.now c.in_err-from_json.field-0.0 c.in_err-from_json.ensures.fault)
