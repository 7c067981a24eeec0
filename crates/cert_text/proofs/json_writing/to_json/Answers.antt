use Rattle.std.proofs.Common.{ap, ◌∙◌}
use Rattle.serde_json.specs.Written.{compact_text, has_float}
use Rattle.cnf_core.specs.CertsOf.{certs_of}
use Rattle.cert_text.proofs.CertsValue.{certs_plain, certs_read}
use Rattle.cert_text.proofs.json_writing.to_json.Goals as goal

pub returns-clause-text : goal.returns-clause-text
returns-clause-text c = c.in_ok-to_vec.ensures.text (ap has_float c.in_ok-value.ensures ∙ certs_plain (certs_of c.args.certs.now)) ∙ ap compact_text c.in_ok-value.ensures

pub returns-clause-reads : goal.returns-clause-reads
returns-clause-reads c = (c.in_ok-to_vec.ensures.utf8, certs_read _ _ (certs_of c.args.certs.now) c.in_ok-value.ensures c.in_ok-to_vec.ensures.reads_back)
