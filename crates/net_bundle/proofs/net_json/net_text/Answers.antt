use Rattle.std.proofs.Common.{ap, ◌∙◌}
use Rattle.serde_json.specs.Written.{compact_text, has_float}
use Rattle.net_bundle.specs.NetFileOf.{net_file_of}
use Rattle.net_bundle.proofs.NetValue.{net_plain, net_reads}
use Rattle.net_bundle.proofs.net_json.net_text.Goals as goal

pub returns-clause-text : goal.returns-clause-text
returns-clause-text c = c.in_ok-to_vec.ensures.text (ap has_float c.in_ok-value.ensures ∙ net_plain (net_file_of c.args.file.now)) ∙ ap compact_text c.in_ok-value.ensures

pub returns-clause-reads : goal.returns-clause-reads
returns-clause-reads c = (c.in_ok-to_vec.ensures.utf8, net_reads _ _ (net_file_of c.args.file.now) c.in_ok-value.ensures c.in_ok-to_vec.ensures.reads_back)
