use Rattle.std.proofs.Common.{ap, ◌∙◌, subst}
use Rattle.json_forms.specs.Values.{IsJson}
use Rattle.p4_ir.specs.NetOf.{rows_of}
use Rattle.net_bundle.specs.BundleNames.{digest_of}
use Rattle.net_bundle.specs.NetJson.{rows_data}
use Rattle.net_bundle.proofs.row_texts.text_of.Goals as goal

pub returns : goal.returns
returns c = record {
  bytes = c.in_ok-bytes.ensures.text;
  digest = c.in_ok-digest.ensures ∙ ap digest_of c.as_slice-text.ensures.value;
  reads = subst (λ b. IsJson b (rows_data (rows_of c.args.rows.now))) c.in_ok-bytes.ensures.text c.in_ok-bytes.ensures.reads;
}
