-- What is written for the worked example.
use Rattle.std.specs.Prelude.{◌≡◌, ℕ, List, [], ◌∷◌, ◌++◌, map, None, refl}
use Rattle.std.proofs.Common.{ap, ap₂, ◌∙◌}
use Rattle.std.specs.Fmt.{digits}
use Rattle.serde_json.proofs.OnLiterals.{serde_json_on_literals}
use Rattle.serde_json.specs.Written.{compact_text}
use Rattle.sha2.specs.Sha256.{sha256, first_words, schedule, rounds, compress, hash_after, digest_bytes}
use Rattle.hex.specs.Hex.{encode_with}
use Rattle.p4_ir.specs.NoRows.{no_rows}
use Rattle.p4_emit.specs.Printed.{fixed, header_field_text, header_text, member_text, meta_member_text, extract_text, deparse_text, heads_text, ingress_text, egress_text, printed, verdict_text, egress_port_text, if_text, else_text, end_text}
use Rattle.command_laws.specs.ExampleP4.{c_p4, c_program}
use Rattle.net_bundle.specs.declared.file.BundleFile.TheVariants.{Program, Rows, Network}
use Rattle.net_bundle.specs.BundleNames.{digest_of}
use Rattle.net_bundle.specs.NetJson.{KeptDigest, NetFile, net_data}
use Rattle.net_bundle.specs.Bundle.{MadeFile, rows_text, all_switch_files, kept_digest, net_file, net_text, bundle}
use Rattle.command_laws.specs.ExampleDesign.{c_design}
use Rattle.command_laws.specs.ExampleNet.{c_net_text, c_rows_text, c_bundle, c_hosts, c_links, c_net}
use Rattle.command_laws.proofs.ExampleNetwork.{p4_digested, rows_digested, c_file}

program_printed : printed c_program ≡ c_p4
unfolding digits fixed header_field_text header_text member_text meta_member_text extract_text deparse_text heads_text ingress_text egress_text verdict_text egress_port_text if_text else_text end_text
program_printed = refl

rows_written : rows_text no_rows ≡ c_rows_text
unfolding serde_json_on_literals
rows_written = refl

-- the files of the switch with these bytes
abbrev files_with : (program rows : List ℕ) → List MadeFile
files_with program rows = record { file = Program 1; bytes = program } ∷ record { file = Rows 1; bytes = rows } ∷ []

files_written : all_switch_files c_net.switches ≡ files_with c_p4 c_rows_text
files_written = ap₂ files_with program_printed rows_written

kept_written : map kept_digest (files_with c_p4 c_rows_text) ≡ c_file.files
unfolding digits
kept_written = rw (p4_digested, rows_digested) refl

design_digested : digest_of c_design ≡ c_file.design
unfolding sha256 first_words schedule rounds compress hash_after digest_bytes encode_with
design_digested = refl

-- the file of the network with these digests
abbrev net_with : List ℕ → List KeptDigest → NetFile
net_with design files = record {
  design = design;
  files = files;
  hosts = c_hosts;
  links = c_links;
  ports = 4;
  switches = 1 ∷ [];
}

net_written : net_file c_design c_net ≡ c_file
net_written = ap₂ net_with design_digested (ap (map kept_digest) files_written ∙ kept_written)

file_written : compact_text (net_data c_file) ≡ c_net_text
unfolding serde_json_on_literals digits
file_written = refl

text_written : net_text c_design c_net ≡ c_net_text
text_written = ap (λ f. compact_text (net_data f)) net_written ∙ file_written

-- the bundle with these files of its switch and this text of its network
abbrev bundle_with : List MadeFile → List ℕ → List MadeFile
bundle_with files text = files ++ record { file = Network; bytes = text } ∷ []

pub c_written : bundle c_design c_net None ≡ c_bundle
c_written = ap₂ bundle_with files_written text_written
