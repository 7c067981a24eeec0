-- The files of the bundle of a network, in the order in which they are written. The clauses of `make` and `write_bundle` cite
-- it. It follows "Bundle files" in docs/FORMATS.md. The tagged form and versions of rows are absent.
use Rattle.std.specs.Prelude.{ℕ, List, [], ◌∷◌, ◌++◌, map, flat_map, Option, Some, None, codes}
use Rattle.serde_json.specs.Written.{compact_text}
use Rattle.p4_ir.specs.P4Tree.{RowsFile}
use Rattle.p4_ir.specs.NetFits.{switch_numbers}
use Rattle.p4_ir.specs.NetTree.{SwitchFiles, NetData}
use Rattle.p4_emit.specs.Printed.{printed}
use Rattle.net_bundle.specs.declared.file.BundleFile.{BundleFile}
use Rattle.net_bundle.specs.declared.file.BundleFile.TheVariants.{Program, Rows, Certificates, Network}
use Rattle.net_bundle.specs.BundleNames.{program_name, rows_name, net_name, file_name, digest_of}
use Rattle.net_bundle.specs.NetJson.{KeptDigest, NetFile, net_data, rows_data}

abbrev pub certificates_name : List ℕ
certificates_name = codes "certs.json"

-- what follows the bundle's name in the name of a file
abbrev pub name_of : BundleFile → List ℕ
name_of (Program s) = program_name s
name_of (Rows s) = rows_name s
name_of Certificates = certificates_name
name_of Network = net_name

-- the whole name
abbrev pub whole_name : List ℕ → BundleFile → List ℕ
whole_name out file = file_name out (name_of file)

-- a file of a bundle, with its bytes
pub record MadeFile : Type 0 where
  pub file : BundleFile
  pub bytes : List ℕ

abbrev pub rows_text : RowsFile → List ℕ
rows_text rows = compact_text (rows_data rows)

-- the program of a switch, and its rows
abbrev pub switch_files : SwitchFiles → List MadeFile
switch_files s = record { file = Program s.number; bytes = printed s.program } ∷ record { file = Rows s.number; bytes = rows_text s.rows } ∷ []

abbrev pub all_switch_files : List SwitchFiles → List MadeFile
all_switch_files switches = flat_map switch_files switches

-- the certificates, if there are any
abbrev pub certificate_files : Option (List ℕ) → List MadeFile
certificate_files None = []
certificate_files (Some bytes) = record { file = Certificates; bytes = bytes } ∷ []

-- what the file of the network keeps of another file
abbrev pub kept_digest : MadeFile → KeptDigest
kept_digest f = record { name = name_of f.file; digest = digest_of f.bytes }

-- what the file of the network holds
abbrev pub net_file : (design : List ℕ) → NetData → NetFile
net_file design net = record {
  design = digest_of design;
  files = map kept_digest (all_switch_files net.switches);
  hosts = net.hosts;
  links = net.links;
  ports = net.ports;
  switches = switch_numbers net.switches;
}

abbrev pub net_text : (design : List ℕ) → NetData → List ℕ
net_text design net = compact_text (net_data (net_file design net))

-- the certificates, if there are any, and the network
abbrev pub last_files : (design : List ℕ) → NetData → (certificates : Option (List ℕ)) → List MadeFile
last_files design net certificates = certificate_files certificates ++ record { file = Network; bytes = net_text design net } ∷ []

-- the bundle of a network of a design: the switches in their order, the certificates, and the network last
abbrev pub bundle : (design : List ℕ) → NetData → (certificates : Option (List ℕ)) → List MadeFile
bundle design net certificates = all_switch_files net.switches ++ last_files design net certificates
