-- The files of the definitions that values of the code stand for. The private clauses of `make`, `net_json` and `write` cite
-- it.
use Rattle.std.specs.Prelude.{ℕ, List, map}
use Rattle.std.specs.String.{string_bytes}
use Rattle.p4_emit.specs.Printed.{printed}
use Rattle.p4_ir.specs.NetOf.{host_port_of, link_of}
use Rattle.p4_ir.specs.P4Tree.{Program}
use Rattle.net_bundle.specs.NetJson as json
use Rattle.net_bundle.specs.Bundle as spec
use Rattle.net_bundle.specs.declared.file.BundleFile.{BundleFile}
use Rattle.net_bundle.specs.declared.file.BundleFile.TheVariants as bundle_file
use Rattle.net_bundle.specs.declared.make.MadeFile.{MadeFile}
use Rattle.net_bundle.specs.declared.net_json.KeptDigest.{KeptDigest}
use Rattle.net_bundle.specs.declared.net_json.NetFile.{NetFile}

abbrev pub kept_of : KeptDigest → json.KeptDigest
kept_of k = record { name = string_bytes k.name; digest = string_bytes k.digest }

abbrev pub net_file_of : NetFile → json.NetFile
net_file_of f = record {
  design = string_bytes f.design;
  files = map kept_of f.files.items;
  hosts = map host_port_of f.hosts.items;
  links = map link_of f.links.items;
  ports = f.ports;
  switches = f.switches.items;
}

abbrev pub made_of : MadeFile → spec.MadeFile
made_of f = record { file = f.file; bytes = f.bytes.items }

-- a file with these bytes, that of a program, and that of rows whose text this is
abbrev pub file_made : BundleFile → List ℕ → spec.MadeFile
file_made kind bytes = record { file = kind; bytes = bytes }

abbrev pub program_made : ℕ → Program → spec.MadeFile
program_made number program = file_made (bundle_file.Program number) (printed program)

abbrev pub rows_made : ℕ → List ℕ → spec.MadeFile
rows_made number text = file_made (bundle_file.Rows number) text
