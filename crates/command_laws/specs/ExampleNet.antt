-- The files of the bundle `one` of the first example, examples/c.ccn with examples/c.defs, and their network. The clauses of
-- `example_network` and `example_delivers` cite it. The digests are those that sha256sum prints.
use Rattle.std.specs.Prelude.{ℕ, List, [], ◌∷◌, Some, codes}
use Rattle.std.specs.FinMap.{from_entries}
use Rattle.cocoon_io.specs.Files.{Files}
use Rattle.p4_ir.specs.NoRows.{no_rows}
use Rattle.command_laws.specs.ExampleP4.{c_p4, c_program}
use Rattle.p4_ir.specs.NetTree.{HostPort, Link, to_host, NetData}
use Rattle.net_bundle.specs.declared.file.BundleFile.TheVariants.{Program, Rows, Network}
use Rattle.net_bundle.specs.Bundle.{MadeFile}

abbrev pub c_net_text : List ℕ
c_net_text = codes "{\"cocoon\":1,\"design\":\"7e058e1bac69fcdac8ff0809f4df524e35ab352603fc49c62ad890cf063da8a1\",\"files\":[[\"s1.p4\",\"e67d94a264d4b635fcfe55e15a15fccfe1512dd38883f5a94ec911880168d479\"],[\"s1.rows.json\",\"0da9167320e9119ac7da5e151cc6c92c92a3bb0c15d452cfc26eebbb4f038ac1\"]],\"hosts\":[[0,1,0],[1,1,1],[2,1,2],[3,1,3]],\"links\":[[1,0,\"host\",0],[1,1,\"host\",1],[1,2,\"host\",2],[1,3,\"host\",3]],\"ports\":4,\"switches\":[1]}"

abbrev pub c_rows_text : List ℕ
c_rows_text = codes "{\"groups\":[],\"tables\":[]}"

abbrev pub c_entries : List (List ℕ × List ℕ)
c_entries = (codes "one.net.json", c_net_text) ∷ (codes "one.s1.p4", c_p4) ∷ (codes "one.s1.rows.json", c_rows_text) ∷ []

abbrev pub c_files : Files
c_files = from_entries c_entries

-- the same in the order in which they are written
abbrev pub c_bundle : List MadeFile
c_bundle =
    record { file = Program 1; bytes = c_p4 } ∷ record { file = Rows 1; bytes = c_rows_text }
    ∷ record { file = Network; bytes = c_net_text } ∷ []

abbrev pub c_hosts : List HostPort
c_hosts =
    record { host = 0; attach = Some (1, 0) } ∷ record { host = 1; attach = Some (1, 1) }
    ∷ record { host = 2; attach = Some (1, 2) } ∷ record { host = 3; attach = Some (1, 3) } ∷ []

abbrev pub c_links : List Link
c_links =
    record { switch = 1; port = 0; to = to_host 0 } ∷ record { switch = 1; port = 1; to = to_host 1 }
    ∷ record { switch = 1; port = 2; to = to_host 2 } ∷ record { switch = 1; port = 3; to = to_host 3 } ∷ []

abbrev pub c_net : NetData
c_net = record {
  ports = 4;
  switches = record { number = 1; program = c_program; rows = no_rows } ∷ [];
  links = c_links;
  hosts = c_hosts;
}
