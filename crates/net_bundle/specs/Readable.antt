-- What the made files of a network read as, by "The text" and "Bundle files" in docs/FORMATS.md. The clauses of `make` cite
-- it.
use Rattle.std.specs.Prelude.{ℕ, List, [], ◌∷◌}
use Rattle.p4_ir.specs.P4Reads.{P4Reads}
use Rattle.p4_ir.specs.NetTree.{SwitchFiles, NetData}
use Rattle.p4_emit.specs.Printed.{printed}
use Rattle.net_bundle.specs.NetJson.{net_data, rows_data}
use Rattle.net_bundle.specs.Bundle.{rows_text, net_file, net_text}
use Rattle.json_forms.specs.Values.{IsJson}

-- the text of each program reads as the program, and that of its rows as their value
abbrev pub AllReadable : List SwitchFiles → Type 0
AllReadable [] = Unit {0}
AllReadable (s ∷ ss) = P4Reads (printed s.program) s.program × IsJson (rows_text s.rows) (rows_data s.rows) × AllReadable ss

-- and so does that of the network
pub record Readable (design : List ℕ) (net : NetData) : Type 0 where
  pub switches : AllReadable net.switches
  pub network : IsJson (net_text design net) (net_data (net_file design net))
