-- Switches of which only the numbers count. The clauses of `bare_switches` cite it, those of `read_wiring` of bundle_reader, and
-- those of `wires` of lower_net.
use Rattle.std.specs.Prelude.{ℕ, []}
use Rattle.p4_ir.specs.NetTree.{SwitchFiles}
use Rattle.p4_ir.specs.NoRows.{no_rows}
use Rattle.p4_ir.specs.P4Tree.{Control, Program, p_done}

abbrev pub no_control : Control
no_control = record { tables = []; body = p_done }

abbrev pub no_program : Program
no_program = record { headers = []; meta = []; ingress = no_control; egress = no_control }

-- a switch of this number, with an empty program and no rows
abbrev pub bare_switch : ℕ → SwitchFiles
bare_switch number = record { number = number; program = no_program; rows = no_rows }
