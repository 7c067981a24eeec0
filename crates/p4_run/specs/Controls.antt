-- Cited by the clauses of resolving and of runs: what the controls of a program run in. A control is ingress, or else egress,
-- and is run for its own number: a port, or the member of a group.
use Rattle.std.specs.Prelude.{ℕ, Bool, true, false, List, Option, Some, None}
use Rattle.p4_ir.specs.P4Kinds.{numbers_of, Within}
use Rattle.p4_ir.specs.P4Tree.{Control, Program, TableRows}
use Rattle.p4_ir.specs.Switch.{Running}

abbrev pub control_in : Program → (in_ingress : Bool) → Control
control_in p true = p.ingress
control_in p false = p.egress

abbrev pub port_in : Bool → (own : ℕ) → Option ℕ
port_in true own = Some own
port_in false own = None

abbrev pub rid_in : Bool → (own : ℕ) → Option ℕ
rid_in true own = None
rid_in false own = Some own

-- the width of its own number
abbrev pub own_width : Bool → ℕ
own_width true = 16
own_width false = 64

abbrev pub running_in : Program → List TableRows → Bool → (own : ℕ) → Running
running_in p rows in_ingress own = record {
  program = p;
  tables = (control_in p in_ingress).tables;
  rows = rows;
  port = port_in in_ingress own;
  rid = rid_in in_ingress own;
}

-- where its statements stand
abbrev pub within_in : Program → Bool → Within
within_in p in_ingress = record { program = p; in_ingress = in_ingress; tables = numbers_of (control_in p in_ingress).tables }
