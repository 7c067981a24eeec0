-- A network with a program as long as the name of its one field makes it. The private clauses of `networks` cite it.
use Rattle.std.specs.Prelude.{ℕ, List, [], ◌∷◌, codes}
use Rattle.p4_ir.specs.P4Tree.{p_done, Program}
use Rattle.p4_ir.specs.NoRows.{no_rows}
use Rattle.p4_ir.specs.NetTree.{NetData}

-- no header, no meta field, no table and no statement
abbrev pub bare_program : Program
bare_program = record {
  headers = [];
  meta = [];
  ingress = record { tables = []; body = p_done };
  egress = record { tables = []; body = p_done };
}

-- the same with one header of one field
abbrev pub named_program : List ℕ → Program
named_program name = record bare_program { headers = record { name = codes "e"; fields = record { name = name; width = 8 } ∷ [] } ∷ [] }

abbrev pub named_network : List ℕ → NetData
named_network name = record {
  ports = 1;
  switches = record { number = 2; program = bare_program; rows = no_rows }
      ∷ record { number = 5; program = named_program name; rows = no_rows }
      ∷ [];
  links = [];
  hosts = [];
}
