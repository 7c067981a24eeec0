-- A network of two switches with tables and groups, links between them and to hosts, and a host that is nowhere. The private
-- clauses of `first_switch`, `second_switch` and `networks` cite it.
use Rattle.std.specs.Prelude.{List, true, false, [], ◌∷◌, Some, None, codes}
use Rattle.cocoon_num.specs.Values.{equal}
use Rattle.p4_ir.specs.P4Tree.{p_lit, p_meta, p_field, p_port, p_rid, p_binary, p_slice, set_meta, set_header, apply_table, p_if, p_if_else, verdict, egress_port, group, p_return, P4Block, p_done, p_then, P4Field, P4Header, P4Table, Program, TableRows, Group, RowsFile}
use Rattle.p4_ir.specs.NetTree.{to_switch, to_host, Link, HostPort, SwitchFiles, NetData}

-- ---- switch 1

unfoldable pub first_headers : List P4Header
first_headers = record { name = codes "ip"; fields = record { name = codes "src"; width = 32 } ∷ record { name = codes "dst"; width = 32 } ∷ [] }
    ∷ record { name = codes "l4"; fields = record { name = codes "port"; width = 16 } ∷ [] }
    ∷ []

unfoldable pub first_meta : List P4Field
first_meta = record { name = codes "site"; width = 8 }
    ∷ record { name = codes "k0_0"; width = 16 }
    ∷ record { name = codes "k0_1"; width = 32 }
    ∷ record { name = codes "r0"; width = 16 }
    ∷ []

unfoldable pub first_table : List P4Table
first_table = record { number = 0; exact = false; keys = 1 ∷ 2 ∷ []; result = 3 } ∷ []

unfoldable pub first_ingress : P4Block
first_ingress = p_then (set_meta 1 p_port)
    (p_then (set_meta 2 (p_field 0 1))
    (p_then (apply_table 0)
    (p_then (p_if (p_binary equal (p_meta 3) (p_lit 16 0)) (p_then p_return p_done))
    (p_then (verdict 2)
    (p_then (group (p_meta 3)) p_done)))))

unfoldable pub first_egress : P4Block
first_egress = p_then (verdict 1) (p_then (egress_port (p_slice p_rid 15 0)) p_done)

unfoldable pub first_program : Program
first_program = record {
  headers = first_headers;
  meta = first_meta;
  ingress = record { tables = first_table; body = first_ingress };
  egress = record { tables = []; body = first_egress };
}

unfoldable pub first_rows : List TableRows
first_rows = record {
  number = 0;
  otherwise = 0;
  rows = record { values = 1 ∷ 167772161 ∷ []; masks = 65535 ∷ 4294967295 ∷ []; result = 1 }
      ∷ record { values = 0 ∷ 167772160 ∷ []; masks = 0 ∷ 4294967040 ∷ []; result = 9 }
      ∷ [];
} ∷ []

unfoldable pub first_groups : List Group
first_groups = record { number = 1; members = 1 ∷ 2 ∷ [] }
    ∷ record { number = 9; members = 0 ∷ 3 ∷ 18446744073709551615 ∷ [] }
    ∷ []

unfoldable pub first_switch : SwitchFiles
first_switch = record { number = 1; program = first_program; rows = record { tables = first_rows; groups = first_groups } }

-- ---- switch 7

unfoldable pub second_headers : List P4Header
second_headers = record { name = codes "e"; fields = record { name = codes "kind"; width = 16 } ∷ [] } ∷ []

unfoldable pub second_meta : List P4Field
second_meta = record { name = codes "site"; width = 8 }
    ∷ record { name = codes "k3_0"; width = 16 }
    ∷ record { name = codes "r3"; width = 1 }
    ∷ []

unfoldable pub second_table : List P4Table
second_table = record { number = 3; exact = true; keys = 1 ∷ []; result = 2 } ∷ []

unfoldable pub second_ingress : P4Block
second_ingress = p_then (set_meta 1 (p_field 0 0))
    (p_then (apply_table 3)
    (p_then (verdict 1)
    (p_then (p_if_else (p_binary equal (p_meta 2) (p_lit 1 1))
    (p_then (egress_port (p_lit 16 1)) p_done)
    (p_then (set_header 0 0 (p_lit 16 65535)) (p_then (egress_port (p_lit 16 3)) p_done))) p_done)))

unfoldable pub second_program : Program
second_program = record {
  headers = second_headers;
  meta = second_meta;
  ingress = record { tables = second_table; body = second_ingress };
  egress = record { tables = []; body = p_done };
}

unfoldable pub second_rows : RowsFile
second_rows = record {
  tables = record { number = 3; otherwise = 0; rows = record { values = 2048 ∷ []; masks = 65535 ∷ []; result = 1 } ∷ [] } ∷ [];
  groups = [];
}

unfoldable pub second_switch : SwitchFiles
second_switch = record { number = 7; program = second_program; rows = second_rows }

-- ---- the network

unfoldable pub both_switches : List SwitchFiles
both_switches = first_switch ∷ second_switch ∷ []

unfoldable pub the_links : List Link
the_links = record { switch = 1; port = 0; to = to_host 0 }
    ∷ record { switch = 1; port = 2; to = to_switch 7 0 }
    ∷ record { switch = 7; port = 0; to = to_switch 1 2 }
    ∷ record { switch = 7; port = 1; to = to_host 18446744073709551615 }
    ∷ record { switch = 7; port = 3; to = to_host 5 }
    ∷ []

unfoldable pub the_hosts : List HostPort
the_hosts = record { host = 0; attach = Some (1, 0) }
    ∷ record { host = 5; attach = None }
    ∷ record { host = 18446744073709551615; attach = Some (7, 1) }
    ∷ []

unfoldable pub two_switches : NetData
two_switches = record { ports = 4; switches = both_switches; links = the_links; hosts = the_hosts }
