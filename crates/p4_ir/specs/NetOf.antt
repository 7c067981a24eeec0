-- Cited by the clauses of copies of rows, of `write_bundle` and of `lower`: the rows and the networks of the definitions
-- that values of the code stand for.
use Rattle.std.specs.Prelude.{map}
use Rattle.p4_ir.specs.P4Tree as tree
use Rattle.p4_ir.specs.NetTree as net
use Rattle.p4_ir.specs.Program.{program_of}
use Rattle.p4_ir.specs.declared.rows.KeyRow.{KeyRow}
use Rattle.p4_ir.specs.declared.rows.TableRows.{TableRows}
use Rattle.p4_ir.specs.declared.rows.Group.{Group}
use Rattle.p4_ir.specs.declared.rows.RowsFile.{RowsFile}
use Rattle.p4_ir.specs.declared.network.LinkEnd.{LinkEnd}
use Rattle.p4_ir.specs.declared.network.LinkEnd.TheVariants.{Switch, Host}
use Rattle.p4_ir.specs.declared.network.Link.{Link}
use Rattle.p4_ir.specs.declared.network.HostPort.{HostPort}
use Rattle.p4_ir.specs.declared.network.SwitchFiles.{SwitchFiles}
use Rattle.p4_ir.specs.declared.network.NetData.{NetData}

-- ---- rows

abbrev pub key_row_of : KeyRow → tree.KeyRow
key_row_of r = record { values = r.values; masks = r.masks; result = r.result }

abbrev pub table_rows_of : TableRows → tree.TableRows
table_rows_of t = record { number = t.number; otherwise = t.default; rows = map key_row_of t.rows }

abbrev pub group_of : Group → tree.Group
group_of g = record { number = g.number; members = g.members }

abbrev pub rows_of : RowsFile → tree.RowsFile
rows_of r = record { tables = map table_rows_of r.tables; groups = map group_of r.groups }

-- ---- networks

abbrev pub end_of : LinkEnd → net.LinkEnd
end_of (Switch s p) = net.to_switch s p
end_of (Host h) = net.to_host h

abbrev pub link_of : Link → net.Link
link_of l = record { switch = l.switch; port = l.port; to = end_of l.to }

abbrev pub host_port_of : HostPort → net.HostPort
host_port_of h = record { host = h.host; attach = h.attach }

abbrev pub switch_of : SwitchFiles → net.SwitchFiles
switch_of s = record { number = s.number; program = program_of s.program; rows = rows_of s.rows }

abbrev pub net_of : NetData → net.NetData
net_of n = record { ports = n.ports; switches = map switch_of n.switches; links = map link_of n.links; hosts = map host_port_of n.hosts }
