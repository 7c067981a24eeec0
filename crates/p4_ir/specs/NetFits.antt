-- Which networks can be written as a bundle: their wires fit, each program is well kinded, and its rows load. The clauses
-- of net_bundle and lower_p4 cite it.
use Rattle.std.specs.Prelude.{ℕ, ◌&&◌, Bool, List, map}
use Rattle.cocoon_num.specs.Lists.{each}
use Rattle.p4_ir.specs.WellKinded.{is_well_kinded}
use Rattle.p4_ir.specs.Loading.{rows_file_fits, rows_load}
use Rattle.p4_ir.specs.Wiring.{Wiring, wiring_fits}
use Rattle.p4_ir.specs.NetTree.{SwitchFiles, NetData}

abbrev pub switch_numbers : List SwitchFiles → List ℕ
switch_numbers switches = map (λ (s : SwitchFiles). s.number) switches

abbrev pub wiring_of : NetData → Wiring
wiring_of net = record { ports = net.ports; switches = switch_numbers net.switches; links = net.links; hosts = net.hosts }

-- a program that can be printed and read back, with rows that load
abbrev pub switch_fits : SwitchFiles → Bool
switch_fits s = is_well_kinded s.program && rows_file_fits s.rows && rows_load s.program s.rows

abbrev pub net_fits : NetData → Bool
net_fits net = wiring_fits (wiring_of net) && each switch_fits net.switches
