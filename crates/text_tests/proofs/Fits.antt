-- The network of two switches fits.
use Rattle.std.proofs.Common.{IsTrue, refl}
use Rattle.p4_ir.specs.NetFits.{net_fits}
use Rattle.text_tests.specs.TwoSwitches.{first_headers, first_meta, first_table, first_ingress, first_egress, first_program, first_rows, first_groups, first_switch, second_headers, second_meta, second_table, second_ingress, second_program, second_rows, second_switch, both_switches, the_links, the_hosts, two_switches}

pub two_switches_fit : IsTrue (net_fits two_switches)
unfolding first_headers first_meta first_table first_ingress first_egress first_program first_rows first_groups first_switch second_headers second_meta second_table second_ingress second_program second_rows second_switch both_switches the_links the_hosts two_switches
two_switches_fit = refl
