use Rattle.std.proofs.Common.{◌∙◌, ap, IsTrue, map, refl, subst, sym}
use Rattle.p4_ir.specs.NetFits.{wiring_of}
use Rattle.p4_ir.specs.NetOf.{host_port_of, link_of}
use Rattle.p4_ir.specs.Wiring.{wiring_fits}
use Rattle.net_run.specs.Switches.{switch_in}
use Rattle.net_bundle.specs.NetFileOf.{net_file_of}
use Rattle.bundle_reader.proofs.Whole.{same_parts, whole, wires_of_file_fit}
use Rattle.bundle_reader.proofs.reading.read_bundle.Goals as goal

pub from_loaded-requires : goal.from_loaded-requires
from_loaded-requires g c =
    let file = net_file_of c.in_ok-file.file in
    let ss = map switch_in c.in_ok-switches.switches.items in
    let same = same_parts file.ports ss ss _ _ _ _ refl (ap (map link_of) c.from-links.ensures) (ap (map host_port_of) c.from-hosts.ensures) in
    subst (λ n. IsTrue (wiring_fits (wiring_of n))) (sym same) (wires_of_file_fit file ss c.in_ok-file.ensures.fits c.in_ok-switches.ensures.numbers)

pub returns-clause-network : goal.returns-clause-network
returns-clause-network g c =
    let file = net_file_of c.in_ok-file.file in
    let ss = map switch_in c.in_ok-switches.switches.items in
    let same = same_parts file.ports ss ss _ _ _ _ refl (ap (map link_of) c.from-links.ensures) (ap (map host_port_of) c.from-hosts.ensures) in
    whole c.net_form_is_exact.ensures (g.F.Folder.content c.args.folder.now) c.args.out.now file ss _ (c.from_loaded.ensures ∙ same) c.in_ok-file.ensures.file
    (λ files e. c.in_ok-switches.ensures.well files (c.read_network.ensures.same ∙ e))
