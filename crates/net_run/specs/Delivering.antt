-- What the answers of `deliver` stand for, and why it may stop. Its clauses cite it, and those of `deliver_in`.
use Rattle.std.specs.Prelude.{◌≡◌, ℕ, suc, ◌<◌, false, List}
use Rattle.cocoon_num.specs.Lists.{has_number}
use Rattle.p4_ir.specs.NetTree.{NetData}
use Rattle.p4_ir.specs.Wiring.{host_numbers}
use Rattle.net_run.specs.Outcomes as spec
use Rattle.net_run.specs.RunCounts.{most_runs, runs}
use Rattle.net_run.specs.declared.delivering.Delivery.{Delivery}
use Rattle.net_run.specs.declared.fault.RunFault.{RunFault}
use Rattle.net_run.specs.declared.fault.RunFault.TheVariants.{NoSuchHost, Copies, NoMemory}

abbrev pub delivery_of : Delivery → spec.Delivery
delivery_of d = record { host = d.host; choices = d.choices; bytes = d.bytes }

-- No host has the number, or its packet's runs within n visits are more than may be made; the count is that of the first run too
-- many. Out of memory is told of any packet.
abbrev pub RunStops : NetData → (a : ℕ) → (bytes : List ℕ) → (n : ℕ) → RunFault → Type 0
RunStops net a bytes n NoSuchHost = has_number a (host_numbers net.hosts) ≡ false
RunStops net a bytes n (Copies count) = (count ≡ suc most_runs) × (most_runs < runs net a bytes n)
RunStops net a bytes n NoMemory = Unit {0}
