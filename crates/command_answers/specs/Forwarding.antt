-- Cited by the clauses of forward.rt. The packets of a file, run through a network: what is reported of them, or why they
-- are not run.
use Rattle.std.specs.Prelude.{◌≡◌, ◌⊎◌, ℕ, suc, List, Some, Ok, Err}
use Rattle.cocoon_num.specs.declared.limit_name.LimitName.TheVariants.{Copies}
use Rattle.net_run.specs.RunCounts.{most_runs}
use Rattle.p4_ir.specs.NetTree.{NetData}
use Rattle.p4_ir.specs.Wiring.{host_numbers}
use Rattle.packet_runs.specs.Packets.{Packet, packets_in}
use Rattle.packet_runs.specs.declared.packet.PacketFault.{PacketFault}
use Rattle.packet_runs.specs.Reports.{IsReport}
use Rattle.packet_runs.specs.Stopping.{AllWithin, SomeOver}
use Rattle.command_reports.specs.declared.refusal.Refusal.{Refusal}
use Rattle.command_reports.specs.declared.refusal.Refusal.TheVariants.{OverLimit, NoMemory}
use Rattle.command_answers.specs.Steps.{packets_refusal}

-- the text is a file of packets for the network, and this is what becomes of them
pub record RunsPackets (net : NetData) (hops : ℕ) (text report : List ℕ) : Type 0 where
  pub packets : List Packet
  pub say : packets_in (host_numbers net.hosts) text ≡ Ok packets
  pub within : AllWithin net hops packets
  pub told : IsReport net hops packets report

-- why the text is none
pub record NotJudged (net : NetData) (text : List ℕ) (r : Refusal) : Type 0 where
  pub fault : PacketFault
  pub is : packets_in (host_numbers net.hosts) text ≡ Err fault
  pub told : packets_refusal fault ≡ Some r

-- why its packets are not run
pub record NotWithin (net : NetData) (hops : ℕ) (text : List ℕ) (r : Refusal) : Type 0 where
  pub packets : List Packet
  pub say : packets_in (host_numbers net.hosts) text ≡ Ok packets
  pub over : SomeOver net hops packets
  pub told : r ≡ OverLimit Copies (suc most_runs)

-- the text is no file of packets, or there was no memory
abbrev pub NotSaid : NetData → (text : List ℕ) → Refusal → Type 0
NotSaid net text r = (r ≡ NoMemory) ⊎ NotJudged net text r

abbrev pub NotRun : NetData → (hops : ℕ) → (text : List ℕ) → Refusal → Type 0
NotRun net hops text r = NotSaid net text r ⊎ NotWithin net hops text r
