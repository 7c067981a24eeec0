-- What `forward` answers over its packets and its bundle, put together from its parts.
use Rattle.std.proofs.Common.{◌≡◌, ℕ, List, ◌++◌, Some, Ok, Err, ap, inl, inr}
use Rattle.bundle_reader.specs.Readings.{ContentReads}
use Rattle.p4_ir.specs.NetTree.{NetData}
use Rattle.p4_ir.specs.Wiring.{host_numbers}
use Rattle.packet_runs.specs.Packets.{Packet, packets_in}
use Rattle.command_reports.specs.declared.report.Report.{Report}
use Rattle.command_reports.specs.declared.files.CommandFile.TheVariants.{Packets}
use Rattle.command_reports.specs.declared.refusal.Refusal.{Refusal}
use Rattle.command_line.specs.Command.{forward}
use Rattle.command_answers.specs.Forwarding.{NotRun, RunsPackets}
use Rattle.command_answers.specs.Commands.{Reports, asks, writes}
use Rattle.command_answers.specs.Outcomes.{AllGood, none, good, Ends, no_memory}
use Rattle.command_reports.specs.Report.{success}
use Rattle.command_answers.specs.Steps.{Inputs, OfPackets, copies_within, packets_judged}
use Rattle.command_answers.proofs.Ending.{next, refused}

on_packets : {P : NetData → List Packet → Type 0} (o : List ℕ) (i : Inputs) (x : List ℕ) (net : NetData) (ps : List Packet) → i.file Packets ≡ Some x → ContentReads i.content o net
    → packets_in (host_numbers net.hosts) x ≡ Ok ps → P net ps → OfPackets i o P
on_packets o i x net ps k is say p = record { net = net; reads = is; holds = record { text = x; is = k; holds = (ps, say, p) } }

pub not_run : (o p : List ℕ) (n : ℕ) (i : Inputs) (x : List ℕ) (net : NetData) (r : Refusal) → i.file Packets ≡ Some x → ContentReads i.content o net → NotRun net n x r
    → Ends i (Err r) (asks (forward o p n) ++ writes (forward o p n))
not_run o p n i x net r k is (inl (inl m)) = no_memory (ap Err m)
not_run o p n i x net r k is (inl (inr h)) = refused i r (packets_judged o) _ (record { net = net; reads = is; holds = record { text = x; is = k; holds = (h.fault, h.is, h.told) } })
not_run o p n i x net r k is (inr h) =
    next i _ (packets_judged o) _ (on_packets o i x net h.packets k is h.say tt) (refused i r (copies_within o n) _ (on_packets o i x net h.packets k is h.say (h.over, h.told)))

pub asks_good : (o p : List ℕ) (n : ℕ) (i : Inputs) (x : List ℕ) (net : NetData) (lines : List ℕ) → i.file Packets ≡ Some x → ContentReads i.content o net → RunsPackets net n x lines → AllGood i (asks (forward o p n))
asks_good o p n i x net lines k is h =
    good (on_packets o i x net h.packets k is h.say tt) (good (on_packets o i x net h.packets k is h.say h.within) none)

pub reports : (o p : List ℕ) (n : ℕ) (i : Inputs) (x : List ℕ) (net : NetData) (lines : List ℕ) (report : Report) → i.file Packets ≡ Some x → ContentReads i.content o net → RunsPackets net n x lines
    → report ≡ success lines → Reports (forward o p n) i report
reports o p n i x net lines report k is h said = on_packets o i x net h.packets k is h.say (lines, h.told, said)
