-- What a `forward` over the bundle of a `compile` reports.
use Rattle.std.proofs.Common.{◌≡◌, ℕ, List, Some, Ok, ap, subst, sym}
use Rattle.std.specs.FinMap.{get}
use Rattle.cocoon_io.specs.Calls.{appended}
use Rattle.cocoon_io.specs.Files.{Files}
use Rattle.command_line.specs.Command.{Command, forward}
use Rattle.command_line.specs.Words.{command}
use Rattle.p4_ir.specs.NetTree.{NetData}
use Rattle.p4_ir.specs.Wiring.{host_numbers}
use Rattle.packet_runs.specs.Packets.{Packet, packets_in}
use Rattle.packet_runs.specs.Reports.{IsReport}
use Rattle.net_bundle.specs.Network.{Network}
use Rattle.command_answers.specs.Commands.{Reports, files_of}
use Rattle.cocoon_cli.specs.Run.{Call, CauseOf, DoneOf, InputsAre, KeepsMore, inputs_of}
use Rattle.command_reports.specs.declared.report.Report.{Report}
use Rattle.command_laws.specs.ForwardsCompiled.{ForwardsCompiled}
use Rattle.command_laws.proofs.SameBundle.{still_network}

-- the files of a folder give one network at most
abbrev pub OneNetwork : Type 0
OneNetwork = (files : Files) (out : List ℕ) (m n : NetData) → Network files out m → Network files out n → m ≡ n

-- what follows from the cause of an answer
abbrev pub KeepMore : Type 0
KeepMore = (call : Call) → CauseOf (command call.words) call → KeepsMore call

-- what is reported of the network of these files, for the packets of one of them
pub record Reported (files : Files) (out packets_name : List ℕ) (hops : ℕ) (report : List ℕ) : Type 0 where
  pub net : NetData
  pub packets : List Packet
  pub text : List ℕ
  pub network : Network files out net
  pub text_is : get files packets_name ≡ Some text
  pub say : packets_in (host_numbers net.hosts) text ≡ Ok packets
  pub report_is : IsReport net hops packets report

of_inputs : (files : Files) (out packets : List ℕ) (hops : ℕ) (report : Report) → Reports (forward out packets hops) (inputs_of (files_of (forward out packets hops)) files) report
    → Reported files out packets hops report.lines
of_inputs files out packets hops report h =
    let (list, say, (lines, are, told)) = h.holds.holds in record {
      net = h.net;
      packets = list;
      text = h.holds.text;
      network = h.reads.0;
      text_is = h.holds.is;
      say = say;
      report_is = subst (IsReport h.net hops list) (sym (ap (λ (r : Report). r.lines) told)) are;
    }

-- what a `forward` over known files has done
pub record HasReported (call : Call) (files : Files) (out packets_name : List ℕ) (hops : ℕ) : Type 0 where
  pub report : List ℕ
  pub of : Reported files out packets_name hops report
  pub printed : call.output_after ≡ appended call.output_before report

has_reported : (call : Call) (files : Files) (out packets : List ℕ) (hops : ℕ) → call.content_before ≡ Some files → DoneOf (Some (forward out packets hops)) call
    → HasReported call files out packets hops
has_reported call files out packets hops content (inputs, report, are, reports, leaves, printed) =
    let c : Command = forward out packets hops in
    let is : inputs ≡ inputs_of (files_of c) files = subst (λ content. InputsAre (files_of c) content inputs) content are in
    record {
      report = report.lines;
      of = of_inputs files out packets hops report (subst (λ i. Reports c i report) is reports);
      printed = printed;
    }

-- its network is the one that was compiled
same_net : OneNetwork → (x : ForwardsCompiled) (n : NetData) → Network x.files x.out n → n ≡ x.compiled.net
same_net one x n reads = one x.files x.out n x.compiled.net reads (still_network x.files x.after x.out x.compiled.net x.bundle_same x.compiled.network)

pub reported : OneNetwork → KeepMore → (x : ForwardsCompiled)
    → (text : List ℕ) × (packets : List Packet) × (report : List ℕ) × (get x.files x.packets_name ≡ Some text) × (packets_in (host_numbers x.compiled.net.hosts) text ≡ Ok packets)
    × IsReport x.compiled.net x.hops packets report × (x.call.output_after ≡ appended x.call.output_before report)
reported one more x =
    let done : DoneOf (command x.call.words) x.call = (more x.call x.cause).done_leaves x.status in
    let h = has_reported x.call x.files x.out x.packets_name x.hops x.content (subst (λ c. DoneOf c x.call) x.words done) in
    let net = same_net one x h.of.net h.of.network in (
      h.of.text,
      h.of.packets,
      h.report,
      h.of.text_is,
      subst (λ (n : NetData). packets_in (host_numbers n.hosts) h.of.text ≡ Ok h.of.packets) net h.of.say,
      subst (λ n. IsReport n x.hops h.of.packets h.report) net h.of.report_is,
      h.printed,
    )
