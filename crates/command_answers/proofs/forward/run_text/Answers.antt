use Rattle.std.proofs.Common.{map, subst}
use Rattle.net_run.specs.Nets.{net_in}
use Rattle.packet_runs.specs.Judging.{packet_in}
use Rattle.packet_runs.specs.Reports.{IsReport}
use Rattle.packet_runs.specs.Stopping.{AllWithin}
use Rattle.command_answers.proofs.forward.run_text.Goals as goal

pub returns-in-Ok-clause-ran : goal.returns-in-Ok-clause-ran
returns-in-Ok-clause-ran c =
    let net = net_in c.args.net.now in
    let hops = c.args.hops in record {
      packets = map packet_in c.in_ok-packets.packets.items;
      say = c.in_ok-packets.ensures.say;
      within = subst (λ ps. AllWithin net hops (map packet_in ps)) c.deref.ensures.value c.in-Ok.ensures.within;
      told = subst (λ ps. IsReport net hops (map packet_in ps) c.in-Ok.report.items) c.deref.ensures.value c.in-Ok.ensures.report;
    }
