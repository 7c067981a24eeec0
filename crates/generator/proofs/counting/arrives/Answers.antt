use Rattle.std.proofs.Common.{◌≡◌, ◌≤◌, ◌∙◌, ℕ, List, false, ap, sym, subst, length, arith}
use Rattle.std.specs.Prelude.{◌==◌}
use Rattle.cocoon_num.specs.Lists.{has_number}
use Rattle.generator.specs.Packets.{bytes, source}
use Rattle.net_run.specs.Nets.{net_in}
use Rattle.net_run.specs.Delivering.{RunStops}
use Rattle.net_run.specs.declared.fault.RunFault.{RunFault}
use Rattle.net_run.specs.RunCounts.{most_runs, runs}
use Rattle.p4_ir.specs.Wiring.{host_numbers}
use Rattle.generator.specs.Arriving.{Arrives, most_visits}
use Rattle.generator.proofs.Attached.{lost, runless}
use Rattle.generator.proofs.Delivered.{is_delivered, untrue}
use Rattle.generator.proofs.counting.arrives.Goals as goal

pub returns-in-Ok-clause-arrives : goal.returns-in-Ok-clause-arrives
returns-in-Ok-clause-arrives c =
    is_delivered (net_in c.args.net.now) c.args.hosts c.args.number c.in_ok-packet.packet.host c.deref.result.now c.in_ok-packet.ensures.host (c.deref.ensures.value ∙ c.in_ok-packet.ensures.bytes)
    c.in-Ok.outcome.delivered c.in-Ok.ensures.delivered c.is_empty.result (c.is_empty.ensures ∙ ap (λ ds. length ds == 0) c.items.ensures)

pub returns-in-Err-NoSuchHost-clause-arrives : goal.returns-in-Err-NoSuchHost-clause-arrives
returns-in-Err-NoSuchHost-clause-arrives c =
    let net = net_in c.args.net.now in
    let none : has_number (source c.args.hosts c.args.number) (host_numbers net.hosts) ≡ false =
    subst (λ (x : ℕ). has_number x (host_numbers net.hosts) ≡ false) c.in_ok-packet.ensures.host (subst (λ (f : RunFault). RunStops net c.in_ok-packet.packet.host c.deref.result.now 16 f) c.in-Err-NoSuchHost.field-0-is c.in-Err-NoSuchHost.ensures.stops) in (
      (λ t. absurd (untrue t)),
      (λ (a : Arrives net c.args.hosts c.args.number). absurd (lost net (source c.args.hosts c.args.number) (bytes c.args.hosts c.args.number) a.choices most_visits a.host a.sent none a.goes)),
    )

pub returns-in-Err-NoSuchHost-clause-within : goal.returns-in-Err-NoSuchHost-clause-within
returns-in-Err-NoSuchHost-clause-within c =
    let net = net_in c.args.net.now in
    let none : has_number (source c.args.hosts c.args.number) (host_numbers net.hosts) ≡ false =
    subst (λ (x : ℕ). has_number x (host_numbers net.hosts) ≡ false) c.in_ok-packet.ensures.host (subst (λ (f : RunFault). RunStops net c.in_ok-packet.packet.host c.deref.result.now 16 f) c.in-Err-NoSuchHost.field-0-is c.in-Err-NoSuchHost.ensures.stops) in
    let no_runs = runless net (source c.args.hosts c.args.number) (bytes c.args.hosts c.args.number) most_visits none in omega (arith, no_runs)
