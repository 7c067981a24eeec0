use Rattle.std.proofs.Common.{◌≡◌, ◌==◌, None, Some, sym, ap, ◌∙◌, option_and_then, map}
use Rattle.std.specs.List.{find}
use Rattle.cocoon_num.specs.Lists.{ascend}
use Rattle.p4_ir.specs.declared.network.HostPort.{HostPort}
use Rattle.net_run.proofs.Wired.{attached, rising}
use Rattle.net_run.proofs.net.Net.attachment.Goals as goal

pub host_at-requires : goal.host_at-requires
host_at-requires c =
    ap (λ hs. ascend (map (λ (h : HostPort). h.host) hs)) c.items.ensures ∙ (rising c.args.self.now).hosts

pub returns-in-Some : goal.returns-in-Some
returns-in-Some c =
    let hs = c.args.self.now.hosts in
    let e : Some c.in-Some.known.now ≡ find (λ (h : HostPort). h.host == c.args.host) hs = c.in-Some.ensures ∙ ap (find (λ (h : HostPort). h.host == c.args.host)) c.items.ensures in
    sym (attached hs c.args.host ∙ ap (option_and_then (λ (h : HostPort). h.attach)) (sym e))

pub returns-in-None : goal.returns-in-None
returns-in-None c =
    let hs = c.args.self.now.hosts in
    let e : None ≡ find (λ (h : HostPort). h.host == c.args.host) hs = c.in-None.ensures ∙ ap (find (λ (h : HostPort). h.host == c.args.host)) c.items.ensures in
    sym (attached hs c.args.host ∙ ap (option_and_then (λ (h : HostPort). h.attach)) (sym e))
