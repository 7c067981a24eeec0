use Rattle.std.proofs.Common.{◌==◌, is_some, sym, ap, ◌∙◌, map}
use Rattle.std.specs.List.{find}
use Rattle.cocoon_num.specs.Lists.{ascend}
use Rattle.p4_ir.specs.declared.network.HostPort.{HostPort}
use Rattle.net_run.proofs.Wired.{has_host, is_some_mapped, rising}
use Rattle.net_run.proofs.net.Net.has_host.Goals as goal

pub host_at-requires : goal.host_at-requires
host_at-requires c =
    ap (λ hs. ascend (map (λ (h : HostPort). h.host) hs)) c.items.ensures ∙ (rising c.args.self.now).hosts

pub returns : goal.returns
returns c =
    let hs = c.args.self.now.hosts in
    let e = c.host_at.ensures ∙ ap (find (λ (h : HostPort). h.host == c.args.host)) c.items.ensures in
    c.is_some.ensures ∙ sym (is_some_mapped (λ h. h.now) c.host_at.result) ∙ ap is_some e ∙ has_host hs c.args.host
