use Rattle.std.proofs.Common.{◌≡◌, ◌==◌, ◌&&◌, None, Some, sym, ap, ◌∙◌, option_map, map}
use Rattle.std.specs.List.{find}
use Rattle.p4_ir.specs.NetOf.{end_of}
use Rattle.p4_ir.specs.Wiring.{pairs_ascend}
use Rattle.p4_ir.specs.declared.network.Link.{Link}
use Rattle.net_run.specs.Locations.{location_of}
use Rattle.net_run.proofs.Wired.{linked, rising}
use Rattle.net_run.proofs.net.Net.link.Goals as goal

pub link_at-requires : goal.link_at-requires
link_at-requires c =
    ap (λ ls. pairs_ascend (map location_of ls)) c.items.ensures ∙ (rising c.args.self.now).links

pub returns-in-Some : goal.returns-in-Some
returns-in-Some c =
    let ls = c.args.self.now.links in
    let test = λ (l : Link). (l.switch == c.args.switch) && (l.port == c.args.port) in
    let e : Some c.in-Some.known.now ≡ find test ls = c.in-Some.ensures ∙ ap (find test) c.items.ensures in
    sym (linked ls c.args.switch c.args.port ∙ ap (option_map (λ (l : Link). end_of l.to)) (sym e))

pub returns-in-None : goal.returns-in-None
returns-in-None c =
    let ls = c.args.self.now.links in
    let test = λ (l : Link). (l.switch == c.args.switch) && (l.port == c.args.port) in
    let e : None ≡ find test ls = c.in-None.ensures ∙ ap (find test) c.items.ensures in
    sym (linked ls c.args.switch c.args.port ∙ ap (option_map (λ (l : Link). end_of l.to)) (sym e))
