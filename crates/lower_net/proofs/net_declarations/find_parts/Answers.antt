use Rattle.std.proofs.Common.{◌≡◌, Some, None, option_map, rules, ap, ◌∙◌}
use Rattle.cocoon_syntax.specs.TreeOf.{design_of, host_of, switch_of}
use Rattle.cocoon_types.specs.Design.{host_decl, switch_decl}
use Rattle.lower_net.specs.NetDeclarations.{ingress_of, into_of, parts_of}
use Rattle.lower_net.proofs.Found.{parts-found}
use Rattle.lower_net.proofs.net_declarations.find_parts.Goals as goal

pub returns-in_err-ingress : goal.returns-in_err-ingress
returns-in_err-ingress c =
    let d = design_of c.args.checked.now in
    let s : switch_decl d ≡ Some (switch_of c.in_ok-switches.switches.now) = search rules in
    let h : host_decl d ≡ Some (host_of c.in_ok-hosts.hosts.now) = search rules in
    let i : into_of d (switch_of c.in_ok-switches.switches.now) ≡ None = search rules in
    let none : c.from_residual-in_err-ingress.result ≡ None = search rules in
    ap (option_map (parts_of d)) none ∙ parts-found d (switch_of c.in_ok-switches.switches.now) (host_of c.in_ok-hosts.hosts.now) None s h i

pub returns : goal.returns
returns c =
    let d = design_of c.args.checked.now in
    let s : switch_decl d ≡ Some (switch_of c.in_ok-switches.switches.now) = search rules in
    let h : host_decl d ≡ Some (host_of c.in_ok-hosts.hosts.now) = search rules in
    let i : into_of d (switch_of c.in_ok-switches.switches.now) ≡ Some (ingress_of c.in_ok-ingress.ingress) = search rules in
    parts-found d (switch_of c.in_ok-switches.switches.now) (host_of c.in_ok-hosts.hosts.now) (Some (ingress_of c.in_ok-ingress.ingress)) s h i
