use Rattle.std.proofs.Common.{rules, ◌≡◌, None, Some, slice_get}
use Rattle.cocoon_syntax.specs.TreeOf.{design_of}
use Rattle.lower_net.specs.Limits.{long_program}
use Rattle.lower_net.specs.NetDeclarations.{parts_of, switch_role}
use Rattle.lowering_correct.specs.Counts.{counts, first_over}
use Rattle.lowering_correct.specs.Network.{HasNumbers}
use Rattle.lower_net.proofs.Over.{within_by}
use Rattle.lower_net.proofs.networks.judge_parts.Goals as goal

pub returns-in-Some-2 : goal.returns-in-Some-2
returns-in-Some-2 c =
    let d = design_of c.args.checked.now in
    let role = switch_role d c.args.parts.now.ingress in
    let numbers : HasNumbers d c.args.defs.now c.switches-numbers.result.now c.hosts-hosts.result.now = search rules in
    let over : None ≡ first_over (counts d c.args.defs.now role c.switches-numbers.result.now c.hosts-hosts.result.now) = search rules in
    let long : Some c.in-Some-2.switch ≡ long_program role c.switches-numbers.result.now = search rules in
    record { within = within_by d c.args.defs.now (parts_of d c.args.parts.now) _ _ c.requires.parts numbers over; first = long }

pub returns : goal.returns
returns c =
    let d = design_of c.args.checked.now in
    let role = switch_role d c.args.parts.now.ingress in
    let numbers : HasNumbers d c.args.defs.now c.switches-numbers.result.now c.hosts-hosts.result.now = search rules in
    let over : None ≡ first_over (counts d c.args.defs.now role c.switches-numbers.result.now c.hosts-hosts.result.now) = search rules in
    let short : None ≡ long_program role c.switches-numbers.result.now = search rules in
    let first : c.copied.result ≡ slice_get c.switches-numbers.result.now 0 = search rules in
    let within = within_by d c.args.defs.now (parts_of d c.args.parts.now) _ _ c.requires.parts numbers over in
    (record { within = within; first = first }, record { within = within; first = short })
