use Rattle.std.proofs.Common.{◌≡◌, [], None, length, rules}
use Rattle.std.proofs.lemmas.Result.{IfOk-weaker}
use Rattle.cocoon_syntax.specs.TreeOf.{design_of}
use Rattle.lowering_correct.specs.Counts.{first_over}
use Rattle.lower_net.specs.NetDeclarations.{switch_role}
use Rattle.lower_net.specs.Limits.{of_network}
use Rattle.lower_net.proofs.Over.{first_number, over_there}
use Rattle.lower_net.proofs.networks.find_over.Goals as goal

pub returns-else-is_empty : goal.returns-else-is_empty
returns-else-is_empty c = λ places h.
    let d = design_of c.args.checked.now in
    let none : first_over (of_network (length c.args.numbers.now) (length c.args.hosts.now)) ≡ None = search rules in
    let some : c.args.numbers.now ≡ [] → ⊥ = search rules in
    IfOk-weaker c.switch_over.result _ _
    (λ over k. over_there d places (switch_role d c.args.parts.now.ingress) c.args.numbers.now c.args.hosts.now over none some k)
    (c.switch_over.ensures places h (first_number c.args.numbers.now))
