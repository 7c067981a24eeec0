use Rattle.std.proofs.Common.{ap, refl, rules, sym, ◌∙◌, ◌++◌, [], ◌∷◌}
use Rattle.net_run.specs.Nets.{net_in}
use Rattle.p4_ir.specs.declared.network.LinkEnd.TheVariants.{Switch}
use Rattle.net_run.specs.UnderWay.{stack_ends}
use Rattle.net_run.specs.declared.standing.Standing.{Standing}
use Rattle.net_run.proofs.CopySteps.{start_ends}
use Rattle.net_run.proofs.following.first_stack.Goals as goal

pub returns-clause-ends : goal.returns-clause-ends
returns-clause-ends c =
    let net = net_in c.args.net.now in
    let packet : Standing = record { at = Switch c.in-Some.switch c.in-Some.port; choices = c.new.result; bytes = c.in_ok-copied.field-0; visits = c.args.hops } in
    ap (stack_ends net) (c.in_ok-push.ensures.items ∙ ap (λ cs. cs ++ (packet ∷ [])) c.no_copies-stack.ensures)
    ∙ start_ends net c.args.host c.in-Some.switch c.in-Some.port c.args.hops c.args.bytes.now packet (sym c.in-Some.ensures) refl c.new.ensures.items (search rules) refl
