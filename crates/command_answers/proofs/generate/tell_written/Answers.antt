use Rattle.std.proofs.Common.{IfErr, inl, inr, subst}
use Rattle.std.proofs.lemmas.Result.{IfErr-weaker, IfOk-weaker}
use Rattle.net_bundle.specs.Bundle.{bundle}
use Rattle.p4_ir.specs.NetTree.{NetData}
use Rattle.shared_net.specs.Shared.{shared_of}
use Rattle.command_answers.specs.Generating.{NotCounted, NotTold, TellsCount}
use Rattle.command_answers.proofs.Counted.{passed}
use Rattle.command_answers.proofs.generate.tell_written.Goals as goal

pub returns-clause-tells : goal.returns-clause-tells
returns-clause-tells c =
    IfOk-weaker c.tell_packets.result _ _ (λ lines h. subst (λ (n : NetData). TellsCount n c.args.asked.now.hosts c.args.asked.now.packets lines.items) c.in_ok-read.ensures.same h) c.tell_packets.ensures.tells

pub returns-clause-fit : goal.returns-clause-fit
returns-clause-fit c = IfOk-weaker c.tell_packets.result _ _ (λ lines h. c.in_ok-read.ensures.fit) c.tell_packets.ensures.tells

pub returns-clause-refused : goal.returns-clause-refused
returns-clause-refused c =
    IfErr-weaker c.tell_packets.result _ _ (λ r h. inr (c.in_ok-read.ensures.fit, subst (λ (n : NetData). NotCounted n c.args.asked.now.hosts c.args.asked.now.packets r) c.in_ok-read.ensures.same h)) c.tell_packets.ensures.refused

pub returns-in_err-read-clause-refused : goal.returns-in_err-read-clause-refused
returns-in_err-read-clause-refused c =
    let net = shared_of c.args.net.now in
    let r = c.in_err-read.field-0.0 in
    passed (λ answer. IfErr answer (NotTold (bundle c.args.design.now net c.args.certificates.now) net c.args.asked.now.hosts c.args.asked.now.packets)) _ r c.from_residual.ensures.1 (inl c.in_err-read.ensures.refused)
