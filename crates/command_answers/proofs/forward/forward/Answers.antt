use Rattle.std.proofs.Common.{inl}
use Rattle.net_run.specs.Nets.{net_in}
use Rattle.command_line.specs.Command.{forward as command}
use Rattle.command_answers.specs.Answering.{Asked}
use Rattle.command_answers.proofs.Counted.{passed}
use Rattle.command_answers.proofs.Forwarded.{asks_good, not_run, reports}
use Rattle.command_answers.proofs.forward.forward.Goals as goal

pub returns-in_err-lines-clause-asked : goal.returns-in_err-lines-clause-asked
returns-in_err-lines-clause-asked c = λ inputs there bundle.
    let asked = c.args.asked.now in
    let r = c.in_err-lines.field-0.0 in
    passed (Asked (command asked.out.now asked.packets.now asked.hops) inputs) _ r c.from_residual.ensures.1
    (not_run asked.out.now asked.packets.now asked.hops inputs c.args.text.now (net_in c.args.net.now) r there bundle c.in_err-lines.ensures.refused)

pub returns-clause-asked : goal.returns-clause-asked
returns-clause-asked c = λ inputs there bundle.
    let asked = c.args.asked.now in
    let net = net_in c.args.net.now in
    let lines = c.in_ok-lines.lines.items in
    let ran = c.in_ok-lines.ensures.ran in inl (
      asks_good asked.out.now asked.packets.now asked.hops inputs c.args.text.now net lines there bundle ran,
      reports asked.out.now asked.packets.now asked.hops inputs c.args.text.now net lines _ there bundle ran c.success.ensures,
    )
