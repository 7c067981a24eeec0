use Rattle.std.proofs.Common.{IfErr}
use Rattle.cocoon_num.specs.Tree.{DefsText}
use Rattle.cocoon_syntax.specs.TreeOf.{design_of}
use Rattle.command_reports.specs.declared.refusal.Refusal.TheVariants.{NoMemory}
use Rattle.lower_p4.specs.Lowering.{AreOfText}
use Rattle.lower_p4.specs.Lowers.{Lowers}
use Rattle.p4_ir.specs.NetOf.{net_of}
use Rattle.p4_ir.specs.NetTree.{NetData}
use Rattle.command_answers.specs.Updating.{HasOtherWires}
use Rattle.command_answers.proofs.Counted.{passed}
use Rattle.command_answers.proofs.Rewiring.{differ_after, on_err, on_ok, same_after}
use Rattle.command_answers.proofs.update.compare_bound.Goals as goal

pub returns-in_err-new-clause-differ : goal.returns-in_err-new-clause-differ
returns-in_err-new-clause-differ c =
    let d = design_of c.args.bound.now.checked in
    passed (λ answer. IfErr answer (λ r. (text : DefsText) (net : NetData) → AreOfText d text c.args.bound.now.defs → Lowers d text net → HasOtherWires (net_of c.args.old.now) net r)) _ NoMemory c.from_residual.ensures.1
    (λ text net are lowers. tt)

pub returns-clause-same : goal.returns-clause-same
returns-clause-same c =
    on_ok c.compare.result (λ same text net are lowers. same_after (net_of c.args.old.now) (net_of c.in_ok-new.new) net same (c.in_ok-new.ensures text net are lowers)) c.compare.ensures.same

pub returns-clause-differ : goal.returns-clause-differ
returns-clause-differ c =
    on_err c.compare.result (λ r differ text net are lowers. differ_after (net_of c.args.old.now) (net_of c.in_ok-new.new) net r (c.in_ok-new.ensures text net are lowers) differ) c.compare.ensures.differ
