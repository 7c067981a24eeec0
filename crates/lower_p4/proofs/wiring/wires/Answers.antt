use Rattle.std.proofs.Common.{subst}
use Rattle.std.proofs.lemmas.Result.{IfOk-weaker}
use Rattle.cocoon_num.specs.Tree.{Design, DefsText}
use Rattle.cocoon_syntax.specs.TreeOf.{design_of}
use Rattle.net_wiring.specs.Differences.{SameWires}
use Rattle.p4_ir.specs.NetOf.{net_of}
use Rattle.p4_ir.specs.NetTree.{NetData}
use Rattle.runtime_defs.specs.Places.{Places}
use Rattle.lower_net.specs.Wired.{HasWires}
use Rattle.lowering_correct.specs.Network.{IsNetwork}
use Rattle.lower_p4.specs.Lowering.{AreOfText}
use Rattle.lower_p4.specs.Lowers.{Lowers}
use Rattle.lower_p4.proofs.wiring.wires.Goals as goal

-- a network under the tables of a text is the one of the text
of_text : (d : Design) (text : DefsText) (places : Places) (net : NetData) → AreOfText d text places → IsNetwork d places net → Lowers d text net
unfolding Lowers
of_text d text places net are is = (places, are, is)

pub returns : goal.returns
returns c =
    let d = design_of c.args.checked.now in
    IfOk-weaker c.wires.result _
    (λ wires. (text : DefsText) (net : NetData) → AreOfText d text c.args.defs.now → Lowers d text net → SameWires (net_of wires) net)
    (λ wires has text net are lowers.
    subst (SameWires (net_of wires)) (c.one_lowering.ensures.one d text has.net net (of_text d text c.args.defs.now has.net are has.is) lowers) has.same) c.wires.ensures
