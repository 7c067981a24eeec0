use Rattle.std.proofs.lemmas.Result.{IfOk-weaker}
use Rattle.bit_blast.proofs.BitSteps.{less-pair}
use Rattle.bit_blast.proofs.made.Gates.less_bit.Goals as goal

pub returns : goal.returns
returns c =
    IfOk-weaker c.choice.result _ _
    (λ g h. less-pair c.args.self.now c.xor.new.self c.choice.new.self c.args.a.number c.args.b.number c.args.below.number c.in_ok-differ.differ.number g.number c.in_ok-differ.ensures h)
    c.choice.ensures
