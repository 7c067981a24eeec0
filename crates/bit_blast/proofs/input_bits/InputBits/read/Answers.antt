use Rattle.std.proofs.Common.{arith, subst, sym, ap, length, ◌<◌, ◌^◌}
use Rattle.std.proofs.lemmas.List.{length-map}
use Rattle.cnf_core.specs.Satisfying.{makes_true}
use Rattle.bit_blast.specs.declared.bit.Bit.{Bit}
use Rattle.bit_blast.specs.Emitted.{numbers}
use Rattle.bit_blast.proofs.InputFacts.{value-fits}
use Rattle.bit_blast.proofs.input_bits.InputBits.read.Goals as goal

pub new-requires-clause-fits : goal.new-requires-clause-fits
new-requires-clause-fits c =
    let n = length-map c.deref.result.now (λ (b : Bit). b.number) in
    let m = ap length c.deref.ensures.value in
    subst (λ v. v < 2 ^ c.args.self.now.width) (sym c.value.ensures)
    (value-fits (makes_true c.args.assignment.now) (numbers c.deref.result.now) c.args.self.now.width (let f = c.args.self.now.few in omega arith))
