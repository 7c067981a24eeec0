use Rattle.std.proofs.Common.{drop}
use Rattle.obligation_gen.proofs.NewInputs.{Made}
use Rattle.obligation_gen.proofs.inputs.new_inputs.Given as goal

abbrev pub invariant-loop-width : goal.invariant-loop-width
invariant-loop-width l = Made l.fn.terms l.terms l.made.numbers.items l.made.terms.items (drop l.width-index l.widths) l.widths
