use Rattle.std.proofs.Common.{◌≡◌, drop}
use Rattle.p4_run.specs.States.{fields_fit}
use Rattle.p4_run.proofs.filling.numbers_fit.Given as goal

abbrev pub invariant-loop-index : goal.invariant-loop-index
invariant-loop-index l = fields_fit (drop l.index l.widths) (drop l.index l.numbers) ≡ fields_fit l.widths l.numbers
