use Rattle.std.proofs.Common.{map}
use Rattle.bit_blast.specs.Blasting.{row_of}
use Rattle.bit_blast.specs.InputTables.{IsMapped}
use Rattle.bit_blast.proofs.inputs.InputMap.new.Given as goal

abbrev pub invariant-loop-input : goal.invariant-loop-input
invariant-loop-input l = IsMapped l.terms l.table l.input (map row_of l.inputs.items)
