use Rattle.std.proofs.Common.{take}
use Rattle.std.specs.List.{AllZip}
use Rattle.runtime_defs.specs.TrueRows.{IsListed}
use Rattle.runtime_defs.proofs.true_numbers.all_numbers.Given as goal

abbrev pub invariant-loop-place : goal.invariant-loop-place
invariant-loop-place l = AllZip IsListed (take l.place-index l.tables) l.numbers.items
