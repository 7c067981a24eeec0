use Rattle.std.proofs.Common.{take}
use Rattle.std.specs.List.{AllZip}
use Rattle.candidates.specs.Applying.{IsArgument}
use Rattle.candidates.proofs.applying.arguments.Given as goal

abbrev pub invariant-loop-id : goal.invariant-loop-id
invariant-loop-id l = AllZip (IsArgument l.terms l.env) (take l.id-index l.ids) l.values.items
