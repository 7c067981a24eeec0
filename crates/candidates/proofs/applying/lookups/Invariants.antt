use Rattle.std.proofs.Common.{take}
use Rattle.std.specs.List.{AllZip}
use Rattle.candidates.specs.Applying.{IsLookup}
use Rattle.candidates.proofs.applying.lookups.Given as goal

abbrev pub invariant-loop-one : goal.invariant-loop-one
invariant-loop-one l = AllZip (IsLookup l.terms l.env) (take l.one-index l.applied) l.lookups.items
