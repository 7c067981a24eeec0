use Rattle.std.proofs.Common.{◌≡◌, map, take}
use Rattle.bv_terms.specs.Rebuilt.{name_in}
use Rattle.bv_terms.proofs.substitute.all_renamed.Given as goal

abbrev pub invariant-loop-part : goal.invariant-loop-part
invariant-loop-part l = l.others.items ≡ map (name_in l.ids) (take l.part-index l.parts)
