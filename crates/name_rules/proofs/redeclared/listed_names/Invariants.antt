use Rattle.std.proofs.Common.{map, take}
use Rattle.cocoon_syntax.specs.TreeOf.{name_of}
use Rattle.name_rules.specs.Among.{Seen}
use Rattle.name_rules.proofs.redeclared.listed_names.Given as goal

abbrev pub invariant-loop-role : goal.invariant-loop-role
invariant-loop-role l = Seen l.table (map name_of (take l.role-index l.roles))
