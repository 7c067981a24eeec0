use Rattle.std.proofs.Common.{map, take}
use Rattle.p4_texts.specs.TreeOf.{member_of}
use Rattle.numbering.specs.NameNumbers.{Numbers}
use Rattle.p4_resolve.specs.Scopes.{member_names}
use Rattle.p4_resolve.proofs.scope.names_of_members.Given as goal

abbrev pub invariant-loop-member : goal.invariant-loop-member
invariant-loop-member l = Numbers l.names (member_names (map member_of (take l.member-index l.members)))
