use Rattle.std.proofs.Common.{take}
use Rattle.cocoon_resolve.proofs.RoleNames.{AreSeen, names_in}
use Rattle.cocoon_resolve.proofs.counts.role_count.Given as goal

abbrev pub invariant-loop-decl : goal.invariant-loop-decl
invariant-loop-decl l = AreSeen (names_in (take l.decl-index l.decls)) l.seen.keys l.count
