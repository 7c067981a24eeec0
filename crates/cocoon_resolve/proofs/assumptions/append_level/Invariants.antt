use Rattle.std.proofs.Common.{◌≡◌, ◌++◌, filter_map, map, take}
use Rattle.cocoon_syntax.specs.TreeOf.{assume_of, decl_of}
use Rattle.cocoon_types.specs.Limits.{as_assumption}
use Rattle.cocoon_resolve.proofs.assumptions.append_level.Given as goal

abbrev pub invariant-loop-decl : goal.invariant-loop-decl
invariant-loop-decl l = map assume_of l.held.items ≡ map assume_of l.fn.held.items ++ filter_map as_assumption (map decl_of (take l.decl-index l.decls))
