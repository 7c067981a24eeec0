use Rattle.std.proofs.Common.{◌≡◌, map, take, length}
use Rattle.std.specs.Prelude.{filter_map}
use Rattle.cocoon_syntax.specs.TreeOf.{decl_of}
use Rattle.cocoon_types.specs.Design.{as_function}
use Rattle.cocoon_types.specs.Limits.{reported}
use Rattle.cocoon_resolve.proofs.counts.function_count.Given as goal

abbrev pub invariant-loop-decl : goal.invariant-loop-decl
invariant-loop-decl l = l.count ≡ reported (length (filter_map as_function (map (λ d. decl_of d.now) (take l.decl-index l.decls))))
