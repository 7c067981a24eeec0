use Rattle.std.proofs.Common.{◌≡◌, ◌++◌, map, take}
use Rattle.cocoon_syntax.specs.TreeOf.{decl_of}
use Rattle.cocoon_resolve.proofs.decls.push_all.Given as goal

abbrev pub invariant-loop-decl : goal.invariant-loop-decl
invariant-loop-decl l = map (λ d. decl_of d.now) l.decls.items ≡ map (λ d. decl_of d.now) l.initial.decls.items ++ map decl_of (take l.decl-index l.more)
