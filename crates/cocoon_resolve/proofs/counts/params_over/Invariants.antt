use Rattle.std.proofs.Common.{◌≡◌, map, drop}
use Rattle.std.specs.Prelude.{option_map, length}
use Rattle.cocoon_num.specs.Tree.{Decl}
use Rattle.cocoon_syntax.specs.TreeOf.{decl_of}
use Rattle.cocoon_types.specs.Sites.{params_of}
use Rattle.cocoon_types.specs.Limits.{first_above, reported}
use Rattle.cocoon_resolve.proofs.counts.params_over.Given as goal

abbrev pub invariant-loop-decl : goal.invariant-loop-decl
invariant-loop-decl l = option_map reported (first_above l.most (map (λ (x : Decl). length (params_of x)) (map (λ d. decl_of d.now) (drop l.decl-index l.decls)))) ≡ option_map reported (first_above l.most (map (λ (x : Decl). length (params_of x)) (map (λ d. decl_of d.now) l.decls)))
