use Rattle.std.proofs.Common.{◌≡◌, map, drop}
use Rattle.std.specs.Prelude.{option_map, filter_map}
use Rattle.cocoon_num.specs.Tree.{Role}
use Rattle.cocoon_syntax.specs.TreeOf.{decl_of}
use Rattle.cocoon_types.specs.Design.{as_role}
use Rattle.cocoon_types.specs.Limits.{first_above, reported, path_count}
use Rattle.cocoon_resolve.proofs.counts.paths_over.Given as goal

abbrev pub invariant-loop-decl : goal.invariant-loop-decl
invariant-loop-decl l = option_map reported (first_above l.most (map path_count (filter_map (λ (r : Role). r.body) (filter_map as_role (map (λ d. decl_of d.now) (drop l.decl-index l.decls)))))) ≡ option_map reported (first_above l.most (map path_count (filter_map (λ (r : Role). r.body) (filter_map as_role (map (λ d. decl_of d.now) l.decls)))))
