use Rattle.std.proofs.Common.{◌≡◌, List, map, drop, reverse}
use Rattle.std.specs.Prelude.{option_map, filter_map}
use Rattle.cocoon_num.specs.Tree.{FunctionDecl, Role}
use Rattle.cocoon_syntax.specs.TreeOf.{decl_of}
use Rattle.cocoon_types.specs.Design.{as_role}
use Rattle.cocoon_types.specs.Limits.{first_above, reported, block_nodes}
use Rattle.cocoon_resolve.specs.Forms.{Knows}
use Rattle.cocoon_resolve.proofs.counts.nodes_over.Given as goal

abbrev pub invariant-loop-decl : goal.invariant-loop-decl
invariant-loop-decl l = (fs : List FunctionDecl) → Knows fs (reverse l.known) → option_map reported (first_above l.most (map (block_nodes fs) (filter_map (λ (r : Role). r.body) (filter_map as_role (map (λ d. decl_of d.now) (drop l.decl-index l.decls)))))) ≡ option_map reported (first_above l.most (map (block_nodes fs) (filter_map (λ (r : Role). r.body) (filter_map as_role (map (λ d. decl_of d.now) l.decls)))))
