use Rattle.std.proofs.Common.{◌≡◌, ◌++◌, map, take}
use Rattle.std.specs.Prelude.{flat_map}
use Rattle.cocoon_num.specs.Tree.{Refine}
use Rattle.cocoon_syntax.specs.TreeOf.{decl_of, refine_of}
use Rattle.cocoon_resolve.proofs.decls.all_decls.Given as goal

abbrev pub invariant-loop-block : goal.invariant-loop-block
invariant-loop-block l = map (λ d. decl_of d.now) l.decls.items ≡ map decl_of l.design.decls.items ++ flat_map (λ (b : Refine). b.decls) (map refine_of (take l.block-index l.design.refines.items))
