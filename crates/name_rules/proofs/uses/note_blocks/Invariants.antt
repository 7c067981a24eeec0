use Rattle.std.proofs.Common.{◌≡◌, ◌++◌, List, map, drop, length, Option}
use Rattle.cocoon_num.specs.Tree.{FunctionDecl}
use Rattle.cocoon_syntax.specs.TreeOf.{design_of, refine_of}
use Rattle.cocoon_types.specs.Design.{functions}
use Rattle.cocoon_types.specs.FirstFault.{Fault}
use Rattle.cocoon_types.specs.Noting.{Notes}
use Rattle.cocoon_types.specs.Sites.{sites_from}
use Rattle.name_rules.specs.Tests.{in_decls}
use Rattle.name_rules.proofs.DeclSteps.{decls_in, functions_in}
use Rattle.name_rules.proofs.uses.note_blocks.Given as goal

abbrev pub invariant-loop-block : goal.invariant-loop-block
invariant-loop-block l = (before : List FunctionDecl) → l.fn.start.functions ≡ length before → functions (design_of l.design) ≡ before ++ functions_in (decls_in (map refine_of l.blocks))
    → (now : List FunctionDecl) × (l.point.functions ≡ length now) × (functions (design_of l.design) ≡ now ++ functions_in (decls_in (map refine_of (drop l.block-index l.blocks))))
    × ((last : Option Fault)
    → Notes (in_decls (sites_from (design_of l.design) l.point.level now (map refine_of (drop l.block-index l.blocks)))) l.noted last
    → Notes (in_decls (sites_from (design_of l.design) l.fn.start.level before (map refine_of l.blocks))) l.fn.noted last)
