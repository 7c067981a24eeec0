use Rattle.std.proofs.Common.{ℕ, List, map, drop, Option}
use Rattle.cocoon_num.specs.Tree.{FunctionDecl}
use Rattle.cocoon_syntax.specs.TreeOf.{design_of, refine_of}
use Rattle.cocoon_types.specs.FirstFault.{Fault}
use Rattle.cocoon_types.specs.Noting.{Notes}
use Rattle.type_rules.specs.Tests.{in_blocks}
use Rattle.type_rules.proofs.types.note_blocks.Given as goal

abbrev pub invariant-loop-block : goal.invariant-loop-block
invariant-loop-block l = (level : ℕ) (before : List FunctionDecl) → (at : ℕ) × (now : List FunctionDecl) × ((last : Option Fault)
    → Notes (in_blocks (design_of l.design) at now (map refine_of (drop l.block-index l.blocks))) l.noted last
    → Notes (in_blocks (design_of l.design) level before (map refine_of l.blocks)) l.fn.noted last)
