use Rattle.std.proofs.Common.{ℕ, List, ◌++◌, map, take, Option}
use Rattle.cocoon_syntax.specs.TreeOf.{design_of, refine_of}
use Rattle.cocoon_types.specs.FirstFault.{Fault}
use Rattle.form_rules.specs.Walked.{Walked, block_decls, role_names_in}
use Rattle.form_rules.proofs.bodies.note_blocks.Given as goal

abbrev pub invariant-loop-block : goal.invariant-loop-block
invariant-loop-block l = (xs : List (List ℕ)) (start : Option Fault)
    → Walked (design_of l.design) l.fn.seen xs start l.fn.noted
    → Walked (design_of l.design) l.seen (xs ++ role_names_in (block_decls (map refine_of (take l.block-index l.blocks)))) start l.noted
