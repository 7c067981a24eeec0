use Rattle.std.proofs.Common.{◌≡◌, map, drop}
use Rattle.std.specs.Prelude.{option_map}
use Rattle.cocoon_num.specs.Tree.{Refine}
use Rattle.cocoon_syntax.specs.TreeOf.{refine_of}
use Rattle.cocoon_types.specs.Limits.{first_above, reported}
use Rattle.cocoon_resolve.proofs.counts.within_over.Given as goal

abbrev pub invariant-loop-block : goal.invariant-loop-block
invariant-loop-block l = option_map reported (first_above l.most (map (λ (b : Refine). b.within) (map refine_of (drop l.block-index l.blocks)))) ≡ option_map reported (first_above l.most (map (λ (b : Refine). b.within) (map refine_of l.blocks)))
