use Rattle.std.proofs.Common.{◌-◌}
use Rattle.bv_terms.specs.Arenas.{inputs_in}
use Rattle.cocoon_syntax.specs.TreeOf.{design_of, name_of, refine_of}
use Rattle.obligation_gen.proofs.Roles.{Owing, left_of}
use Rattle.obligation_gen.proofs.making.of_block.Given as goal

abbrev pub invariant-loop-name : goal.invariant-loop-name
invariant-loop-name l =
    Owing (design_of l.checked) l.fn.terms l.terms l.all.items
    (left_of (design_of l.checked) (l.level - 1) (refine_of l.block) name_of l.name-items l.name-index (inputs_in l.terms))
    (left_of (design_of l.checked) (l.level - 1) (refine_of l.block) name_of l.name-items 0 (inputs_in l.fn.terms))
