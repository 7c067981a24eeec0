use Rattle.std.proofs.Common.{◌-◌}
use Rattle.bv_terms.specs.Arenas.{inputs_in}
use Rattle.cocoon_syntax.specs.TreeOf.{design_of}
use Rattle.obligation_gen.proofs.Roles.{Owing, left_behind}
use Rattle.obligation_gen.proofs.making.of_levels.Given as goal

abbrev pub invariant-loop-level : goal.invariant-loop-level
invariant-loop-level l =
    Owing (design_of l.checked) l.fn.terms l.terms l.all.items
    (left_behind (design_of l.checked) (l.level - 1) (inputs_in l.terms))
    (left_behind (design_of l.checked) 0 (inputs_in l.fn.terms))
