use Rattle.std.proofs.Common.{rules, ◌≡◌, ◌+◌, suc, length, map, Some, subst, sym, ap, ◌∙◌, arith}
use Rattle.std.specs.Prelude.{filter, slice_get}
use Rattle.cocoon_syntax.specs.TreeOf.{design_of, refine_of}
use Rattle.cocoon_types.specs.Design.{role_at}
use Rattle.cocoon_types.specs.Limits.{reported}
use Rattle.refinement.specs.Segments.{is_new}
use Rattle.obligation_laws.specs.Counts.{leaf_count, sends_of, sum_of}
use Rattle.obligation_gen.specs.Tabled.{Tells, entries, role_texts, valued}
use Rattle.obligation_gen.specs.Weighed.{leaves_in}
use Rattle.obligation_gen.proofs.Tables.{leaves_more, read_there, same_length, table_more}
use Rattle.obligation_gen.proofs.counts.leaf_count.Goals as goal

pub loop-bodies-preserved : goal.loop-bodies-preserved
loop-bodies-preserved c =
    let lens : length c.design.result.now.refines.items ≡ length (design_of c.args.checked.now).refines =
    same_length refine_of c.design.result.now.refines.items ∙ ap (λ x. length (design_of x).refines) c.design.ensures.is in
    let is : slice_get (design_of c.args.checked.now).refines c.args.above ≡ Some (refine_of c.index.result.now) =
    ap (λ x. slice_get (design_of x).refines c.args.above) (sym c.design.ensures.is)
    ∙ read_there refine_of c.design.result.now.refines.items c.args.above c.index.result.now c.index.ensures (omega (arith, c.requires.block, lens)) in
    let made : entries c.in_ok-table.table.items ≡ valued (design_of c.args.checked.now) c.args.above c.loop-bodies.table.items (filter (is_new c.args.above (design_of c.args.checked.now)) (role_texts (refine_of c.index.result.now).decls)) = search rules in
    let up : suc c.loop-bodies.bodies ≡ c.loop-bodies.bodies + 1 = omega arith in
    subst (λ k. Tells (role_at (suc c.args.above) (design_of c.args.checked.now)) (is_new c.args.above (design_of c.args.checked.now)) k c.in_ok-table.table.items) up
    (table_more (design_of c.args.checked.now) c.args.above c.loop-bodies.bodies (refine_of c.index.result.now) c.loop-bodies.table.items c.in_ok-table.table.items is c.loop-bodies.invariant made)

pub returns : goal.returns
returns c =
    let up : c.args.above + 1 ≡ suc c.args.above = omega arith in
    let last : suc c.loop-bodies.bodies ≡ c.args.within = search rules in
    c.role_leaves.ensures
    ∙ (λ i. reported (sum_of (map (leaves_in (c.deref-2.ensures.value i)) (sends_of (role_at (up i) (design_of c.args.checked.now)) c.args.role.now))))
    ∙ leaves_more (design_of c.args.checked.now) c.args.above c.loop-bodies.bodies c.loop-bodies.table.items c.loop-bodies.invariant c.args.role.now
    ∙ ap (λ k. reported (leaf_count (role_at (suc c.args.above) (design_of c.args.checked.now)) (is_new c.args.above (design_of c.args.checked.now)) k c.args.role.now)) last
