use Rattle.std.proofs.Common.{◌≡◌, ◌-◌, ◌+◌, ◌<◌, ◌≤◌, ℕ, suc, List, drop, length, map, get_or, Some, refl, sym, ap, subst, ◌∙◌, arith}
use Rattle.std.specs.Prelude.{flat_map, slice_get}
use Rattle.std.proofs.Math.ListN.{drop_of_length-le}
use Rattle.cocoon_num.specs.Tree.{Refine}
use Rattle.cocoon_syntax.specs.TreeOf.{design_of, name_of, refine_of}
use Rattle.cocoon_types.specs.Limits.{first_above}
use Rattle.obligation_gen.specs.CountedTrees.{most_leaves}
use Rattle.obligation_gen.proofs.Tables.{read_there, same_length}
use Rattle.obligation_gen.specs.Counted.{AreFew, TellsFirst, counts_behind, tree_counts}
use Rattle.obligation_gen.proofs.LargeCounts.{counts_are, one_left, one_told, passed}
use Rattle.obligation_gen.proofs.Refinable.{some_bodies}
use Rattle.obligation_gen.proofs.counting.count_leaves.Goals as goal

pub count_role-requires-clause-bodies : goal.count_role-requires-clause-bodies
count_role-requires-clause-bodies c =
    let d = design_of c.args.checked.now in
    let items = c.design.result.now.refines.items in
    let block = c.index-block.result.now in
    let lens : length items ≡ length d.refines = same_length refine_of items ∙ ap (λ x. length (design_of x).refines) c.design.ensures.is in
    let level = c.requires in
    let at : slice_get d.refines (c.args.level - 1) ≡ Some (refine_of block) =
    ap (λ x. slice_get (design_of x).refines (c.args.level - 1)) (sym c.design.ensures.is)
    ∙ read_there refine_of items (c.args.level - 1) block c.index-block.ensures (let a = level.0 in let b = level.1 in omega (arith, a, b, lens)) in
    some_bodies d c.design.ensures.resolves.rules (c.args.level - 1) (refine_of block) at

pub returns-in_err-count_role-clause-told : goal.returns-in_err-count_role-clause-told
returns-in_err-count_role-clause-told c =
    let d = design_of c.args.checked.now in
    let above = c.args.level - 1 in
    let all = c.design.result.now.refines.items in
    let block = c.index-block.result.now in
    let lens : length all ≡ length d.refines = same_length refine_of all ∙ ap (λ x. length (design_of x).refines) c.design.ensures.is in
    let level = c.requires in
    let at : slice_get d.refines above ≡ Some (refine_of block) =
    ap (λ x. slice_get (design_of x).refines above) (sym c.design.ensures.is) ∙ read_there refine_of all above block c.index-block.ensures (let a = level.0 in let b = level.1 in omega (arith, a, b, lens)) in
    let items = c.deref-role-items.result.now in
    let whole : counts_behind above d ≡ flat_map (λ x. tree_counts above d (refine_of block) (name_of x).text) items =
    counts_are d above (refine_of block) name_of items at (ap (map name_of) (sym c.deref-role-items.ensures.value)) in
    passed c.from_residual.result c.in_err-count_role.field-0.0 _ c.from_residual.ensures.1
    (subst (λ ns. TellsFirst ns c.in_err-count_role.field-0.0) (sym whole)
    (one_told (λ x. tree_counts above d (refine_of block) (name_of x).text) items c.loop-role.role-index c.role-item.result c.loop-role-test.true c.role-item.is c.loop-role.invariant c.in_err-count_role.field-0.0
    (subst (λ n. TellsFirst (tree_counts above d (refine_of block) n) c.in_err-count_role.field-0.0) c.bytes.ensures c.in_err-count_role.ensures.told)))

pub loop-role-preserved : goal.loop-role-preserved
loop-role-preserved c =
    let d = design_of c.args.checked.now in
    let above = c.args.level - 1 in
    let block = refine_of c.index-block.result.now in
    one_left (λ x. tree_counts above d block (name_of x).text) c.deref-role-items.result.now c.loop-role.role-index c.role-item.result c.loop-role-test.true c.role-item.is c.loop-role.invariant
    (subst (λ n. AreFew (tree_counts above d block n)) c.bytes.ensures c.in_ok-count_role.ensures.few)

pub returns-clause-few : goal.returns-clause-few
returns-clause-few c =
    let d = design_of c.args.checked.now in
    let above = c.args.level - 1 in
    let all = c.design.result.now.refines.items in
    let block = c.index-block.result.now in
    let lens : length all ≡ length d.refines = same_length refine_of all ∙ ap (λ x. length (design_of x).refines) c.design.ensures.is in
    let level = c.requires in
    let at : slice_get d.refines above ≡ Some (refine_of block) =
    ap (λ x. slice_get (design_of x).refines above) (sym c.design.ensures.is) ∙ read_there refine_of all above block c.index-block.ensures (let a = level.0 in let b = level.1 in omega (arith, a, b, lens)) in
    let items = c.deref-role-items.result.now in
    let whole : counts_behind above d ≡ flat_map (λ x. tree_counts above d (refine_of block) (name_of x).text) items =
    counts_are d above (refine_of block) name_of items at (ap (map name_of) (sym c.deref-role-items.ensures.value)) in
    ap (first_above most_leaves) whole ∙ c.loop-role.invariant
    ∙ ap (λ ys. first_above most_leaves (flat_map (λ x. tree_counts above d (refine_of block) (name_of x).text) ys)) (drop_of_length-le items c.loop-role-test.false)
