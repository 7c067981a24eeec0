use Rattle.std.proofs.Common.{◌≡◌, ◌-◌, ◌+◌, ◌<◌, ◌≤◌, ℕ, suc, drop, length, refl, sym, ap, subst, ◌∙◌, arith}
use Rattle.std.proofs.Math.ListN.{drop_of_length-le}
use Rattle.cocoon_syntax.specs.TreeOf.{design_of}
use Rattle.cocoon_types.specs.Limits.{first_above}
use Rattle.obligation_gen.specs.CountedTrees.{most_leaves}
use Rattle.obligation_gen.specs.Counted.{blocks_counts}
use Rattle.obligation_gen.proofs.LargeCounts.{LeftBehind, next_level, one_behind, passed, told_behind}
use Rattle.obligation_gen.proofs.making.count_all.Goals as goal

pub loop-level-init : goal.loop-level-init
loop-level-init c = refl

pub count_leaves-requires : goal.count_leaves-requires
count_leaves-requires c =
    let l = c.loop-level.auto.level in
    let m = c.loop-level-test.true in
    let n = c.levels-level-end.ensures in
    (omega (arith, l), omega (arith, m, n))

pub returns-in_err-count_leaves-clause-told : goal.returns-in_err-count_leaves-clause-told
returns-in_err-count_leaves-clause-told c =
    let d = design_of c.args.checked.now in
    let level = c.loop-level.level in
    let a = c.loop-level.auto.level in
    let b = c.loop-level-test.true in
    let n = c.levels-level-end.ensures in
    let within : level - 1 < length d.refines = omega (arith, a, b, n) in
    passed c.from_residual.result c.in_err-count_leaves.field-0.0 _ c.from_residual.ensures.1
    (told_behind d (level - 1) within c.loop-level.invariant c.in_err-count_leaves.field-0.0 c.in_err-count_leaves.ensures.told)

pub loop-level-preserved : goal.loop-level-preserved
loop-level-preserved c =
    let d = design_of c.args.checked.now in
    let level = c.loop-level.level in
    let a = c.loop-level.auto.level in
    let b = c.loop-level-test.true in
    let n = c.levels-level-end.ensures in
    let within : level - 1 < length d.refines = omega (arith, a, b, n) in
    subst (LeftBehind d) (next_level level a) (one_behind d (level - 1) within c.loop-level.invariant c.in_ok-count_leaves.ensures.few)

pub returns-clause-few : goal.returns-clause-few
returns-clause-few c =
    let d = design_of c.args.checked.now in
    let k = c.loop-level.level - 1 in
    let b = c.loop-level-test.false in
    let n = c.levels-level-end.ensures in
    let past : length d.refines ≤ k = omega (arith, b, n) in
    c.loop-level.invariant ∙ ap (λ bs. first_above most_leaves (blocks_counts k d bs)) (drop_of_length-le d.refines past)
