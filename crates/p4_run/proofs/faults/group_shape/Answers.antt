use Rattle.std.proofs.Common.{◌≡◌, ◌<◌, ◌&&◌, not, [], false, true, get_or, length, map, take, refl, rules, sym, ◌∙◌, ap, arith}
use Rattle.std.proofs.lemmas.List.{length-set}
use Rattle.cocoon_num.specs.Lists.{has_number}
use Rattle.p4_ir.specs.Loading.{group_fits}
use Rattle.p4_ir.specs.NetOf.{group_of}
use Rattle.p4_run.specs.Faults.{first_group_shape}
use Rattle.p4_run.proofs.FaultSteps.{numbers_taken, seen_more, shape_goes, shape_stops}
use Rattle.p4_run.proofs.GroupSteps.{group_numbers}
use Rattle.p4_run.proofs.faults.group_shape.Goals as goal

pub loop-index-init : goal.loop-index-init
loop-index-init c = record {
  many = c.in_ok-seen.ensures.many;
  seen = λ n l. c.in_ok-seen.ensures.none n;
  rest = refl;
}

pub is_shaped-requires : goal.is_shaped-requires
is_shaped-requires c =
    let many : length c.loop-index.seen.items ≡ 65536 = c.loop-index.invariant.many in
    let same : length c.deref.result.now ≡ length c.loop-index.seen.items = ap length c.deref.ensures.value in
    omega arith

pub loop-index-preserved : goal.loop-index-preserved
loop-index-preserved c =
    let groups = c.args.groups.now in
    let i = c.loop-index.index in
    let g = c.index-groups-index.result in
    let seen = c.loop-index.seen.items in
    let before = group_numbers (map group_of (take i groups)) in
    let small : g.number < 65536 = search rules in
    let is : get_or c.deref.result.now g.number false ≡ has_number g.number before = ap (λ xs. get_or xs g.number false) c.deref.ensures.value ∙ c.loop-index.invariant.seen g.number small in
    let shaped : (not (has_number g.number before) && group_fits (group_of g)) ≡ true =
    ap (λ b. not b && group_fits (group_of g)) (sym is) ∙ sym c.is_shaped.ensures ∙ c.if-not-is_shaped.false in
    record {
      many = length-set seen g.number true ∙ c.loop-index.invariant.many;
      seen = λ k l. seen_more seen before g.number 65536 c.loop-index.invariant.many small c.loop-index.invariant.seen k l
          ∙ ap (has_number k) (sym (numbers_taken groups i g c.loop-index-test.true c.index-groups-index.is));
      rest = shape_goes groups i g (first_group_shape [] 0 (map group_of groups)) c.loop-index-test.true c.index-groups-index.is shaped c.loop-index.invariant.rest;
    }

pub returns-then-not-is_shaped : goal.returns-then-not-is_shaped
returns-then-not-is_shaped c =
    let groups = c.args.groups.now in
    let i = c.loop-index.index in
    let g = c.index-groups-index.result in
    let before = group_numbers (map group_of (take i groups)) in
    let small : g.number < 65536 = search rules in
    let is : get_or c.deref.result.now g.number false ≡ has_number g.number before = ap (λ xs. get_or xs g.number false) c.deref.ensures.value ∙ c.loop-index.invariant.seen g.number small in
    let shaped : (not (has_number g.number before) && group_fits (group_of g)) ≡ false =
    ap (λ b. not b && group_fits (group_of g)) (sym is) ∙ sym c.is_shaped.ensures ∙ c.if-not-is_shaped.true in
    shape_stops groups i g (first_group_shape [] 0 (map group_of groups)) c.loop-index-test.true c.index-groups-index.is shaped c.loop-index.invariant.rest
