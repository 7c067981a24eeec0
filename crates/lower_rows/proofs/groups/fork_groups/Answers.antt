use Rattle.std.proofs.Common.{◌≡◌, ◌+◌, ◌++◌, Some, drop, map, slice_get, rules, sym, ap, ◌∙◌}
use Rattle.std.proofs.lemmas.List.{append_assoc, append-nil, drop_all}
use Rattle.cocoon_syntax.specs.TreeOf.{design_of}
use Rattle.cocoon_types.specs.DefsRules.{fork_calls}
use Rattle.cocoon_types.specs.Design.{functions}
use Rattle.lowering_correct.specs.Groups.{groups_of}
use Rattle.lower_rows.specs.AllGroups.{fork_group_of, place_groups}
use Rattle.lower_rows.proofs.Deciding.{decided-at}
use Rattle.lower_rows.proofs.Placing.{groups-end, groups-step, there-at}
use Rattle.lower_rows.proofs.groups.fork_groups.Goals as goal

pub push_place-requires : goal.push_place-requires
push_place-requires c = λ f t at has.
    let d = design_of c.args.checked.now in
    let there : slice_get c.args.defs.now c.loop-place.number ≡ Some (Some t) =
    ap (slice_get c.args.defs.now) c.loop-place.invariant.number
    ∙ ap (λ ts. slice_get ts c.loop-place.place-index) (sym c.tables-place-items.ensures.are)
    ∙ there-at c.tables-place-items.result.now c.loop-place.place-index c.place-item.result c.loop-place-test.true c.place-item.is ∙ ap Some has in
    decided-at d c.args.defs.now c.requires c.loop-place.number f t at there

pub loop-place-preserved : goal.loop-place-preserved
loop-place-preserved c =
    let d = design_of c.args.checked.now in
    let fs = functions d in
    let places = c.args.defs.now in
    let i = c.loop-place.place-index in
    let old = map fork_group_of c.loop-place.groups.items in
    let place = c.place-item.result in
    let there : slice_get places i ≡ Some place =
    ap (λ ts. slice_get ts i) (sym c.tables-place-items.ensures.are) ∙ there-at c.tables-place-items.result.now i place c.loop-place-test.true c.place-item.is in
    let rest = groups_of (fork_calls d) (drop (i + 1) fs) (drop (i + 1) places) in
    let counted : c.in_ok-number.number ≡ c.loop-place.number + 1 = search rules in
    record {
      number = counted ∙ ap (λ k. k + 1) c.loop-place.invariant.number;
      rest = ap (λ xs. xs ++ rest) (c.in_ok-push_place.ensures ∙ ap (λ k. old ++ place_groups d k place) c.loop-place.invariant.number)
          ∙ append_assoc old (place_groups d i place) rest
          ∙ ap (λ xs. old ++ xs) (sym (groups-step (fork_calls d) fs places i place there))
          ∙ c.loop-place.invariant.rest;
    }

pub returns : goal.returns
returns c =
    let d = design_of c.args.checked.now in
    let groups = map fork_group_of c.loop-place.groups.items in
    let i = c.loop-place.place-index in
    let none = ap (drop i) (sym c.tables-place-items.ensures.are) ∙ drop_all i c.tables-place-items.result.now c.loop-place-test.false in
    sym (append-nil groups)
    ∙ ap (λ xs. groups ++ xs) (sym (ap (groups_of (fork_calls d) (drop i (functions d))) none ∙ groups-end (fork_calls d) (drop i (functions d))))
    ∙ c.loop-place.invariant.rest
