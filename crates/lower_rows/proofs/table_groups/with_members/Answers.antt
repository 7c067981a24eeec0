use Rattle.std.proofs.Common.{◌≡◌, ◌<◌, ◌+◌, ◌++◌, drop, length, map, rules, sym, ap, ap₂, ◌∙◌, arith}
use Rattle.std.proofs.lemmas.List.{append_assoc, append-nil, drop_all}
use Rattle.lowering_correct.specs.Groups.{where_members}
use Rattle.lower_rows.specs.Grouping.{grouped_of, lists_of}
use Rattle.lower_rows.specs.Sets.{grouped_with}
use Rattle.lower_rows.proofs.Walks.{grouped-end, grouped-step}
use Rattle.lower_rows.proofs.table_groups.with_members.Goals.{then-loop-at-test+else-at-members, else-loop-at-test}
use Rattle.lower_rows.proofs.table_groups.with_members.Goals as goal

pub loop-at-preserved : goal.loop-at-preserved
loop-at-preserved c =
    let i = c.loop-at.at in
    let ls = c.args.lists.now in
    let ms = c.args.members.now in
    let old = map grouped_of c.loop-at.groups.items in
    let l = c.index-lists-at.result in
    let m = c.index-members-at.result in
    let rest = grouped_with (lists_of (drop (i + 1) ls)) (lists_of (drop (i + 1) ms)) in
    let args : c.in_ok-args.args.items ≡ l.items = search rules in
    let members : c.in_ok-to_vec.field-0.items ≡ m.items = search rules in
    let less : i < length ls = c.loop-at-test.true in
    record {
      within = omega arith;
      rest = ap (λ xs. xs ++ rest) (c.in_ok-push_group.ensures ∙ ap₂ (λ a b. old ++ where_members a b) args members)
          ∙ append_assoc old (where_members l.items m.items) rest
          ∙ ap (λ xs. old ++ xs) (sym (grouped-step ls ms i l m c.loop-at-test.true c.if-at-members.true c.index-lists-at.is c.index-members-at.is))
          ∙ c.loop-at.invariant.rest;
    }

pub returns : goal.returns
returns c =
    let groups = map grouped_of c.loop-at.groups.items in
    let ls = c.args.lists.now in
    let ms = c.args.members.now in
    let i = c.loop-at.at in
    elim c.loop-at-test.branch [
      | then-loop-at-test+else-at-members w ↦
          sym (append-nil groups)
          ∙ ap (λ xs. groups ++ xs) (sym (ap (λ xs. grouped_with (lists_of (drop i ls)) (lists_of xs)) (drop_all i ms w.if-at-members.false) ∙ grouped-end (lists_of (drop i ls))))
          ∙ c.loop-at.invariant.rest
      | else-loop-at-test w ↦
          sym (append-nil groups) ∙ ap (λ xs. groups ++ grouped_with (lists_of xs) (lists_of (drop i ms))) (sym (drop_all i ls w.loop-at-test.false)) ∙ c.loop-at.invariant.rest
    ]
