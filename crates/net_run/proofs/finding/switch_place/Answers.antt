use Rattle.std.proofs.Common.{rules, ◌<◌, ◌==◌, nat_lt, length, ◌∙◌, arith}
use Rattle.std.proofs.lemmas.Bool.Decides.{nat_tests}
use Rattle.std.proofs.lemmas.List.Sorted.{IsPartitionPoint-from_clause}
use Rattle.net_run.proofs.Searching.{At, by_key, indexed, keys_rise, none_at_end, none_other, parted, some_same}
use Rattle.net_run.proofs.finding.switch_place.Goals as goal
use Rattle.net_run.proofs.finding.switch_place.Goals.{then-at-switches-via-then-at-switches, then-at-switches-via-else-at-switches+then-switches-at}

pub returns-then-at-switches : goal.returns-then-at-switches
returns-then-at-switches c =
    let s = by_key (λ f. f.number) c.args.number in
    let r = keys_rise (λ f. f.number) c.args.switches.now c.requires in
    let point = IsPartitionPoint-from_clause (λ f. nat_lt f.number c.args.number) _ _ c.partition_point-at.ensures.partitioned (parted _ _ _ s c.args.switches.now r) (λ a r q k. search rules) in
    let at : At (λ f. nat_lt f.number c.args.number) (λ f. f.number == c.args.number) (λ x y. nat_lt x.number y.number) c.args.switches.now c.partition_point-at.result =
    record { searched = s; rising = r; low = point.0; high = point.1 } in
    elim c.then-at-switches.branch [
      | then-at-switches-via-then-at-switches w ↦ none_at_end _ _ _ _ _ at (grind (arith, nat_tests, w.if-at-switches.true))
      | then-at-switches-via-else-at-switches+then-switches-at w ↦
          none_other _ _ _ _ _ w.index-switches-at.result at (grind (arith, nat_tests, w.if-at-switches.false, c.partition_point-at.ensures.bound)) w.index-switches-at.is (grind (arith, nat_tests, w.if-switches-at.true))
    ]

pub returns : goal.returns
returns c =
    let s = by_key (λ f. f.number) c.args.number in
    let r = keys_rise (λ f. f.number) c.args.switches.now c.requires in
    let point = IsPartitionPoint-from_clause (λ f. nat_lt f.number c.args.number) _ _ c.partition_point-at.ensures.partitioned (parted _ _ _ s c.args.switches.now r) (λ a r q k. search rules) in
    let at : At (λ f. nat_lt f.number c.args.number) (λ f. f.number == c.args.number) (λ x y. nat_lt x.number y.number) c.args.switches.now c.partition_point-at.result =
    record { searched = s; rising = r; low = point.0; high = point.1 } in
    let in_range : c.partition_point-at.result < length c.args.switches.now = grind (arith, nat_tests, c.if-at-switches.false, c.partition_point-at.ensures.bound) in
    indexed c.args.switches.now c.partition_point-at.result c.index-switches-at.result in_range c.index-switches-at.is
    ∙ some_same _ _ _ _ _ c.index-switches-at.result at in_range c.index-switches-at.is (grind (arith, nat_tests, c.if-switches-at.false))
