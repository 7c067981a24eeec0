use Rattle.std.proofs.Common.{rules, ◌≡◌, ◌<◌, ◌==◌, nat_lt, false, length, slice_index_or, None, arith}
use Rattle.std.proofs.lemmas.Bool.Decides.{nat_tests}
use Rattle.std.proofs.lemmas.List.Sorted.{IsPartitionPoint-from_clause}
use Rattle.net_run.proofs.Searching.{At, by_key, either_default, keys_rise, none_at_end, none_other, parted, some_same}
use Rattle.net_run.proofs.finding.host_at.Goals as goal

pub returns-then-at-hosts : goal.returns-then-at-hosts
returns-then-at-hosts c =
    let s = by_key (λ h. h.host) c.args.host in
    let r = keys_rise (λ h. h.host) c.args.hosts.now c.requires in
    let point = IsPartitionPoint-from_clause (λ h. nat_lt h.host c.args.host) _ _ c.partition_point-at.ensures.partitioned (parted _ _ _ s c.args.hosts.now r) (λ a r q k. search rules) in
    let at : At (λ h. nat_lt h.host c.args.host) (λ h. h.host == c.args.host) (λ x y. nat_lt x.host y.host) c.args.hosts.now c.partition_point-at.result =
    record { searched = s; rising = r; low = point.0; high = point.1 } in
    let end : c.partition_point-at.result ≡ length c.args.hosts.now = grind (arith, nat_tests, c.if-at-hosts.true) in
    none_at_end _ _ _ _ _ at end

pub returns-then-known-host : goal.returns-then-known-host
returns-then-known-host c =
    let s = by_key (λ h. h.host) c.args.host in
    let r = keys_rise (λ h. h.host) c.args.hosts.now c.requires in
    let point = IsPartitionPoint-from_clause (λ h. nat_lt h.host c.args.host) _ _ c.partition_point-at.ensures.partitioned (parted _ _ _ s c.args.hosts.now r) (λ a r q k. search rules) in
    let at : At (λ h. nat_lt h.host c.args.host) (λ h. h.host == c.args.host) (λ x y. nat_lt x.host y.host) c.args.hosts.now c.partition_point-at.result =
    record { searched = s; rising = r; low = point.0; high = point.1 } in
    let in_range : c.partition_point-at.result < length c.args.hosts.now = grind (arith, nat_tests, c.if-at-hosts.false, c.partition_point-at.ensures.bound) in
    let other : ((slice_index_or c.args.hosts.now c.partition_point-at.result (record { host = 0; attach = None })).host == c.args.host) ≡ false = grind (arith, nat_tests, c.if-known-host.true) in
    none_other _ _ _ _ _ _ at in_range (either_default _ _ _ _ in_range) other

pub returns : goal.returns
returns c =
    let s = by_key (λ h. h.host) c.args.host in
    let r = keys_rise (λ h. h.host) c.args.hosts.now c.requires in
    let point = IsPartitionPoint-from_clause (λ h. nat_lt h.host c.args.host) _ _ c.partition_point-at.ensures.partitioned (parted _ _ _ s c.args.hosts.now r) (λ a r q k. search rules) in
    let at : At (λ h. nat_lt h.host c.args.host) (λ h. h.host == c.args.host) (λ x y. nat_lt x.host y.host) c.args.hosts.now c.partition_point-at.result =
    record { searched = s; rising = r; low = point.0; high = point.1 } in
    let in_range : c.partition_point-at.result < length c.args.hosts.now = grind (arith, nat_tests, c.if-at-hosts.false, c.partition_point-at.ensures.bound) in
    some_same _ _ _ _ _ _ at in_range (either_default _ _ _ _ in_range) (grind (arith, nat_tests, c.if-known-host.false))
