use Rattle.std.proofs.Common.{rules, ◌≡◌, ◌<◌, ◌==◌, ◌&&◌, length, slice_index_or, arith}
use Rattle.std.proofs.lemmas.Bool.Decides.{nat_tests}
use Rattle.std.proofs.lemmas.List.Sorted.{IsPartitionPoint-from_clause}
use Rattle.p4_ir.specs.declared.network.Link.{Link}
use Rattle.p4_ir.specs.declared.network.LinkEnd.TheVariants.{Switch}
use Rattle.net_run.specs.Locations.{location_of}
use Rattle.net_run.proofs.Searching.{At, by_pair, either_default, pair_keys_rise, pair_lt, none_at_end, none_other, parted, some_same}
use Rattle.net_run.proofs.finding.link_at.Goals as goal
use Rattle.net_run.proofs.finding.link_at.Goals.{then-known-switch-via-then-known-switch, then-known-switch-via-else-known-switch+then-known-port}

pub returns-then-at-links : goal.returns-then-at-links
returns-then-at-links c =
    let s = by_pair location_of (c.args.switch, c.args.port) in
    let r = pair_keys_rise location_of c.args.links.now c.requires in
    let point = IsPartitionPoint-from_clause (λ l. pair_lt (location_of l) (c.args.switch, c.args.port)) _ _ c.partition_point-at.ensures.partitioned (parted _ _ _ s c.args.links.now r) (λ a r q k. search rules) in
    let at : At (λ l. pair_lt (location_of l) (c.args.switch, c.args.port)) (λ l. (l.switch == c.args.switch) && (l.port == c.args.port)) (λ x y. pair_lt (location_of x) (location_of y)) c.args.links.now c.partition_point-at.result =
    record { searched = s; rising = r; low = point.0; high = point.1 } in
    let end : c.partition_point-at.result ≡ length c.args.links.now = grind (arith, nat_tests, c.if-at-links.true) in
    none_at_end _ _ _ _ _ at end

pub returns-then-known-switch : goal.returns-then-known-switch
returns-then-known-switch c =
    let s = by_pair location_of (c.args.switch, c.args.port) in
    let r = pair_keys_rise location_of c.args.links.now c.requires in
    let point = IsPartitionPoint-from_clause (λ l. pair_lt (location_of l) (c.args.switch, c.args.port)) _ _ c.partition_point-at.ensures.partitioned (parted _ _ _ s c.args.links.now r) (λ a r q k. search rules) in
    let at : At (λ l. pair_lt (location_of l) (c.args.switch, c.args.port)) (λ l. (l.switch == c.args.switch) && (l.port == c.args.port)) (λ x y. pair_lt (location_of x) (location_of y)) c.args.links.now c.partition_point-at.result =
    record { searched = s; rising = r; low = point.0; high = point.1 } in
    let in_range : c.partition_point-at.result < length c.args.links.now = grind (arith, nat_tests, c.if-at-links.false, c.partition_point-at.ensures.bound) in
    let d : Link = record { switch = 0; port = 0; to = Switch 0 0 } in
    let x = slice_index_or c.args.links.now c.partition_point-at.result d in
    none_other _ _ _ _ _ x at in_range (either_default _ _ _ _ in_range) (elim c.then-known-switch.branch [
      | then-known-switch-via-then-known-switch w ↦ grind (arith, nat_tests, w.if-known-switch.true)
      | then-known-switch-via-else-known-switch+then-known-port w ↦ grind (arith, nat_tests, w.if-known-switch.false, w.if-known-port.true)
    ])

pub returns : goal.returns
returns c =
    let s = by_pair location_of (c.args.switch, c.args.port) in
    let r = pair_keys_rise location_of c.args.links.now c.requires in
    let point = IsPartitionPoint-from_clause (λ l. pair_lt (location_of l) (c.args.switch, c.args.port)) _ _ c.partition_point-at.ensures.partitioned (parted _ _ _ s c.args.links.now r) (λ a r q k. search rules) in
    let at : At (λ l. pair_lt (location_of l) (c.args.switch, c.args.port)) (λ l. (l.switch == c.args.switch) && (l.port == c.args.port)) (λ x y. pair_lt (location_of x) (location_of y)) c.args.links.now c.partition_point-at.result =
    record { searched = s; rising = r; low = point.0; high = point.1 } in
    let in_range : c.partition_point-at.result < length c.args.links.now = grind (arith, nat_tests, c.if-at-links.false, c.partition_point-at.ensures.bound) in
    some_same _ _ _ _ _ _ at in_range (either_default _ _ _ _ in_range) (grind (arith, nat_tests, c.if-known-switch.false, c.if-known-port.false))
