use Rattle.std.proofs.Common.{◌≡◌, ◌∙◌, sym, ap, leb, arith, rules, suc}
use Rattle.std.proofs.lemmas.List.Sorted.{IsPartitionPoint-from_clause, IsPartitionedBy-leb}
use Rattle.declarations.specs.declared.place.Place.{Place}
use Rattle.declarations.proofs.LatestFacts.{before, latest-before}
use Rattle.declarations.proofs.role_table.latest.Goals as goal

pub returns-in_err-checked_sub : goal.returns-in_err-checked_sub
returns-in_err-checked_sub c =
    let parted = IsPartitionedBy-leb (λ (p : Place). p.level) c.args.places.now c.args.level c.requires in
    let point = IsPartitionPoint-from_clause (λ (p : Place). leb p.level c.args.level) c.args.places.now c.partition_point-count.result c.partition_point-count.ensures.partitioned parted (λ a r q k. search rules) in
    let found = latest-before c.args.level c.partition_point-count.result c.args.places.now c.partition_point-count.ensures.bound (λ j e h. point.0 j e (omega arith) h) (λ j e h l. point.1 j e h l) in
    let none : c.partition_point-count.result ≡ 0 = omega (arith, c.in_err-checked_sub.ensures) in
    rw c.from_residual.ensures (sym (found ∙ ap (λ k. before k c.args.places.now) none))

pub returns : goal.returns
returns c =
    let parted = IsPartitionedBy-leb (λ (p : Place). p.level) c.args.places.now c.args.level c.requires in
    let point = IsPartitionPoint-from_clause (λ (p : Place). leb p.level c.args.level) c.args.places.now c.partition_point-count.result c.partition_point-count.ensures.partitioned parted (λ a r q k. search rules) in
    let found = latest-before c.args.level c.partition_point-count.result c.args.places.now c.partition_point-count.ensures.bound (λ j e h. point.0 j e (omega arith) h) (λ j e h l. point.1 j e h l) in
    let some : c.partition_point-count.result ≡ suc c.in_ok-checked_sub.field-0 = omega (arith, c.in_ok-checked_sub.ensures) in
    c.copied.ensures ∙ c.item.ensures ∙ sym (found ∙ ap (λ k. before k c.args.places.now) some)
