use Rattle.std.proofs.Common.{All, ◌≡◌, ◌<◌, ◌+◌, arith, map, nat_lt, subst, sym}
use Rattle.std.proofs.lemmas.List.Elements.{All-push, All-weaker}
use Rattle.p4_ir.specs.NetOf.{key_row_of}
use Rattle.row_search.specs.Held.{key_count}
use Rattle.row_search.specs.Least.{FindPlaces}
use Rattle.row_search.proofs.PartFacts.{all_parts, no_parts, one_more}
use Rattle.row_search.proofs.parted.laid_parts.Goals as goal

pub loop-part-init : goal.loop-part-init
loop-part-init c =
    let rows = map key_row_of c.args.rows.now in record {
      keys = subst (All (λ f. key_count f ≡ c.args.count)) (sym c.new-parts.ensures.items) (λ k d l. absurd (omega arith));
      places = subst (FindPlaces c.args.count (λ n. nat_lt n 0) c.args.numbers.now rows) (sym c.new-parts.ensures.items) (no_parts c.args.count c.args.numbers.now rows);
    }

pub loop-part-preserved : goal.loop-part-preserved
loop-part-preserved c =
    let rows = map key_row_of c.args.rows.now in
    let parts = c.loop-part.parts.items in
    let laid = c.in_ok-laid_part.field-0 in record {
      keys = subst (All (λ f. key_count f ≡ c.args.count)) (sym c.in_ok-push.ensures.items) (All-push (λ f. key_count f ≡ c.args.count) parts laid c.loop-part.invariant.keys c.in_ok-laid_part.ensures.keys);
      places = subst (FindPlaces c.args.count (λ n. nat_lt n (c.loop-part.part + 1)) c.args.numbers.now rows) (sym c.in_ok-push.ensures.items)
          (one_more c.args.count c.loop-part.part c.args.numbers.now rows parts laid c.loop-part.invariant.places c.in_ok-laid_part.ensures.place);
    }

pub returns-clause-places : goal.returns-clause-places
returns-clause-places c =
    let most = c.part_count-most.result in
    let part = c.loop-part.part in
    let numbers = c.args.numbers.now in
    let over = c.loop-part-test.false in
    all_parts c.args.count part numbers (map key_row_of c.args.rows.now) c.loop-part.parts.items
    (All-weaker (λ n. n < most) (λ n. n < part) (λ n l. omega (arith, l, over)) numbers c.part_count-most.ensures) c.loop-part.invariant.places
