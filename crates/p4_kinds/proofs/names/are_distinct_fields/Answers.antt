use Rattle.std.proofs.Common.{◌-◌, arith, refl, rules, sym}
use Rattle.p4_ir.specs.Program.{field_of}
use Rattle.p4_kinds.specs.Parts.{field_name}
use Rattle.p4_kinds.proofs.NameFacts.{seen_more, seen_twice, none_left}
use Rattle.p4_kinds.proofs.names.are_distinct_fields.Goals as goal

pub loop-left-init : goal.loop-left-init
loop-left-init c = record {
  within = omega arith;
  seen = none_left field_name field_of c.args.fields.now c.new-later.result.keys c.new-later.ensures.empty;
}

pub loop-left-preserved : goal.loop-left-preserved
loop-left-preserved c =
    let inv = c.loop-left.invariant in
    record {
      within = omega (arith, inv.within);
      seen = seen_more field_name field_of c.args.fields.now (c.loop-left.left - 1) c.loop-left.left c.index-fields-left.result c.loop-left.later.keys c.is_new.new.names.keys c.in_ok-is_new.field-0
          (omega arith) inv.within refl c.index-fields-left.is inv.seen (rw c.bytes.ensures at c.in_ok-is_new.ensures) (search rules);
    }

pub returns-then-not-branch : goal.returns-then-not-branch
returns-then-not-branch c =
    let inv = c.loop-left.invariant in
    sym (seen_twice field_name field_of c.args.fields.now (c.loop-left.left - 1) c.loop-left.left c.index-fields-left.result c.loop-left.later.keys c.is_new.new.names.keys c.in_ok-is_new.field-0
    (omega arith) inv.within refl c.index-fields-left.is inv.seen (rw c.bytes.ensures at c.in_ok-is_new.ensures) (search rules))
