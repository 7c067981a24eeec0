use Rattle.std.proofs.Common.{◌+◌, ◌%◌, ◌<◌, ◌≤◌, length, map, rules, arith, sym, ap, ◌∙◌}
use Rattle.std.proofs.lemmas.List.{drop_all}
use Rattle.cocoon_num.specs.Packets.{total}
use Rattle.cocoon_syntax.specs.TreeOf.{param_of}
use Rattle.cocoon_types.specs.Design.{widths_of}
use Rattle.type_rules.proofs.DeclSteps.{bits_step, few_bits}
use Rattle.type_rules.proofs.types.spare_bits.Goals as goal

pub loop-field-preserved : goal.loop-field-preserved
loop-field-preserved c =
    let within : c.loop-field.field-index < length c.args.fields.now = search rules in
    record {
      small = omega arith;
      rest = bits_step c.args.fields.now c.loop-field.field-index c.loop-field.bits (total (widths_of (map param_of c.args.fields.now)) % 8) c.field-item.result within c.field-item.is c.loop-field.invariant.rest;
    }

pub returns : goal.returns
returns c =
    let all : length c.args.fields.now ≤ c.loop-field.field-index = search rules in
    few_bits c.loop-field.bits c.loop-field.invariant.small
    ∙ ap (λ xs. (c.loop-field.bits + total (widths_of (map param_of xs))) % 8) (sym (drop_all c.loop-field.field-index c.args.fields.now all))
    ∙ c.loop-field.invariant.rest
