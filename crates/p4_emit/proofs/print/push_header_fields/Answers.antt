use Rattle.std.proofs.Common.{map, refl, rules}
use Rattle.p4_ir.specs.Program.{field_of}
use Rattle.p4_emit.specs.Printed.{each_text, header_field_text}
use Rattle.p4_emit.proofs.Printing.{sets_out, walk_step, walk_end}
use Rattle.p4_emit.proofs.print.push_header_fields.Goals as goal

pub loop-field-init : goal.loop-field-init
loop-field-init c = sets_out _ _

pub loop-field-preserved : goal.loop-field-preserved
loop-field-preserved c = walk_step (λ ys. each_text header_field_text (map field_of ys)) (λ y. header_field_text (field_of y)) (λ y ys. refl) c.args.fields.now c.loop-field.field-index c.field-item.result c.field-item.result (search rules) (search rules) c.loop-field.invariant c.push_header_field.ensures

pub returns : goal.returns
returns c = walk_end (λ ys. each_text header_field_text (map field_of ys)) refl c.args.fields.now c.loop-field.field-index (search rules) c.loop-field.invariant
