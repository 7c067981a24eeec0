use Rattle.std.proofs.Common.{sym, ◌∙◌}
use Rattle.packed_fields.specs.AtOnce.{widths_in}
use Rattle.packed_fields.proofs.Packing.{fit_length}
use Rattle.p4_ir.specs.P4Tree.{field_widths}
use Rattle.p4_run.specs.Running.{layout_in, program_in}
use Rattle.p4_run.proofs.visits.start.Goals as goal

pub copy_from-requires-clause-fields : goal.copy_from-requires-clause-fields
copy_from-requires-clause-fields c =
    let ws = widths_in (layout_in c.args.loaded.now) in
    sym (fit_length ws c.args.registers.now.fields.items c.requires.fit.fields) ∙ fit_length ws c.args.left.now.fields.items c.requires.left.fields

pub copy_from-requires-clause-meta : goal.copy_from-requires-clause-meta
copy_from-requires-clause-meta c =
    let ms = field_widths (program_in c.args.loaded.now).meta in
    sym (fit_length ms c.args.registers.now.meta.items c.requires.fit.meta) ∙ fit_length ms c.args.left.now.meta.items c.requires.left.meta
