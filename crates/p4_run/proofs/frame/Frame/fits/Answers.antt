use Rattle.std.proofs.Common.{◌≡◌, ◌↔◌, ◌==◌, ◌&&◌, Bool, true, IsTrue, length, sym, ◌∙◌}
use Rattle.std.proofs.lemmas.Bool.{and_from, and_parts, eqb-true, eq-eqb}
use Rattle.packed_fields.specs.AtOnce.{bytes_in, widths_in}
use Rattle.p4_ir.specs.P4Tree.{field_widths, Program, program_layout}
use Rattle.p4_run.specs.Frames.{Fits, frame_fits}
use Rattle.p4_run.specs.Running.{program_in}
use Rattle.p4_run.specs.RegisterStates.{Fit}
use Rattle.p4_run.specs.States.{fields_fit, registers_fit}
use Rattle.p4_run.specs.declared.frame.Frame.{Frame}
use Rattle.p4_run.specs.declared.registers.Registers.{Registers}
use Rattle.p4_run.proofs.FitFacts.{fit_true, true_fit}
use Rattle.p4_run.proofs.frame.Frame.fits.Goals as goal

fit_from : (p : Program) (r : Registers) → registers_fit p r ≡ true → Fit p r
fit_from p r h =
    let parts = and_parts (fields_fit (widths_in (program_layout p)) r.fields.items) (fields_fit (field_widths p.meta) r.meta.items) h in
    record { fields = fit_true (widths_in (program_layout p)) r.fields.items parts.0; meta = fit_true (field_widths p.meta) r.meta.items parts.1 }

test_from : (p : Program) (r : Registers) → Fit p r → registers_fit p r ≡ true
test_from p r f =
    and_from (fields_fit (widths_in (program_layout p)) r.fields.items) (fields_fit (field_widths p.meta) r.meta.items)
    (true_fit (widths_in (program_layout p)) r.fields.items f.fields) (true_fit (field_widths p.meta) r.meta.items f.meta)

both_ways : (p : Program) (f : Frame) (b : Bool) → b ≡ frame_fits p f → IsTrue b ↔ Fits p f
both_ways p f b e = (
  (λ h.
      let a = and_parts ((length f.bytes.items == bytes_in (program_layout p)) && registers_fit p f.left) (registers_fit p f.current) (sym e ∙ h) in
      let d = and_parts (length f.bytes.items == bytes_in (program_layout p)) (registers_fit p f.left) a.0 in
      record { left = fit_from p f.left d.1; current = fit_from p f.current a.1; bytes = eqb-true (length f.bytes.items) (bytes_in (program_layout p)) d.0 }),
  (λ h.
      e ∙ and_from ((length f.bytes.items == bytes_in (program_layout p)) && registers_fit p f.left) (registers_fit p f.current)
      (and_from (length f.bytes.items == bytes_in (program_layout p)) (registers_fit p f.left) (eq-eqb (length f.bytes.items) (bytes_in (program_layout p)) h.bytes) (test_from p f.left h.left))
      (test_from p f.current h.current)),
)

pub returns : goal.returns
returns c = both_ways (program_in c.args.loaded.now) c.args.self.now c.frame_fits.result c.frame_fits.ensures
