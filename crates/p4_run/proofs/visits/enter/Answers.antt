use Rattle.std.proofs.Common.{◌≡◌, ◌/◌, ◌%◌, ◌≤◌, IsTrue, length, replicate, take, sym, subst, ap, ◌∙◌, arith}
use Rattle.std.proofs.lemmas.List.{length-take-le}
use Rattle.cocoon_num.specs.Lists.{each}
use Rattle.cocoon_num.specs.PacketForms.{AreBytes, FieldsFit}
use Rattle.cocoon_num.specs.Packets.{header_fields, total}
use Rattle.cocoon_num.specs.Sorts.{is_declared_width}
use Rattle.packed_fields.specs.AtOnce.{bytes_in, widths_in}
use Rattle.packed_fields.proofs.Packing.{fit_length}
use Rattle.p4_ir.specs.P4Tree.{field_widths}
use Rattle.p4_run.specs.Running.{layout_in, program_in}
use Rattle.p4_run.proofs.VisitSteps.{are_bytes, ingress_begins}
use Rattle.p4_run.proofs.WidthFacts.{meta_counted, Widths, zeros_fit}
use Rattle.p4_run.proofs.FitFacts.{declared_at}
use Rattle.p4_run.proofs.visits.enter.Goals as goal

pub fill-requires-clause-declared : goal.fill-requires-clause-declared
fill-requires-clause-declared c =
    let l = c.args.loaded.now in
    let p = program_in l in
    let ws = widths_in (layout_in l) in
    let ms = field_widths p.meta in
    let w : Widths p = declared_at p l.kinds in
    let widths : c.deref.result.now ≡ ws = c.deref.ensures.value ∙ l.widths_are in
    subst (λ xs. IsTrue (each is_declared_width xs)) (sym widths) w.fields

pub fill-requires-clause-long : goal.fill-requires-clause-long
fill-requires-clause-long c =
    let l = c.args.loaded.now in
    let p = program_in l in
    let ws = widths_in (layout_in l) in
    let ms = field_widths p.meta in
    let w : Widths p = declared_at p l.kinds in
    let widths : c.deref.result.now ≡ ws = c.deref.ensures.value ∙ l.widths_are in
    let bytes = c.args.bytes.now in
    let many : length (take l.header_bytes bytes) ≡ l.header_bytes = length-take-le l.header_bytes bytes c.requires.long in
    let t : total c.deref.result.now ≡ total ws = ap total widths in
    let n : l.header_bytes ≡ total ws / 8 = l.bytes_are in
    let whole : total ws % 8 ≡ 0 = w.bytes in
    omega (arith, many, t, n, whole)

pub fill-requires-clause-many : goal.fill-requires-clause-many
fill-requires-clause-many c =
    let l = c.args.loaded.now in
    let p = program_in l in
    let ws = widths_in (layout_in l) in
    let ms = field_widths p.meta in
    let w : Widths p = declared_at p l.kinds in
    let widths : c.deref.result.now ≡ ws = c.deref.ensures.value ∙ l.widths_are in
    sym (fit_length ws c.args.registers.now.fields.items c.requires.fit.fields) ∙ ap length (sym widths)

pub returns-clause-fit : goal.returns-clause-fit
returns-clause-fit c =
    let l = c.args.loaded.now in
    let p = program_in l in
    let ws = widths_in (layout_in l) in
    let ms = field_widths p.meta in
    let w : Widths p = declared_at p l.kinds in
    let widths : c.deref.result.now ≡ ws = c.deref.ensures.value ∙ l.widths_are in
    let meta : c.fill.new.registers.meta.items ≡ replicate (length ms) 0 = c.fill.ensures.meta ∙ ap (λ n. replicate n 0) (sym (fit_length ms c.args.registers.now.meta.items c.requires.fit.meta)) in
    record {
      fields = subst (λ xs. FieldsFit xs c.fill.new.registers.fields.items) widths c.fill.ensures.fits;
      meta = subst (FieldsFit ms) (sym meta) (zeros_fit ms);
    }

pub returns-clause-left : goal.returns-clause-left
returns-clause-left c =
    let l = c.args.loaded.now in
    let p = program_in l in
    let ws = widths_in (layout_in l) in
    let ms = field_widths p.meta in
    let w : Widths p = declared_at p l.kinds in
    let widths : c.deref.result.now ≡ ws = c.deref.ensures.value ∙ l.widths_are in
    let bytes = c.args.bytes.now in
    let all : AreBytes bytes = are_bytes bytes (λ k. omega (arith, c.type_inv.bytes k)) in
    let long : bytes_in (layout_in l) ≤ length bytes = subst (λ n. n ≤ length bytes) l.bytes_are c.requires.long in
    let fields : c.fill.new.registers.fields.items ≡ header_fields ws (take (bytes_in (layout_in l)) bytes) =
    c.fill.ensures.fields ∙ (λ i. header_fields (widths i) (take (l.bytes_are i) bytes)) in
    let meta : c.fill.new.registers.meta.items ≡ replicate (length p.meta) 0 =
    c.fill.ensures.meta ∙ ap (λ n. replicate n 0) (sym (fit_length ms c.args.registers.now.meta.items c.requires.fit.meta) ∙ meta_counted p.meta) in
    λ rows. ingress_begins p rows c.args.port bytes c.fill.new.registers w.whole all long fields meta c.fill.ensures.verdict c.fill.ensures.egress_port c.fill.ensures.group
