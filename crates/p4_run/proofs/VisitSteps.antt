-- What ingress and egress leave, by how their statements end.
use Rattle.std.proofs.Common.{◌≡◌, ℕ, suc, ◌<◌, ◌≤◌, Bool, true, false, if◌then◌else◌, List, [], ◌∷◌, drop, get_or, length, replicate, take, Option, Some, None, option_map, option_and_then, sym, ◌∙◌, ap}
use Rattle.std.proofs.lemmas.Bool.{le-ltb, lt-ltb}
use Rattle.std.proofs.lemmas.List.{append-nil}
use Rattle.cocoon_num.specs.PacketForms.{AllWhole, AreBytes, FieldsFit}
use Rattle.cocoon_num.specs.Packets.{enter, header_bytes, header_fields, Layout, leave, Packet}
use Rattle.packed_fields.specs.AtOnce.{bytes_in, grouped, widths_in}
use Rattle.packed_fields.proofs.Headers.{enter_flat, leave_flat}
use Rattle.p4_ir.specs.P4Tree.{Program, program_layout, RowsFile}
use Rattle.p4_ir.specs.Switch.{ingress_of, p4_run_all, state_of}
use Rattle.p4_run.specs.Controls.{running_in}
use Rattle.p4_run.specs.RegisterStates.{state_in}
use Rattle.p4_run.specs.declared.registers.Registers.{Registers}
use Rattle.p4_run.specs.Visits.{ingress_left}

pub are_bytes : (bs : List ℕ) → ((k : ℕ) → get_or bs k 0 < 256) → AreBytes bs
are_bytes [] f = tt
are_bytes (b ∷ bs) f = (f 0, are_bytes bs (λ k. f (suc k)))

abbrev entered_if : Layout → List ℕ → Bool → Option (Packet × List ℕ)
entered_if layout bytes b =
    if b then None else Some (grouped layout (header_fields (widths_in layout) (take (bytes_in layout) bytes)), drop (bytes_in layout) bytes)

-- bytes that are shorter than the headers
pub short_left : (p : Program) (rows : RowsFile) (port : ℕ) (bytes : List ℕ) → AllWhole (program_layout p) → AreBytes bytes → length bytes < bytes_in (program_layout p)
    → ingress_left p rows port bytes ≡ None
short_left p rows port bytes w f l =
    let layout = program_layout p in
    let e : enter layout bytes ≡ None = enter_flat layout bytes w f ∙ ap (entered_if layout bytes) (lt-ltb (length bytes) (bytes_in layout) l) in
    ap (option_and_then (λ entered. ingress_of p rows port entered.0)) e

-- the fields that are cut from bytes that are long enough
pub long_left : (p : Program) (rows : RowsFile) (port : ℕ) (bytes fields : List ℕ) → AllWhole (program_layout p) → AreBytes bytes → bytes_in (program_layout p) ≤ length bytes
    → fields ≡ header_fields (widths_in (program_layout p)) (take (bytes_in (program_layout p)) bytes) → ingress_left p rows port bytes ≡ ingress_of p rows port (grouped (program_layout p) fields)
long_left p rows port bytes fields w f l g =
    let layout = program_layout p in
    let e : enter layout bytes ≡ entered_if layout bytes false = enter_flat layout bytes w f ∙ ap (entered_if layout bytes) (le-ltb (length bytes) (bytes_in layout) l) in
    ap (option_and_then (λ entered. ingress_of p rows port entered.0)) e ∙ ap (λ ns. ingress_of p rows port (grouped layout ns)) (sym g)

-- ---- the bytes of the headers

pub headers_of : (layout : Layout) (r : Registers) (bytes : List ℕ) → AllWhole layout → FieldsFit (widths_in layout) r.fields.items → bytes ≡ header_bytes (widths_in layout) r.fields.items
    → bytes ≡ leave layout (grouped layout r.fields.items) []
headers_of layout r bytes w f e =
    e ∙ sym (append-nil (header_bytes (widths_in layout) r.fields.items)) ∙ sym (leave_flat layout r.fields.items [] w f)

-- ---- where ingress begins

pub ingress_begins : (p : Program) (rows : RowsFile) (port : ℕ) (bytes : List ℕ) (r : Registers) → AllWhole (program_layout p) → AreBytes bytes → bytes_in (program_layout p) ≤ length bytes
    → r.fields.items ≡ header_fields (widths_in (program_layout p)) (take (bytes_in (program_layout p)) bytes) → r.meta.items ≡ replicate (length p.meta) 0
    → r.verdict ≡ 0 → r.egress_port ≡ 0 → r.group ≡ 0
    → ingress_left p rows port bytes ≡ option_map state_of (p4_run_all (running_in p rows.tables true port) p.ingress.body (state_in (program_layout p) r))
ingress_begins p rows port bytes r w f l g m v e o =
    long_left p rows port bytes r.fields.items w f l g
    ∙ (λ i. option_map state_of (p4_run_all (running_in p rows.tables true port) p.ingress.body
    (record { packet = grouped (program_layout p) r.fields.items; meta = sym m i; verdict = sym v i; egress_port = sym e i; group = sym o i })))
