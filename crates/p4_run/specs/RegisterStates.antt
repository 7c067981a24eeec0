-- Cited by the clauses of resolving and of runs: the states of the definitions that registers stand for, and what they hold
-- where they fit a program.
use Rattle.std.specs.Prelude.{◌<◌, ◌^◌, Bool}
use Rattle.cocoon_num.specs.PacketForms.{FieldsFit}
use Rattle.cocoon_num.specs.Packets.{Layout}
use Rattle.packed_fields.specs.AtOnce.{grouped, widths_in}
use Rattle.p4_ir.specs.P4Tree.{field_widths, Program, program_layout}
use Rattle.p4_ir.specs.Switch.{State}
use Rattle.p4_run.specs.Held.{Held, held}
use Rattle.p4_run.specs.Controls.{own_width}
use Rattle.p4_run.specs.declared.registers.Registers.{Registers}

-- the state, where the headers have these widths
abbrev pub state_at : Layout → Held → State
state_at layout h = record {
  packet = grouped layout h.fields;
  meta = h.meta;
  verdict = h.verdict;
  egress_port = h.egress_port;
  group = h.group;
}

abbrev pub state_in : Layout → Registers → State
state_in layout r = state_at layout (held r)

-- the numbers fit the widths of the program's fields and meta fields, one for each
pub record Fit (p : Program) (r : Registers) : Type 0 where
  pub fields : FieldsFit (widths_in (program_layout p)) r.fields.items
  pub meta : FieldsFit (field_widths p.meta) r.meta.items

-- the same of what is held for a control
pub record Suits (p : Program) (in_ingress : Bool) (h : Held) : Type 0 where
  pub fields : FieldsFit (widths_in (program_layout p)) h.fields
  pub meta : FieldsFit (field_widths p.meta) h.meta
  pub own : h.own < 2 ^ own_width in_ingress
