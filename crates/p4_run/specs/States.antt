-- Cited by the clauses of frames and of registers: which registers fit a program, as a test.
use Rattle.std.specs.Prelude.{ℕ, ◌^◌, ◌&&◌, Bool, true, false, nat_lt, List, [], ◌∷◌}
use Rattle.packed_fields.specs.AtOnce.{widths_in}
use Rattle.p4_ir.specs.P4Tree.{field_widths, Program, program_layout}
use Rattle.p4_run.specs.declared.registers.Registers.{Registers}

abbrev pub fields_fit : List ℕ → List ℕ → Bool
fields_fit [] [] = true
fields_fit (w ∷ ws) (n ∷ ns) = nat_lt n (2 ^ w) && fields_fit ws ns
fields_fit _ _ = false

abbrev pub registers_fit : Program → Registers → Bool
registers_fit p r = fields_fit (widths_in (program_layout p)) r.fields.items && fields_fit (field_widths p.meta) r.meta.items
