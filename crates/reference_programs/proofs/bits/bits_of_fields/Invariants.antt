use Rattle.std.proofs.Common.{◌≡◌, ◌++◌, drop}
use Rattle.cocoon_num.specs.PacketForms.{FieldsFit}
use Rattle.reference_programs.specs.Widths.{bits_of}
use Rattle.reference_programs.proofs.bits.bits_of_fields.Given as goal

-- the bits so far, and those of the fields that are left, are those of all fields
abbrev pub invariant-loop-index : goal.invariant-loop-index
invariant-loop-index l = record {
  so_far : l.bits.items ++ bits_of (drop l.index l.widths) (drop l.index l.fields) ≡ bits_of l.widths l.fields;
  fit : FieldsFit (drop l.index l.widths) (drop l.index l.fields);
}
