use Rattle.std.proofs.Common.{◌≡◌, drop, map}
use Rattle.cocoon_num.specs.Lists.{each}
use Rattle.p4_ir.specs.P4Kinds.{is_meta_name}
use Rattle.p4_ir.specs.P4Tree.{P4Field}
use Rattle.p4_ir.specs.Program.{field_of}
use Rattle.p4_kinds.proofs.names.are_meta_names.Given as goal

abbrev pub invariant-loop-field : goal.invariant-loop-field
invariant-loop-field l = each (λ (f : P4Field). is_meta_name f.name) (map field_of (drop l.field-index l.fields)) ≡ each (λ (f : P4Field). is_meta_name f.name) (map field_of (l.fields))
