use Rattle.std.proofs.Common.{◌≡◌, drop, map}
use Rattle.cocoon_num.specs.Lists.{each}
use Rattle.cocoon_num.specs.Tokens.{is_run}
use Rattle.p4_ir.specs.P4Tree.{P4Field}
use Rattle.p4_ir.specs.Program.{field_of}
use Rattle.p4_kinds.proofs.names.are_runs.Given as goal

abbrev pub invariant-loop-field : goal.invariant-loop-field
invariant-loop-field l = each (λ (f : P4Field). is_run f.name) (map field_of (drop l.field-index l.fields)) ≡ each (λ (f : P4Field). is_run f.name) (map field_of (l.fields))
