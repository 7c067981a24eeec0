use Rattle.std.proofs.Common.{◌≡◌, drop, map}
use Rattle.cocoon_num.specs.Lists.{each}
use Rattle.p4_ir.specs.Program.{header_of}
use Rattle.p4_kinds.specs.Parts.{header_names_fit}
use Rattle.p4_kinds.proofs.names.are_headers_named.Given as goal

abbrev pub invariant-loop-header : goal.invariant-loop-header
invariant-loop-header l = each header_names_fit (map header_of (drop l.header-index l.headers)) ≡ each header_names_fit (map header_of (l.headers))
