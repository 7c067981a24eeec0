use Rattle.std.proofs.Common.{map, drop, Option}
use Rattle.cocoon_syntax.specs.TreeOf.{header_of}
use Rattle.cocoon_types.specs.FirstFault.{Fault}
use Rattle.cocoon_types.specs.Noting.{Notes}
use Rattle.type_rules.specs.Tests.{in_headers}
use Rattle.type_rules.proofs.types.note_headers.Given as goal

abbrev pub invariant-loop-header : goal.invariant-loop-header
invariant-loop-header l = (last : Option Fault) → Notes (in_headers (map header_of (drop l.header-index l.headers))) l.noted last → Notes (in_headers (map header_of l.headers)) l.fn.noted last
