use Rattle.std.proofs.Common.{◌≡◌, map, take}
use Rattle.cocoon_syntax.specs.TreeOf.{header_of}
use Rattle.cocoon_resolve.specs.Readers.{all_widths}
use Rattle.cocoon_resolve.proofs.layout.widths.Given as goal

abbrev pub invariant-loop-header : goal.invariant-loop-header
invariant-loop-header l = l.widths.items ≡ all_widths (map header_of (take l.header-index l.headers))
