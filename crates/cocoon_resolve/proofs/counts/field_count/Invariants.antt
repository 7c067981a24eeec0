use Rattle.std.proofs.Common.{◌≡◌, map, take, length}
use Rattle.cocoon_num.specs.Tree.{HeaderDecl}
use Rattle.cocoon_num.specs.Packets.{total}
use Rattle.cocoon_syntax.specs.TreeOf.{header_of}
use Rattle.cocoon_types.specs.Limits.{reported}
use Rattle.cocoon_resolve.proofs.counts.field_count.Given as goal

abbrev pub invariant-loop-header : goal.invariant-loop-header
invariant-loop-header l = l.count ≡ reported (total (map (λ (h : HeaderDecl). length h.fields) (map header_of (take l.header-index l.headers))))
