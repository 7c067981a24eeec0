use Rattle.std.proofs.Common.{map, drop}
use Rattle.p4_ir.specs.Program as ir
use Rattle.p4_texts.specs.KindFaults.{member_pieces}
use Rattle.p4_texts.specs.TreeOf.{member_of}
use Rattle.p4_resolve.specs.Judged.{Rest}
use Rattle.p4_resolve.proofs.lines.members.Given as goal

abbrev pub invariant-loop-index : goal.invariant-loop-index
invariant-loop-index l = Rest l.at (member_pieces (map ir.header_of l.headers) (map member_of l.members)) l.next (member_pieces (drop l.index (map ir.header_of l.headers)) (map member_of (drop l.index l.members)))
