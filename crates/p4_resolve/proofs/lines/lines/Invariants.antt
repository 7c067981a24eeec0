use Rattle.std.proofs.Common.{◌≡◌, ℕ, List, [], length, map, drop}
use Rattle.cocoon_num.specs.Tokens.{Kind}
use Rattle.p4_ir.specs.Program as ir
use Rattle.p4_texts.specs.KindFaults.{line_pieces}
use Rattle.p4_resolve.specs.Judged.{Rest}
use Rattle.p4_resolve.proofs.lines.lines.Given as goal

abbrev pub invariant-loop-index : goal.invariant-loop-index
invariant-loop-index l = (line : List ℕ → List Kind → List Kind) → ((x : List ℕ) → length (line x []) ≡ 9) → Rest l.at (line_pieces line (map ir.header_of l.headers) l.names) l.next (line_pieces line (drop l.index (map ir.header_of l.headers)) (drop l.index l.names))
