use Rattle.std.proofs.Common.{map}
use Rattle.p4_ir.specs.P4Kinds.{Within}
use Rattle.p4_ir.specs.Program as ir
use Rattle.p4_texts.specs.Written.{ProgramText}
use Rattle.p4_resolve.specs.Scopes.{Knows}
use Rattle.p4_resolve.proofs.StmtFacts.{Begun}
use Rattle.p4_resolve.proofs.stmts.+stmts.Given as goal

abbrev pub invariant-block-loop-written : goal.invariant-block-loop-written
invariant-block-loop-written l = (t : ProgramText) (c : Within) → Knows l.scope t c → Begun t c l.at l.stmts (map ir.stmt_of l.made.items) l.next l.written-index
