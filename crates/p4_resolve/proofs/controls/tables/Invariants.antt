use Rattle.std.proofs.Common.{List, map}
use Rattle.p4_ir.specs.Program as ir
use Rattle.p4_texts.specs.Written.{ProgramText, TableText}
use Rattle.p4_resolve.specs.Controls.{IsBefore, KnowsText}
use Rattle.p4_resolve.proofs.TableFacts.{SoFar}
use Rattle.p4_resolve.proofs.controls.tables.Given as goal

abbrev pub invariant-loop-written : goal.invariant-loop-written
invariant-loop-written l = (t : ProgramText) (done : List TableText) → KnowsText l.scope t → IsBefore l.fn.before t done → SoFar t done l.tables l.at (map ir.table_of l.made.items) l.before l.next l.written-index
