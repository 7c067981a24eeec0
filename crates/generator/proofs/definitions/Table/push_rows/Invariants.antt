use Rattle.text_lines.specs.Printing.{Prints}
use Rattle.generator.specs.Definitions.{rows_of}
use Rattle.generator.proofs.definitions.Table.push_rows.Given as goal

abbrev pub invariant-loop-host : goal.invariant-loop-host
invariant-loop-host l = Prints l.fn.out (rows_of l.self l.hosts l.host) l.out
