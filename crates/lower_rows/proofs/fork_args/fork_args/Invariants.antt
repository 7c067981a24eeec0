use Rattle.std.proofs.Common.{take}
use Rattle.declarations.specs.NameNumbers.{firsts}
use Rattle.lower_rows.specs.Numbered.{Holds}
use Rattle.lower_rows.specs.Sets.{row_args}
use Rattle.lower_rows.proofs.fork_args.fork_args.Given as goal

abbrev pub invariant-loop-row : goal.invariant-loop-row
invariant-loop-row l = Holds l.table (firsts (row_args (take l.row-index l.rows)))
