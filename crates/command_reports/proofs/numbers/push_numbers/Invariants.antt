use Rattle.std.proofs.Common.{◌≡◌, ◌++◌, drop}
use Rattle.command_reports.specs.Report.{spaced}
use Rattle.command_reports.proofs.numbers.push_numbers.Given as goal

abbrev pub invariant-loop-number : goal.invariant-loop-number
invariant-loop-number l = l.line.items ++ spaced (drop l.number-index l.numbers) ≡ l.fn.line.items ++ spaced l.numbers
