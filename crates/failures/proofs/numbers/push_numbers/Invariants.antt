use Rattle.std.proofs.Common.{drop}
use Rattle.text_lines.proofs.Printing.{Leads}
use Rattle.failures.specs.FailureTexts.{spaced}
use Rattle.failures.proofs.numbers.push_numbers.Given as goal

abbrev pub invariant-loop-number : goal.invariant-loop-number
invariant-loop-number l = Leads l.fn.out l.out (spaced (drop l.number-index l.numbers)) (spaced l.numbers)
