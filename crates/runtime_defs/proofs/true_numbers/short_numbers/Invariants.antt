use Rattle.std.proofs.Common.{◌≡◌, ◌++◌, drop, filter}
use Rattle.cocoon_num.specs.Values.{fits_width}
use Rattle.runtime_defs.proofs.true_numbers.short_numbers.Given as goal

abbrev pub invariant-loop-number : goal.invariant-loop-number
invariant-loop-number l = l.listed.items ++ filter (fits_width 16) (drop l.number-index l.numbers) ≡ filter (fits_width 16) l.numbers
