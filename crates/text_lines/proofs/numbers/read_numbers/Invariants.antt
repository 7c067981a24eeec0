use Rattle.std.proofs.Common.{◌≡◌, ◌++◌, drop, map, option_map}
use Rattle.text_lines.specs.Numbers.{numbers_of}
use Rattle.text_lines.proofs.numbers.read_numbers.Given as goal

abbrev pub invariant-loop-part : goal.invariant-loop-part
invariant-loop-part l =
    option_map (λ ns. l.numbers.items ++ ns) (numbers_of (map (λ part. part.now) (drop l.part-index l.parts)))
    ≡ numbers_of (map (λ part. part.now) l.parts)
