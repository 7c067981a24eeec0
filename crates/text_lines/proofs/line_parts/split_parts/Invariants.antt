use Rattle.std.proofs.Common.{◌≡◌, ◌++◌, length, map}
use Rattle.text_lines.specs.Lines.{parts_of}
use Rattle.text_lines.proofs.line_parts.split_parts.Given as goal

abbrev pub invariant-loop-parts : goal.invariant-loop-parts
invariant-loop-parts l = map (λ part. part.now) l.parts.items ++ parts_of l.rest ≡ parts_of l.line

abbrev pub decreases-loop-parts : goal.decreases-loop-parts
decreases-loop-parts l = length l.rest
