use Rattle.std.proofs.Common.{◌≡◌, ◌++◌, ◌+◌, ◌≤◌, length, map}
use Rattle.std.specs.List.{filter}
use Rattle.text_lines.specs.LineOf.{line_of}
use Rattle.text_lines.specs.Lines.{line_bytes, filled_lines, is_filled, line_count, numbered}
use Rattle.text_lines.proofs.lines.split_lines.Given as goal

abbrev pub invariant-loop-rest : goal.invariant-loop-rest
invariant-loop-rest l = record {
  few : l.count + length l.rest ≤ length l.text;
  count : l.count + length (line_bytes l.rest) ≡ line_count l.text;
  filled : map line_of l.filled.items ++ filter is_filled (numbered (l.count + 1) (line_bytes l.rest)) ≡ filled_lines l.text;
}

abbrev pub decreases-loop-rest : goal.decreases-loop-rest
decreases-loop-rest l = length l.rest
