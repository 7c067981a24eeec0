use Rattle.std.proofs.Common.{◌≡◌, ◌+◌, ◌≤◌}
use Rattle.cocoon_text.specs.Position.{column_of, line_of}
use Rattle.cocoon_text.proofs.byte_position.position_at.Given as goal

abbrev pub invariant-loop-byte : goal.invariant-loop-byte
invariant-loop-byte l = record {
  few_lines : l.line ≤ l.byte-index + 1;
  few_columns : l.column ≤ l.byte-index + 1;
  line : l.line ≡ line_of l.before l.byte-index;
  column : l.column ≡ column_of l.before l.byte-index;
}
