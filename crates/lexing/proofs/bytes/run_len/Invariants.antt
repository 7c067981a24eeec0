use Rattle.std.proofs.Common.{length, drop, ◌-◌, ◌+◌, ◌≡◌, ◌≤◌}
use Rattle.cocoon_num.specs.Tokens as tokens
use Rattle.lexing.proofs.bytes.run_len.Given as goal

abbrev pub invariant-loop-len : goal.invariant-loop-len
invariant-loop-len l = record {
  within : l.len ≤ length l.text;
  run : length (tokens.leading tokens.is_run_byte l.text) ≡ l.len + length (tokens.leading tokens.is_run_byte (drop l.len l.text));
}

abbrev pub decreases-loop-len : goal.decreases-loop-len
decreases-loop-len l = length l.text - l.len
