use Rattle.std.proofs.Common.{length, drop, ◌-◌, ◌+◌, ◌==◌, ◌≡◌, ◌≤◌, not}
use Rattle.cocoon_num.specs.Tokens as tokens
use Rattle.lexing.proofs.bytes.len_before.Given as goal

abbrev pub invariant-loop-len : goal.invariant-loop-len
invariant-loop-len l = record {
  within : l.len ≤ length l.text;
  run : length (tokens.leading (λ b. not (b == l.stop)) l.text) ≡ l.len + length (tokens.leading (λ b. not (b == l.stop)) (drop l.len l.text));
}

abbrev pub decreases-loop-len : goal.decreases-loop-len
decreases-loop-len l = length l.text - l.len
