use Rattle.std.proofs.Common.{length, drop, ◌-◌, ◌+◌, ◌≡◌, ◌≤◌, option_map}
use Rattle.cocoon_num.specs.Tokens as tokens
use Rattle.lexing.proofs.bytes.comment_len.Given as goal

abbrev pub invariant-loop-len : goal.invariant-loop-len
invariant-loop-len l = record {
  within : l.len ≤ length l.text;
  rest : tokens.comment_end l.text ≡ option_map (λ n. l.len + n) (tokens.comment_end (drop l.len l.text));
}

abbrev pub decreases-loop-len : goal.decreases-loop-len
decreases-loop-len l = length l.text - l.len
