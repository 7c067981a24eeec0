use Rattle.std.proofs.Common.{◌≡◌, ◌-◌, ◌≤◌, All, length, map}
use Rattle.cocoon_num.specs.Tokens.{lex}
use Rattle.lexing.specs.Lexed.{IsSpelled, StandsIn}
use Rattle.lexing.proofs.Steps.{after, from}
use Rattle.lexing.proofs.lexer.lex.Given as goal

-- the tokens so far, and then those from the offset on, are those of the text
abbrev pub invariant-loop-at : goal.invariant-loop-at
invariant-loop-at g l = record {
  within : l.at ≤ length l.text;
  offsets : All (λ t. StandsIn l.text (g.L.Lexicon.token_of l.text t)) l.tokens.items;
  names : All (λ t. IsSpelled ((g.L.Lexicon.token_of l.text t).kind)) l.tokens.items;
  rest : lex g.L.Lexicon.lexicon l.text ≡ after (map (g.L.Lexicon.token_of l.text) l.tokens.items) (from g.L.Lexicon.lexicon l.text l.at);
}

abbrev pub decreases-loop-at : goal.decreases-loop-at
decreases-loop-at g l = length l.text - l.at
