-- Runs that are no marks. No word is reserved.
use Rattle.std.specs.Prelude.{◌≡◌, ℕ, List, [], ◌∷◌, refl}
use Rattle.cocoon_num.specs.Tokens as tokens
use Rattle.p4_ir.specs.P4Text.{p4_lexicon}
use Rattle.lexing.specs.Prefixes.{BeginsWithLetter}
use Rattle.lexing.proofs.Names.{no_mark, of_neither}

-- a run that begins with a letter is a name
pub is_name : (w : List ℕ) → BeginsWithLetter w → tokens.a_name w ≡ tokens.run_kind p4_lexicon w
is_name [] h = absurd h
is_name (b ∷ w) h = of_neither p4_lexicon (b ∷ w) (no_mark p4_lexicon.marks [] b w refl h) refl
