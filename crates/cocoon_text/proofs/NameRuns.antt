-- Runs that are no marks and not reserved.
use Rattle.std.specs.Prelude.{◌≡◌, ℕ, ◌||◌, Bool, false, List, [], ◌∷◌, take, codes, refl}
use Rattle.std.proofs.Common.{◌∙◌}
use Rattle.cocoon_num.specs.Lists.{is_one_of}
use Rattle.cocoon_num.specs.Names.{same_name}
use Rattle.cocoon_num.specs.Tokens as tokens
use Rattle.lexing.specs.Prefixes.{BeginsWithLetter}
use Rattle.lexing.proofs.Names.{no_mark, of_neither}

-- the one mark that begins with a letter is `_`
only_any : (w : List ℕ) → BeginsWithLetter w → is_one_of tokens.language.marks w ≡ (same_name (codes "_") w || false)
only_any [] h = absurd h
only_any (b ∷ w) h = no_mark (take 27 tokens.language.marks) (codes "_" ∷ []) b w refl h

-- neither part of a test holds
or_false : (p : Bool) → p ≡ false → (p || false) ≡ false
or_false p e = rw e refl

-- a run that is not `_` and not reserved is a name
pub is_name : (w : List ℕ) → BeginsWithLetter w → same_name (codes "_") w ≡ false → is_one_of tokens.language.reserved w ≡ false → tokens.a_name w ≡ tokens.run_kind tokens.language w
is_name w h any reserved = of_neither tokens.language w (only_any w h ∙ or_false (same_name (codes "_") w) any) reserved
