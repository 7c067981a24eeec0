-- What the reading of a text's tokens, up to the first deep one, says of the text. The laws of `text_laws` cite it, and private
-- clauses of cocoon_text.
use Rattle.std.specs.Prelude.{◌≡◌, ◌+◌, ◌<◌, ◌≤◌, ℕ, Bool, false, List, [], ◌∷◌, length, take, Option, Some, None, IsTrue, nat_lt}
use Rattle.cocoon_num.specs.Tokens.{Kind, Token, finish, is_shallow, kinds, language_bounds}
use Rattle.cocoon_num.specs.FirstFaults.{TooDeep, Unexpected}
use Rattle.parsing.specs.Depth.{DeepAt, FirstDeep, reach}
use Rattle.parsing.specs.PlainParser.{Outcome, good, bad, is_finish}

-- from some depth of calls on a reading stops at this token
pub record Fails {A : Type 0} (F : ℕ → Outcome A) (i : ℕ) : Type 0 where
  pub depth : ℕ
  pub equal : (n : ℕ) → depth ≤ n → F n ≡ bad i

-- the last of these tokens is the end, and none before is
pub data Ended : List Kind → Type 0 where
  the_end : Ended (finish ∷ [])
  one_before : {k : Kind} {ks : List Kind} → is_finish (Some k) ≡ false → Ended ks → Ended (k ∷ ks)

-- the tokens of a text of so many bytes: they end, and there are at most as many as bytes, and the end
pub record TokensOf (bytes : ℕ) (tokens : List Token) : Type 0 where
  pub ended : Ended (kinds tokens)
  pub few : length tokens ≤ bytes + 1

-- whether a token comes after the first deep one
abbrev pub is_past : Option ℕ → ℕ → Bool
is_past None i = false
is_past (Some d) i = nat_lt d i

-- what the answers of R say of the text whose tokens it reads: a tree is one of which Holds says that it is the text's; a token
-- at which R stops is unexpected, or comes after the first deep one, which is then too deep. That R answers it does not say
pub record Reading {A : Type 0} (R : List Kind → ℕ → Outcome A) (Holds : List Kind → A → Type 0) (Begins : List Kind → Type 0) : Type 0 where
  pub reads : (ts : List Kind) (deep : Option ℕ) → Ended ts → FirstDeep language_bounds ts deep → (n : ℕ) (x : A) (j : ℕ) → R (reach deep ts) n ≡ good x j → Holds ts x × IsTrue (is_shallow language_bounds ts)
  pub unexpected : (ts : List Kind) (deep : Option ℕ) → Ended ts → FirstDeep language_bounds ts deep → (i : ℕ) → Fails (R (reach deep ts)) i → is_past deep i ≡ false → Unexpected language_bounds Begins ts i
  pub too_deep : (ts : List Kind) (d : ℕ) → Ended ts → DeepAt language_bounds ts d → (i : ℕ) → Fails (R (take (d + 1) ts)) i → d < i → TooDeep language_bounds Begins ts d
