-- Cited by the laws of `reader_laws`, by the clauses of `parse`, and by private clauses of the code that follows the reader.
-- What the plain reader says of the tokens of a text.
use Rattle.std.specs.Prelude.{◌≡◌, ℕ, suc, ◌+◌, ◌<◌, ◌≤◌, Bool, true, false, List, [], ◌∷◌, length, take, drop, Some, None, IsTrue}
use Rattle.cocoon_num.specs.Tokens.{Kind, Token, finish, is_shallow, kinds}
use Rattle.cocoon_num.specs.FirstFaults.{TooDeep, Unexpected}
use Rattle.p4_ir.specs.P4Text.{p4_bounds}
use Rattle.p4_texts.specs.Machine.{stuck, whole_text}
use Rattle.p4_texts.specs.Written.{BeginsP4, P4TextAt, ProgramText}

abbrev pub is_end : Kind → Bool
is_end finish = true
is_end _ = false

-- the last of these tokens is the end, and none before is
pub data Ended : List Kind → Type 0 where
  the_end : Ended (finish ∷ [])
  one_before : {k : Kind} {ks : List Kind} → is_end k ≡ false → Ended ks → Ended (k ∷ ks)

-- the tokens of a text of so many bytes: they end, and there are at most as many as bytes, and the end
pub record TokensOf (bytes : ℕ) (tokens : List Token) : Type 0 where
  pub ended : Ended (kinds tokens)
  pub few : length tokens ≤ bytes + 1

-- the tokens before are not deep, and with this one they are
pub record DeepAt (ks : List Kind) (d : ℕ) : Type 0 where
  pub within : d < length ks
  pub before : IsTrue (is_shallow p4_bounds (take d ks))
  pub deep : is_shallow p4_bounds (take (suc d) ks) ≡ false

-- The reader takes all tokens exactly where they are those of a text. Where it is stuck, the token is unexpected. Up to
-- the first deep token it is stuck at a token, or that token is too deep.
pub record P4Reading : Type 0 where
  pub taken : (ks : List Kind) (t : ProgramText) → P4TextAt ks t → stuck whole_text ks ≡ None
  pub tree : (ks : List Kind) → stuck whole_text ks ≡ None → (t : ProgramText) × P4TextAt ks t
  pub within : (ks : List Kind) (i : ℕ) → Ended ks → i ≤ length ks → stuck whole_text ks ≡ Some (drop i ks) → i < length ks
  pub unexpected : (ks : List Kind) (n i : ℕ) → n ≤ length ks → i < n → stuck whole_text (take n ks) ≡ Some (drop i (take n ks))
      → IsTrue (is_shallow p4_bounds (take i ks)) → Unexpected p4_bounds BeginsP4 ks i
  pub too_deep : (ks : List Kind) (d : ℕ) → DeepAt ks d → stuck whole_text (take (suc d) ks) ≡ Some [] → TooDeep p4_bounds BeginsP4 ks d
  pub not_before : (ks : List Kind) (d : ℕ) → Ended ks → DeepAt ks d → ¬ (stuck whole_text (take (suc d) ks) ≡ None)
