-- Cited by a private clause of `read` (of `fault_at_token`): what holds of one of the tokens of the code.
use Rattle.std.specs.Prelude.{◌≡◌, ℕ, List, Some, slice_get}
use Rattle.cocoon_text.specs.declared.token.Token.{Token}

-- there is a token with this index, and this holds of it
abbrev pub OfToken : List Token → ℕ → (Token → Type 0) → Type 0
OfToken tokens i P = (t : Token) × (slice_get tokens i ≡ Some t) × P t
