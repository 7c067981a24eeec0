-- The first deep token of a text: too many brackets are open, or too many operators have come. Clauses of `text_laws` cite it,
-- and private clauses of the parsers.
use Rattle.std.specs.Prelude.{◌≡◌, ◌+◌, ◌<◌, ℕ, false, List, [], ◌∷◌, length, map, take, Option, Some, None, IsTrue, codes}
use Rattle.cocoon_num.specs.Tokens.{Bounds, Kind, is_shallow, mark}

-- the marks that open brackets
abbrev pub opening : List Kind
opening = mark (codes "(") ∷ mark (codes "[") ∷ mark (codes "{") ∷ []

-- those that close them
abbrev pub closing : List Kind
closing = mark (codes ")") ∷ mark (codes "]") ∷ mark (codes "}") ∷ []

-- those after which operators are counted anew
abbrev pub restarting : List Kind
restarting = mark (codes ";") ∷ mark (codes "{") ∷ mark (codes "}") ∷ []

-- the tokens before are not deep, and with this one they are
pub record DeepAt (bounds : Bounds) (ks : List Kind) (d : ℕ) : Type 0 where
  pub within : d < length ks
  pub before : IsTrue (is_shallow bounds (take d ks))
  pub deep : is_shallow bounds (take (d + 1) ks) ≡ false

-- the first deep token, or none
abbrev pub FirstDeep : Bounds → List Kind → Option ℕ → Type 0
FirstDeep bounds ks None = IsTrue (is_shallow bounds ks)
FirstDeep bounds ks (Some d) = DeepAt bounds ks d

-- that of tokens of the code, whatever text they stand in
abbrev pub FirstDeepOf : {T : Type 0} → Bounds → (List ℕ → T → Kind) → List T → Option ℕ → Type 0
FirstDeepOf bounds kind_at tokens deep = (text : List ℕ) → FirstDeep bounds (map (kind_at text) tokens) deep

-- the tokens up to and with the first deep one, or all
abbrev pub reach : {A : Type 0} → Option ℕ → List A → List A
reach None ts = ts
reach (Some d) ts = take (d + 1) ts
