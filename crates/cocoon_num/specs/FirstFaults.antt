-- What a text begins with, and its first fault: the clauses of `parse_design` and `parse_defs` cite them, and what
-- stands on those. They follow "Faults" in docs/LANGUAGE.md.
use Rattle.std.specs.Prelude.{◌≡◌, ℕ, ◌<◌, ◌++◌, suc, length, take, false, List, IsTrue}
use Rattle.cocoon_num.specs.Tree.{Design, DefsText}
use Rattle.cocoon_num.specs.Tokens.{Kind, Bounds, is_shallow}
use Rattle.cocoon_num.specs.Reads.{DesignAt, DefsAt}

-- the tokens begin some text of designs, or of definitions
abbrev pub BeginsDesign : List Kind → Type 0
BeginsDesign ts = (rest : List Kind) × (design : Design) × DesignAt (ts ++ rest) design

abbrev pub BeginsDefs : List Kind → Type 0
BeginsDefs ts = (rest : List Kind) × (entries : DefsText) × DefsAt (ts ++ rest) entries

-- The first i tokens begin some text, those up to and with the token with index i begin none, and none of the first i
-- is deep.
pub record Unexpected (bounds : Bounds) (Begins : List Kind → Type 0) (ts : List Kind) (i : ℕ) : Type 0 where
  pub within : i < length ts
  pub before : Begins (take i ts)
  pub none_with : ¬ Begins (take (suc i) ts)
  pub shallow : IsTrue (is_shallow bounds (take i ts))

-- The token with index i is the first that is deep, and up to and with it the tokens begin some text.
pub record TooDeep (bounds : Bounds) (Begins : List Kind → Type 0) (ts : List Kind) (i : ℕ) : Type 0 where
  pub within : i < length ts
  pub before : IsTrue (is_shallow bounds (take i ts))
  pub deep : is_shallow bounds (take (suc i) ts) ≡ false
  pub begins : Begins (take (suc i) ts)
