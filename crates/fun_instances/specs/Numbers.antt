-- Cited by private clauses: numbers that constants can have.
use Rattle.std.specs.Prelude.{ℕ, ◌<◌, ◌^◌, List}
use Rattle.std.specs.List.{AllZip}
use Rattle.bv_terms.specs.TermTrees.{IsWidth}

-- one number for each width, which is that of a term, and fits it
abbrev pub AreConstants : (widths numbers : List ℕ) → Type 0
AreConstants ws ns = AllZip (λ w n. IsWidth w × (n < 2 ^ w)) ws ns
