-- Cited by private clauses of `idle`: a packet of zeros.
use Rattle.std.specs.Prelude.{ℕ, List, map}

-- as many zeros as there are widths
abbrev pub zeros : List ℕ → List ℕ
zeros widths = map (λ w. 0) widths
