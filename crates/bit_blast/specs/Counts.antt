-- Cited by private clauses: how many clauses terms have, by their operators and widths.
use Rattle.std.specs.Prelude.{ℕ, ◌+◌, ◌*◌, ◌-◌, List, [], ◌∷◌}
use Rattle.bv_terms.specs.declared.node.TermOp.{TermOp}
use Rattle.bv_terms.specs.declared.node.TermOp.TheVariants.{Add, Sub, And, Or, Xor, Concat, Equal, Less}
use Rattle.bv_terms.specs.TermTrees.{Term, binary, pick, width}

abbrev pub operator_clauses : TermOp → (width : ℕ) → ℕ
operator_clauses Add w = 14 * w
operator_clauses Sub w = 14 * w
operator_clauses And w = 3 * w
operator_clauses Or w = 3 * w
operator_clauses Xor w = 4 * w
operator_clauses Concat w = 0
operator_clauses Equal w = 7 * w - 3
operator_clauses Less w = 10 * w

-- the clauses of a term's own gates
abbrev pub term_clauses : Term → ℕ
term_clauses (binary op a b) = operator_clauses op (width a)
term_clauses (pick c a b) = 6 * width a
term_clauses t = 0

abbrev pub total_clauses : List Term → ℕ
total_clauses [] = 0
total_clauses (t ∷ ts) = term_clauses t + total_clauses ts
