-- Cited by the definition of the test of a row: terms that are joined by an operator.
use Rattle.std.specs.Prelude.{List, [], ◌∷◌, fold}
use Rattle.bv_terms.specs.declared.node.TermOp.{TermOp}
use Rattle.bv_terms.specs.TermTrees.{Term, binary}

-- the parts joined from the left, or what stands for no parts. One part stands for itself
abbrev pub chain : TermOp → (none : Term) → List Term → Term
chain op none [] = none
chain op none (t ∷ ts) = fold (binary op) t ts
