-- Cited by the clauses of the laws on small trees: an old tree with one parameter, one field and three leaves, and a tree of
-- which a leaf is compared with them.
use Rattle.std.specs.Prelude.{ℕ, [], ◌∷◌, codes}
use Rattle.bv_terms.specs.declared.node.TermOp.TheVariants as ops
use Rattle.bv_terms.specs.TermTrees as term
use Rattle.bv_terms.specs.TermTrees.{Term}
use Rattle.obligation_laws.specs.States.{NewInput}
use Rattle.obligation_laws.specs.Leaves.{End, sent_to, Leaf, Tree}

abbrev pub byte : ℕ → NewInput
byte n = record { number = n; width = 8 }

-- the tree: its parameter is the input 0, its field the input 1
abbrev pub small_tree : Tree
small_tree = record { args = byte 0 ∷ []; fields = byte 1 ∷ []; leaves = []; next = 2 }

-- a leaf that is true where the term is, and sends these
abbrev pub small_leaf : (cond : Term) → End → Leaf
small_leaf cond end = record { cond = cond; choices = []; way = []; end = end }

-- The old tree: its parameter is the input 2, its field the input 3. One leaf chooses the input 4 below its parameter and sends it
-- to A with the field; one sends 7 to A, where the field is 9; and one sends to B.
abbrev pub small_old : Tree
small_old = record {
  args = byte 2 ∷ [];
  fields = byte 3 ∷ [];
  leaves =
      record { cond = term.binary ops.Less (term.input 4 8) (term.input 2 8); choices = byte 4 ∷ []; way = []; end = sent_to (codes "A") (term.input 4 8 ∷ []) (term.input 3 8 ∷ []) }
      ∷ record { cond = term.binary ops.Equal (term.input 3 8) (term.constant 8 9); choices = []; way = []; end = sent_to (codes "A") (term.constant 8 7 ∷ []) (term.input 3 8 ∷ []) }
      ∷ record { cond = term.constant 1 1; choices = []; way = []; end = sent_to (codes "B") (term.input 2 8 ∷ []) (term.input 3 8 ∷ []) }
      ∷ [];
  next = 5;
}

-- what is expected of the first two, beside a leaf that sends these
abbrev pub first_part : (value field : Term) → Term
first_part v f =
    term.binary ops.And (term.binary ops.And (term.binary ops.Less v (term.input 0 8)) (term.binary ops.Equal v v))
    (term.binary ops.Equal (term.input 1 8) f)

abbrev pub second_part : (value field : Term) → Term
second_part v f =
    term.binary ops.And (term.binary ops.And (term.binary ops.Equal (term.input 1 8) (term.constant 8 9)) (term.binary ops.Equal (term.constant 8 7) v))
    (term.binary ops.Equal (term.input 1 8) f)
