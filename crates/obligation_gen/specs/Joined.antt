-- Cited by private clauses: how many terms are joined to the formulas of a tree.
use Rattle.std.specs.Prelude.{ℕ, suc, ◌+◌, ◌*◌, ◌==◌, List, [], ◌∷◌, if◌then◌else◌, length}
use Rattle.obligation_gen.specs.Sent.{role_in}
use Rattle.obligation_gen.specs.declared.tree.End.{End}
use Rattle.obligation_gen.specs.declared.tree.End.TheVariants.{Sent, Inside}
use Rattle.obligation_gen.specs.declared.tree.Leaf.{Leaf}
use Rattle.obligation_gen.specs.declared.tree.Tree.{Tree}

-- how many values and fields are sent: none where a leaf ends inside
abbrev pub sent : End → ℕ
sent (Sent role values fields) = length values + length fields
sent (Inside role values fields) = 0

-- how many leaves lead to a role
abbrev pub count_to : ℕ → List Leaf → ℕ
count_to role [] = 0
count_to role (l ∷ ls) = if role_in l.end == role then suc (count_to role ls) else count_to role ls

-- to the formula of a leaf: for each old leaf that leads to its role an equation and a conjunction for each value and field, and a
-- disjunction
abbrev pub joined_to : List Leaf → Leaf → ℕ
joined_to old leaf = count_to (role_in leaf.end) old * (sent leaf.end * 2 + 1)

-- to those of some leaves
abbrev pub joined_of : List Leaf → List Leaf → ℕ
joined_of old [] = 0
joined_of old (l ∷ ls) = joined_to old l + joined_of old ls

-- to those of a tree, beside the tree of the body above
abbrev pub joined : (old : Tree) → Tree → ℕ
joined old tree = joined_of old.leaves tree.leaves
