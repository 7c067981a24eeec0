-- Cited by private clauses: parts, one after another.
use Rattle.std.specs.Prelude.{List, Option, Some, None, map}
use Rattle.bv_terms.specs.declared.node.TermOp.TheVariants as ops
use Rattle.bv_terms.specs.TermTrees as term
use Rattle.bv_terms.specs.TermTrees.{Term}
use Rattle.obligation_laws.specs.Leaves.{Leaf, Tree, end_role}
use Rattle.obligation_laws.specs.Formulas.{any_of, chain, part, sending_to}

-- one more part, if there is one already
abbrev pub either : Option Term → Term → Term
either None t = t
either (Some any) t = term.binary ops.Or any t

-- and those that follow
abbrev pub with_parts : Option Term → List Term → Term
with_parts None ts = any_of ts
with_parts (Some any) ts = chain ops.Or any ts

-- the parts of some old leaves
abbrev pub parts_of : (old_tree : Tree) → Tree → Leaf → List Leaf → List Term
parts_of old_tree tree leaf old = map (λ o. part old_tree o tree leaf) (sending_to (end_role leaf.end) old)
