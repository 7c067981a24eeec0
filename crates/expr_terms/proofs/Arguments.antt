-- The arguments of a function, as a node has them.
use Rattle.std.proofs.Common.{◌≡◌, ℕ, List, [], ◌∷◌, refl, ap}
use Rattle.bv_terms.specs.declared.node.Node.{Node}
use Rattle.bv_terms.specs.Arenas as arenas
use Rattle.bv_terms.specs.Arenas.{term_at}
use Rattle.bv_terms.specs.TermTrees.{arg}
use Rattle.obligation_laws.specs.TermOf.{args_of}
use Rattle.expr_terms.specs.Variables.{terms_at}

pub arguments_are : (nodes : List Node) (ids : List ℕ) → arenas.args_of (term_at nodes) ids ≡ args_of (terms_at nodes ids)
arguments_are nodes [] = refl
arguments_are nodes (k ∷ ids) = ap (arg (term_at nodes k)) (arguments_are nodes ids)
