-- Cited by private clauses: a term was made, and an arena only grew.
use Rattle.std.specs.Prelude.{◌≡◌, ℕ, ◌<◌, List, length}
use Rattle.bv_terms.specs.declared.node.Node.{Node}
use Rattle.bv_terms.specs.TermTrees.{Term}
use Rattle.bv_terms.specs.Arenas.{term_at, inputs_in, KeepsTerms}

-- the term has this number
pub record IsMade (nodes : List Node) (t : Term) (id : ℕ) : Type 0 where
  pub there : id < length nodes
  pub term : term_at nodes id ≡ t

-- old terms stay, and there is no new input
pub record OnlyGrows (old new : List Node) : Type 0 where
  pub kept : KeepsTerms old new
  pub inputs : inputs_in new ≡ inputs_in old
