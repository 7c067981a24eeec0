-- Cited by private clauses: nodes that a goal may have, terms that can be goals, and what an environment has for a node.
use Rattle.std.specs.Prelude.{◌≡◌, ◌<◌, ℕ, List, Some, length, map, slice_get}
use Rattle.bit_blast.specs.Goals.{IsUnapplied}
use Rattle.bv_terms.specs.Arenas.{term_at, width_at}
use Rattle.bv_terms.specs.declared.node.Node.{Node}
use Rattle.bv_terms.specs.declared.node.Node.TheVariants.{Apply, Input}
use Rattle.cocoon_num.specs.declared.bits.Bits.{Bits}
use Rattle.flat_laws.specs.Meant.{AppliesAlike}
use Rattle.bv_terms.specs.declared.eval.Env.{Env}

abbrev pub NotApplied : Node → Type 0
NotApplied (Apply f args w) = ⊥
NotApplied node = Unit {0}

abbrev pub CanBeGoal : List Node → ℕ → Type 0
CanBeGoal nodes t = (t < length nodes) × (width_at nodes t ≡ 1) × IsUnapplied (term_at nodes t)

-- there is a number of this index, and it has the width
abbrev pub HasNumber : List Bits → ℕ → ℕ → Type 0
HasNumber numbers i w = (b : Bits) × (slice_get numbers i ≡ Some b) × (b.width ≡ w)

-- the environment has the node's input, if it is one
abbrev pub CoversNode : Env → Node → Type 0
CoversNode env (Input i w) = HasNumber env.inputs i w
CoversNode env (Apply f args w) = ⊥
CoversNode env node = Unit {0}

-- applications of one function have equal widths
abbrev pub NodesAlike : (ℕ → ℕ) → Node → Node → Type 0
NodesAlike width (Apply f ts v) (Apply g us w) = f ≡ g → (map width ts ≡ map width us) × (v ≡ w)
NodesAlike width m n = Unit {0}

-- the node and each of the arena
abbrev pub IsLikeAll : List Node → Node → Type 0
IsLikeAll nodes m = (k : ℕ) (n : Node) → slice_get nodes k ≡ Some n → NodesAlike (width_at nodes) m n

-- any two of them
abbrev pub AreAllAlike : List Node → Type 0
AreAllAlike nodes = (j : ℕ) (m : Node) → slice_get nodes j ≡ Some m → IsLikeAll nodes m

-- a term of width 1 whose applications of one function have equal widths
abbrev pub CanBeFlat : List Node → ℕ → Type 0
CanBeFlat nodes t = (t < length nodes) × (width_at nodes t ≡ 1) × AppliesAlike (term_at nodes t)
