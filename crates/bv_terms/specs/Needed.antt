-- Cited by the clause of `Terms::needed` and by private clauses: which terms of an arena a term is made of.
use Rattle.std.specs.Prelude.{◌≡◌, ℕ, ◌<◌, ◌≤◌, ◌==◌, Bool, true, List, Some, slice_get}
use Rattle.std.specs.List.{AllByRecursion, list_any}
use Rattle.bv_terms.specs.declared.node.Node.{Node}
use Rattle.bv_terms.specs.Arenas.{parts, IsArena}

abbrev pub is_in : List ℕ → ℕ → Bool
is_in ps q = list_any (λ p. p == q) ps

abbrev pub IsAmong : List ℕ → ℕ → Type 0
IsAmong ids k = (i : ℕ) × (slice_get ids i ≡ Some k)

-- a number is smaller than those before it
abbrev pub AreFalling : List ℕ → Type 0
AreFalling ids =
    (i j a b : ℕ) → i < j → slice_get ids i ≡ Some a → slice_get ids j ≡ Some b → b < a

-- what a term is made of: itself, its parts, their parts, and so on
pub data IsMadeOf (nodes : List Node) (id : ℕ) : ℕ → Type 0 where
  whole : IsMadeOf nodes id id
  part_of : {k p : ℕ} {node : Node} → IsMadeOf nodes id k → slice_get nodes k ≡ Some node
      → is_in (parts node) p ≡ true → IsMadeOf nodes id p

-- the numbers of a term and of all that it is made of, and no others
pub record AreNeeded (nodes : List Node) (id : ℕ) (ids : List ℕ) : Type 0 where
  pub arena : IsArena nodes
  pub itself : IsAmong ids id
  pub within : (k : ℕ) → IsAmong ids k → k ≤ id
  pub falling : AreFalling ids
  pub parts_ : (k : ℕ) (node : Node) → IsAmong ids k → slice_get nodes k ≡ Some node
      → AllByRecursion (IsAmong ids) (parts node)
  pub only : (k : ℕ) → IsAmong ids k → IsMadeOf nodes id k
