-- Cited by the clauses of `obligations`: how many leaves the trees have that obligations are made of, and the first tree that has
-- too many.
use Rattle.std.specs.Prelude.{◌≡◌, ℕ, suc, false, List, [], ◌∷◌, ◌++◌, Some, None, flat_map, slice_get}
use Rattle.cocoon_num.specs.Tree.{Name, Refine, Design}
use Rattle.cocoon_types.specs.Design.{role_at}
use Rattle.cocoon_types.specs.Limits.{first_above, reported}
use Rattle.refinement.specs.Segments.{is_new}
use Rattle.obligation_laws.specs.Counts.{leaf_count}
use Rattle.obligation_gen.specs.CountedTrees.{most_leaves}
use Rattle.obligation_gen.specs.declared.tree.InlineFault.{InlineFault}
use Rattle.obligation_gen.specs.declared.tree.InlineFault.TheVariants.{Paths, NoMemory}

-- those of a role of a block: of its own tree, and then of that of its body above
abbrev pub tree_counts : (above : ℕ) → Design → Refine → (role : List ℕ) → List ℕ
tree_counts above d block role =
    leaf_count (role_at (suc above) d) (is_new above d) block.within role
    ∷ leaf_count (role_at above d) (λ x. false) 1 role ∷ []

-- those of the block, in the order of its list
abbrev pub block_counts : (above : ℕ) → Design → Refine → List ℕ
block_counts above d block = flat_map (λ (r : Name). tree_counts above d block r.text) block.roles

-- those of the block behind a level, if there is one
abbrev pub counts_behind : (above : ℕ) → Design → List ℕ
counts_behind above d = elim (slice_get d.refines above) [ None ↦ [] | Some b ↦ block_counts above d b ]

-- those of some blocks, the first of which stands behind the level `above`
abbrev pub blocks_counts : (above : ℕ) → Design → List Refine → List ℕ
blocks_counts above d [] = []
blocks_counts above d (b ∷ bs) = block_counts above d b ++ blocks_counts (suc above) d bs

-- those of a design, level by level
abbrev pub all_counts : Design → List ℕ
all_counts d = blocks_counts 0 d d.refines

-- no tree has too many leaves
abbrev pub AreFew : List ℕ → Type 0
AreFew counts = first_above most_leaves counts ≡ None

-- the fault tells the first count that is too large
abbrev pub TellsFirst : List ℕ → InlineFault → Type 0
TellsFirst counts (Paths n) = (count : ℕ) × (first_above most_leaves counts ≡ Some count) × (n ≡ reported count)
TellsFirst counts NoMemory = Unit {0}
