-- Cited by private clauses: the tree of a refined role beside that of its body above, and that the formulas of its leaves can be made.
use Rattle.std.specs.Prelude.{◌≡◌, ℕ, List, Some, slice_get}
use Rattle.cocoon_num.specs.Tree.{Design}
use Rattle.bv_terms.specs.declared.node.Node.{Node}
use Rattle.obligation_laws.specs.Shown.{HasWidth}
use Rattle.obligation_laws.specs.FormulaForms.{PartFits}
use Rattle.obligation_gen.specs.ShownTrees.{ShowsTree}
use Rattle.obligation_gen.specs.declared.tree.Tree.{Tree}
use Rattle.obligation_laws.specs.Leaves as laws
use Rattle.obligation_laws.specs.Leaves.{end_role}

pub record AreComparable (d : Design) (nodes : List Node) (old tree : Tree) (old_of of : laws.Tree) : Type 0 where
  pub old_ : ShowsTree d nodes old old_of
  pub tree_ : ShowsTree d nodes tree of
  pub conds : (n : ℕ) (leaf : laws.Leaf) → slice_get of.leaves n ≡ Some leaf → HasWidth 1 leaf.cond
  pub fits : (n m : ℕ) (leaf old_leaf : laws.Leaf) → slice_get of.leaves n ≡ Some leaf → slice_get old_of.leaves m ≡ Some old_leaf
      → end_role leaf.end ≡ end_role old_leaf.end → PartFits old_of old_leaf of leaf

pub record Comparable (nodes : List Node) (old tree : Tree) : Type 0 where
  pub design : Design
  pub old_of : laws.Tree
  pub of : laws.Tree
  pub are : AreComparable design nodes old tree old_of of
