-- Cited by the clauses of `formula`: a leaf of a tree beside an old tree, as those of the laws that they show. Their terms have the
-- widths at which they are joined.
use Rattle.std.specs.Prelude.{◌≡◌, ◌<◌, ℕ, List, Some, length, slice_get}
use Rattle.cocoon_num.specs.Tree.{Design}
use Rattle.bv_terms.specs.declared.node.Node.{Node}
use Rattle.bv_terms.specs.Arenas.{width_at}
use Rattle.obligation_laws.specs.Shown.{HasWidth}
use Rattle.obligation_laws.specs.Leaves as laws
use Rattle.obligation_laws.specs.Leaves.{end_role}
use Rattle.obligation_gen.specs.ShownTrees.{ShowsInputs, ShowsLeaf, ShowsTree}
use Rattle.obligation_gen.specs.declared.tree.Leaf.{Leaf}
use Rattle.obligation_gen.specs.declared.tree.Tree.{Tree}
use Rattle.obligation_laws.specs.FormulaForms.{PartFits}

-- the number is that of a truth value
abbrev pub IsTruth : List Node → ℕ → Type 0
IsTruth nodes k = (k < length nodes) × (width_at nodes k ≡ 1)

-- ---- one old leaf

-- what the trees and the leaves show, and that the part of these two can be made
pub record ArePaired (d : Design) (nodes : List Node) (old_tree : Tree) (old : Leaf) (tree : Tree) (leaf : Leaf) (old_tree_of : laws.Tree) (old_of : laws.Leaf) (of : laws.Tree) (leaf_of : laws.Leaf) : Type 0 where
  pub old_args : ShowsInputs nodes old_tree.args old_tree_of.args
  pub old_fields : ShowsInputs nodes old_tree.fields old_tree_of.fields
  pub old_ : ShowsLeaf d nodes old old_of
  pub args : ShowsInputs nodes tree.args of.args
  pub fields : ShowsInputs nodes tree.fields of.fields
  pub leaf_ : ShowsLeaf d nodes leaf leaf_of
  pub fits : PartFits old_tree_of old_of of leaf_of

pub record Paired (nodes : List Node) (old_tree : Tree) (old : Leaf) (tree : Tree) (leaf : Leaf) : Type 0 where
  pub design : Design
  pub old_tree_of : laws.Tree
  pub old_of : laws.Leaf
  pub of : laws.Tree
  pub leaf_of : laws.Leaf
  pub are : ArePaired design nodes old_tree old tree leaf old_tree_of old_of of leaf_of

-- ---- all old leaves

-- what the trees and the leaf show, and that the formula can be made
pub record AreCompared (d : Design) (nodes : List Node) (old_tree tree : Tree) (leaf : Leaf) (old_of of : laws.Tree) (leaf_of : laws.Leaf) : Type 0 where
  pub old_ : ShowsTree d nodes old_tree old_of
  pub args : ShowsInputs nodes tree.args of.args
  pub fields : ShowsInputs nodes tree.fields of.fields
  pub leaf_ : ShowsLeaf d nodes leaf leaf_of
  pub cond : HasWidth 1 leaf_of.cond
  pub fits : (m : ℕ) (old : laws.Leaf) → slice_get old_of.leaves m ≡ Some old → end_role leaf_of.end ≡ end_role old.end → PartFits old_of old of leaf_of

pub record Compared (nodes : List Node) (old_tree tree : Tree) (leaf : Leaf) : Type 0 where
  pub design : Design
  pub old_of : laws.Tree
  pub of : laws.Tree
  pub leaf_of : laws.Leaf
  pub are : AreCompared design nodes old_tree tree leaf old_of of leaf_of
