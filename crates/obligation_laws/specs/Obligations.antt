-- Cited by the clauses of the laws of this crate and by those of code that makes obligations: what a design owes, one
-- obligation for each leaf of each refined role. Inputs are numbered on, from role to role and from level to level. It follows the section
-- "Formulas" of docs/CLAUSES.md.
use Rattle.std.specs.Prelude.{ℕ, suc, List, [], ◌∷◌, ◌++◌, Some, None, slice_get}
use Rattle.cocoon_num.specs.Tree.{Name, Refine, Design}
use Rattle.bv_terms.specs.TermTrees.{Term}
use Rattle.obligation_laws.specs.States.{NewInput}
use Rattle.obligation_laws.specs.Leaves.{End, sent_to, inside, Leaf, Tree, body_tree, inlined}
use Rattle.obligation_laws.specs.Formulas.{formula}

-- What is owed of a leaf: that the body above sends what it sends, or that no run comes to it.
pub data Kind : Type 0 where
  contained bounded : Kind

abbrev pub kind_of : End → Kind
kind_of (sent_to role values fields) = contained
kind_of (inside role values fields) = bounded

-- The level of the block, the refined role, the number of the leaf in the role's tree, what is owed, and the formula, which
-- is true where it fails; of the tree the inputs of parameters and fields, and the leaf.
pub record Obligation : Type 0 where
  pub level : ℕ
  pub role : List ℕ
  pub number : ℕ
  pub kind : Kind
  pub formula : Term
  pub args : List NewInput
  pub fields : List NewInput
  pub leaf : Leaf

-- some obligations, and the number of the next input
abbrev pub Owed : Type 0
Owed = List Obligation × ℕ

-- some, and then those that come of the next input on
abbrev pub then_owed : Owed → (ℕ → Owed) → Owed
then_owed a f = (a.0 ++ (f a.1).0, (f a.1).1)

-- that of a leaf of a refined role's tree, beside the tree of the body above
abbrev pub obligation_of : (level : ℕ) (role : List ℕ) (old_tree tree : Tree) → (number : ℕ) → Leaf → Obligation
obligation_of level role old_tree tree k leaf = record {
  level = level;
  role = role;
  number = k;
  kind = kind_of leaf.end;
  formula = formula old_tree tree leaf;
  args = tree.args;
  fields = tree.fields;
  leaf = leaf;
}

-- those of some leaves, the first of which has this number
abbrev pub of_leaves : (level : ℕ) (role : List ℕ) (old_tree tree : Tree) → (number : ℕ) → List Leaf → List Obligation
of_leaves level role old_tree tree k [] = []
of_leaves level role old_tree tree k (leaf ∷ leaves) =
    obligation_of level role old_tree tree k leaf ∷ of_leaves level role old_tree tree (suc k) leaves

-- the tree of a role that the block behind the level `above` refines
abbrev pub refined_tree : (above : ℕ) → Design → Refine → (role : List ℕ) → (first : ℕ) → Tree
refined_tree above d block role first = inlined above d role block.within first

-- that of the role's body at the level above, whose inputs come next
abbrev pub old_tree : (above : ℕ) → Design → Refine → (role : List ℕ) → (first : ℕ) → Tree
old_tree above d block role first = body_tree above d role (refined_tree above d block role first).next

-- those of one role of the block
abbrev pub of_role : (above : ℕ) → Design → Refine → (role : List ℕ) → (first : ℕ) → Owed
of_role above d block role first =
    let tree = refined_tree above d block role first in
    let old = old_tree above d block role first in
    (of_leaves (suc above) role old tree 0 tree.leaves, old.next)

-- those of some of its roles, in their order
abbrev pub of_roles : (above : ℕ) → Design → Refine → List Name → (first : ℕ) → Owed
of_roles above d block [] n = ([], n)
of_roles above d block (r ∷ rs) n = then_owed (of_role above d block r.text n) (of_roles above d block rs)

-- those of the block, in the order of its list
abbrev pub of_block : (above : ℕ) → Design → Refine → (first : ℕ) → Owed
of_block above d block first = of_roles above d block block.roles first

-- those of some blocks, the first of which stands behind the level `above`
abbrev pub of_blocks : (above : ℕ) → Design → List Refine → (first : ℕ) → Owed
of_blocks above d [] n = ([], n)
of_blocks above d (b ∷ bs) n = then_owed (of_block above d b n) (of_blocks (suc above) d bs)

-- those of the block behind a level, if there is one
abbrev pub obligations_behind : (above : ℕ) → Design → (first : ℕ) → Owed
obligations_behind above d first = elim (slice_get d.refines above) [ None ↦ ([], first) | Some b ↦ of_block above d b first ]

-- those of a design, level by level, whose inputs are numbered from 0 on
abbrev pub all_obligations : Design → List Obligation
all_obligations d = (of_blocks 0 d d.refines 0).0
