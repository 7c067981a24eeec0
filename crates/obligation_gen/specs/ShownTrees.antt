-- Cited by the clauses of `inline` and `body_tree`: the trees that those of the code show, through an arena of terms.
use Rattle.std.specs.Prelude.{◌≡◌, ℕ, List, All, map, Some, slice_get}
use Rattle.std.specs.List.{AllZip}
use Rattle.cocoon_num.specs.Tree.{Design}
use Rattle.bv_terms.specs.declared.node.Node.{Node}
use Rattle.bv_terms.specs.declared.node.Node.TheVariants.{Input}
use Rattle.declarations.specs.Declares.{role_number}
use Rattle.expr_terms.specs.Variables.{Makes, MakesAll}
use Rattle.obligation_laws.specs.States.{NewInput}
use Rattle.obligation_laws.specs.Leaves as laws
use Rattle.obligation_laws.specs.Leaves.{sent_to, inside}
use Rattle.obligation_gen.specs.declared.tree.End.{End}
use Rattle.obligation_gen.specs.declared.tree.End.TheVariants.{Sent, Inside}
use Rattle.obligation_gen.specs.declared.tree.Leaf.{Leaf}
use Rattle.obligation_gen.specs.declared.tree.Tree.{Tree}

-- ---- inputs

-- the arena has the input, with its width
abbrev pub HasInput : List Node → NewInput → Type 0
HasInput nodes i = (k : ℕ) × (slice_get nodes k ≡ Some (Input i.number i.width))

-- the numbers are those of these inputs, which the arena has
pub record ShowsInputs (nodes : List Node) (numbers : List ℕ) (is : List NewInput) : Type 0 where
  pub numbers_ : numbers ≡ map (λ (i : NewInput). i.number) is
  pub there : All (HasInput nodes) is

-- ---- leaves

-- the role has this number, and the terms have these
pub record ShowsPlace (d : Design) (nodes : List Node) (role : ℕ) (values fields : List ℕ) (name : List ℕ) (at : laws.End) : Type 0 where
  pub role_ : role_number d name ≡ Some role
  pub values_ : MakesAll nodes values (laws.end_values at)
  pub fields_ : MakesAll nodes fields (laws.end_fields at)

-- it leads there, and inside if the other does
abbrev pub ShowsEnd : Design → List Node → End → laws.End → Type 0
ShowsEnd d nodes (Sent role values fields) (sent_to r vs fs) = ShowsPlace d nodes role values fields r (sent_to r vs fs)
ShowsEnd d nodes (Inside role values fields) (inside r vs fs) = ShowsPlace d nodes role values fields r (inside r vs fs)
ShowsEnd d nodes _ _ = ⊥

pub record ShowsLeaf (d : Design) (nodes : List Node) (leaf : Leaf) (of : laws.Leaf) : Type 0 where
  pub cond : Makes nodes leaf.cond of.cond
  pub choices : ShowsInputs nodes leaf.choices of.choices
  pub end : ShowsEnd d nodes leaf.end of.end

-- as many, in the same order
abbrev pub ShowsLeaves : Design → List Node → List Leaf → List laws.Leaf → Type 0
ShowsLeaves d nodes leaves of = AllZip (ShowsLeaf d nodes) leaves of

-- ---- trees

pub record ShowsTree (d : Design) (nodes : List Node) (tree : Tree) (of : laws.Tree) : Type 0 where
  pub args : ShowsInputs nodes tree.args of.args
  pub fields : ShowsInputs nodes tree.fields of.fields
  pub leaves : ShowsLeaves d nodes tree.leaves of.leaves
