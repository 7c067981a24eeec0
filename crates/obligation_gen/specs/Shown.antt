-- Cited by the clauses of `obligations`: the obligations that those of the code show, through an arena of terms.
use Rattle.std.specs.Prelude.{◌≡◌, List, [], ◌∷◌, Some}
use Rattle.std.specs.List.{AllZip}
use Rattle.cocoon_num.specs.Tree.{Design}
use Rattle.bv_terms.specs.declared.node.Node.{Node}
use Rattle.declarations.specs.Declares.{role_number}
use Rattle.expr_terms.specs.Variables.{Makes}
use Rattle.obligation_gen.specs.ShownTrees.{ShowsInputs, ShowsLeaves}
use Rattle.obligation_laws.specs.Obligations as laws
use Rattle.obligation_laws.specs.Obligations.{contained, bounded}
use Rattle.obligation_gen.specs.declared.obligation.Kind.{Kind}
use Rattle.obligation_gen.specs.declared.obligation.Kind.TheVariants.{Contained, Bounded}
use Rattle.obligation_gen.specs.declared.obligation.Obligation.{Obligation}

abbrev pub kind_in : Kind → laws.Kind
kind_in Contained = contained
kind_in Bounded = bounded

-- The role has this number, and the formula is the term under this one. The tree has the inputs of parameters and fields,
-- and of the leaves the obligation's own.
pub record ShowsObligation (d : Design) (nodes : List Node) (o : Obligation) (owed : laws.Obligation) : Type 0 where
  pub level_ : o.level ≡ owed.level
  pub role_ : role_number d owed.role ≡ Some o.role
  pub leaf_ : o.leaf ≡ owed.number
  pub kind_ : kind_in o.kind ≡ owed.kind
  pub formula_ : Makes nodes o.formula owed.formula
  pub args : ShowsInputs nodes o.tree.args owed.args
  pub fields : ShowsInputs nodes o.tree.fields owed.fields
  pub own : ShowsLeaves d nodes o.tree.leaves (owed.leaf ∷ [])

-- as many, in the same order
abbrev pub ShowsObligations : Design → List Node → List Obligation → List laws.Obligation → Type 0
ShowsObligations d nodes all owed = AllZip (ShowsObligation d nodes) all owed
