-- Cited by private clauses: terms that stand for inputs.
use Rattle.std.specs.Prelude.{◌≡◌, List}
use Rattle.std.specs.List.{AllZip}
use Rattle.bv_terms.specs.declared.node.Node.{Node}
use Rattle.bv_terms.specs.Replacements as formulas
use Rattle.bv_terms.specs.Replacements.{beside, replaced}
use Rattle.obligation_laws.specs.Shown.{HasWidth}
use Rattle.expr_terms.specs.Variables.{AreThere, Makes, MakesAll, terms_at}
use Rattle.obligation_laws.specs.FormulaForms.{SameWidths}
use Rattle.obligation_gen.specs.ShownTrees.{ShowsInputs}
use Rattle.obligation_gen.specs.declared.tree.Leaf.{Leaf}
use Rattle.obligation_laws.specs.Leaves as laws
use Rattle.obligation_laws.specs.Leaves.{end_fields, end_values}
use Rattle.obligation_laws.specs.States.{NewInput}
use Rattle.obligation_gen.specs.Sent.{fields_of, values_of}
use Rattle.obligation_gen.specs.declared.replacing.Replacing.{Replacing}

abbrev pub replacing_in : List Node → Replacing → formulas.Replacing
replacing_in nodes r = beside r.inputs.items (terms_at nodes r.terms.items)

-- the arena has both, and each term is as wide as its input
pub record StandFor (nodes : List Node) (r : Replacing) : Type 0 where
  pub inputs : List NewInput
  pub are : ShowsInputs nodes r.inputs.items inputs
  pub there : AreThere nodes r.terms.items
  pub wide : AllZip (λ (i : NewInput) t. HasWidth i.width t) inputs (terms_at nodes r.terms.items)

-- what stands for the inputs of the old leaf is known, and what both leaves send
pub record Ready (nodes : List Node) (r : Replacing) (old leaf : Leaf) (by_them : formulas.Replacing) (old_of leaf_of : laws.Leaf) : Type 0 where
  pub stand : StandFor nodes r
  pub is : replacing_in nodes r ≡ by_them
  pub cond : Makes nodes old.cond old_of.cond
  pub old_values : MakesAll nodes (values_of old.end) (end_values old_of.end)
  pub old_fields : MakesAll nodes (fields_of old.end) (end_fields old_of.end)
  pub values : MakesAll nodes (values_of leaf.end) (end_values leaf_of.end)
  pub fields : MakesAll nodes (fields_of leaf.end) (end_fields leaf_of.end)

-- and the part can be made
pub record CanJoin (nodes : List Node) (r : Replacing) (old leaf : Leaf) : Type 0 where
  pub by_them : formulas.Replacing
  pub old_of : laws.Leaf
  pub leaf_of : laws.Leaf
  pub ready : Ready nodes r old leaf by_them old_of leaf_of
  pub cond : HasWidth 1 (replaced by_them old_of.cond)
  pub values : SameWidths by_them (end_values old_of.end) (end_values leaf_of.end)
  pub fields : SameWidths by_them (end_fields old_of.end) (end_fields leaf_of.end)
