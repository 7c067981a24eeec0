-- Cited by the clauses of the law `formulas_fit`, and by those of code that makes formulas: widths of the terms that a formula is
-- made of.
use Rattle.std.specs.Prelude.{◌≡◌, List}
use Rattle.std.specs.List.{AllZip}
use Rattle.bv_terms.specs.Replacements.{Replacing, replaced}
use Rattle.bv_terms.specs.TermTrees.{Term, width}
use Rattle.obligation_laws.specs.Shown.{HasWidth}
use Rattle.obligation_laws.specs.States.{NewInput}
use Rattle.obligation_laws.specs.Leaves.{Leaf, Tree, end_fields, end_values}
use Rattle.obligation_laws.specs.Formulas.{leaf_inputs, replacing, stand_ins}

-- as many, and each old term with its inputs replaced is as wide as the term that is sent
abbrev pub SameWidths : Replacing → (old sent : List Term) → Type 0
SameWidths r old sent = AllZip (λ t u. width (replaced r t) ≡ width u) old sent

-- what stands for an input of the old leaf is as wide as that, and so the terms of a part can be joined
pub record PartFits (old_tree : Tree) (old : Leaf) (tree : Tree) (leaf : Leaf) : Type 0 where
  pub inputs : AllZip (λ (i : NewInput) t. HasWidth i.width t) (leaf_inputs old_tree old) (stand_ins old tree leaf)
  pub cond : HasWidth 1 (replaced (replacing old_tree old tree leaf) old.cond)
  pub values : SameWidths (replacing old_tree old tree leaf) (end_values old.end) (end_values leaf.end)
  pub fields : SameWidths (replacing old_tree old tree leaf) (end_fields old.end) (end_fields leaf.end)
