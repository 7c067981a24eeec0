-- Cited by the clause of the law `formulas_are_failures`: a run that fails, for given inputs of a leaf.
use Rattle.std.specs.Prelude.{◌≡◌, ℕ, List, [], Some}
use Rattle.cocoon_num.specs.Tree.{Refine, Design}
use Rattle.cocoon_types.specs.Tables.{Defs}
use Rattle.refinement.specs.Ways.{hops_by}
use Rattle.bv_terms.specs.TermValues.{Inputs}
use Rattle.obligation_laws.specs.Shown.{functions_by}
use Rattle.obligation_laws.specs.LeafRuns.{first_loc, first_packet}
use Rattle.obligation_laws.specs.Leaves.{Leaf, Tree}
use Rattle.obligation_laws.specs.Meant.{arrives, given}
use Rattle.obligation_laws.specs.Failing.{IsKept}
use Rattle.obligation_laws.specs.Obligations.{kind_of}

-- Where the inputs say, with the leaf's choices, the role's run goes the leaf's way and ends as the leaf says, and that is a
-- failure: the body above sends it under no choices, or it is inside.
pub record Fails (d : Design) (defs : Defs) (ins : Inputs) (above : ℕ) (block : Refine) (role : List ℕ) (tree : Tree) (leaf : Leaf) : Type 0 where
  pub runs : hops_by above d defs block.within (first_loc ins role tree) (first_packet ins d.headers tree) (given ins leaf.choices)
      ≡ Some (arrives (functions_by d defs) ins d.headers leaf [])
  pub fails : IsKept above d defs (kind_of leaf.end) (first_loc ins role tree) (first_packet ins d.headers tree) (arrives (functions_by d defs) ins d.headers leaf []) → ⊥
