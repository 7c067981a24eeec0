-- Terms that may stand in the place of an input, and where an input stands.
use Rattle.std.proofs.Common.{◌≡◌, ◌∙◌, ◌≤◌, ℕ, List, Some, ap, slice_get, subst, sym}
use Rattle.bit_blast.proofs.InputFacts.{one-input}
use Rattle.bv_terms.specs.declared.node.Node.{Node}
use Rattle.bv_terms.specs.declared.node.Node.TheVariants.{Input}
use Rattle.bv_terms.specs.Arenas.{IsArena, IsInputTerm, width_at}
use Rattle.bv_terms.specs.Rebuilt.{StandsFrom}
use Rattle.bv_terms.specs.Replacements.{HasWidthOf}
use Rattle.bv_terms.specs.TermTrees.{width}

pub has-width : (nodes : List Node) (i by id : ℕ) → IsArena nodes → IsInputTerm nodes i id → width_at nodes id ≡ width_at nodes by → HasWidthOf nodes i by
has-width nodes i by id arena t e k w h =
    let same : id ≡ k = one-input nodes id k i t.0 w arena t.1 h in
    let is : Some (Input i t.0) ≡ Some (Input i w) = sym t.1 ∙ ap (slice_get nodes) same ∙ h in
    let wide : t.0 ≡ w = cc in
    sym wide ∙ sym (ap width (arena.made id (Input i t.0) t.1)) ∙ e

pub stands-from : (nodes : List Node) (i first id : ℕ) → IsArena nodes → IsInputTerm nodes i id → first ≤ id → StandsFrom nodes first i
stands-from nodes i first id arena t l k w h = subst (λ j. first ≤ j) (one-input nodes id k i t.0 w arena t.1 h) l
