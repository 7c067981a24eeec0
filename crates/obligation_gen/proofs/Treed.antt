-- The two trees of a role, as they are made one after the other.
use Rattle.std.proofs.Common.{Result, Ok, ◌≡◌, ℕ, suc, ◌<◌, ◌≤◌, ◌^◌, List, length, false, Some, refl, sym, ap, subst, ◌∙◌, arith}
use Rattle.std.specs.Prelude.{slice_get}
use Rattle.std.specs.Result.{IfOk, OnOk}
use Rattle.cocoon_num.specs.Tree.{Refine, Design}
use Rattle.bv_terms.specs.declared.node.Node.{Node}
use Rattle.bv_terms.specs.Arenas.{KeepsTerms, inputs_in}
use Rattle.obligation_laws.specs.Shown.{HasWidth}
use Rattle.obligation_laws.specs.FormulaForms.{PartFits}
use Rattle.obligation_gen.specs.CountedTrees.{most_leaves}
use Rattle.obligation_gen.specs.ShownTrees.{ShowsTree}
use Rattle.obligation_gen.specs.declared.tree.InlineFault.{InlineFault}
use Rattle.obligation_gen.specs.declared.tree.Tree.{Tree}
use Rattle.obligation_gen.proofs.Growing.{inputs_on, leaves_on}
use Rattle.obligation_laws.specs.Obligations.{old_tree, refined_tree}
use Rattle.obligation_laws.specs.Leaves as laws
use Rattle.obligation_laws.specs.Leaves.{body_tree, end_role}
use Rattle.obligation_gen.specs.Refined.{AreComparable}
use Rattle.obligation_gen.proofs.Leaves.{as_many}

-- the tree of the role was made, and then that of its body above
pub record Treed (d : Design) (above : ℕ) (block : Refine) (name : List ℕ) (first : ℕ) (then now : List Node) (old tree : Tree) : Type 0 where
  pub tree_ : ShowsTree d then tree (refined_tree above d block name first)
  pub next : inputs_in then ≡ (refined_tree above d block name first).next
  pub old_ : ShowsTree d now old (body_tree above d name (inputs_in then))
  pub last : inputs_in now ≡ (body_tree above d name (inputs_in then)).next
  pub kept : KeepsTerms then now

pub treed : (d : Design) (above : ℕ) (block : Refine) (name : List ℕ) (first : ℕ) (then now : List Node) (tree old : Tree) (own body : Result Tree InlineFault) → own ≡ Ok tree
    → IfOk own (λ t. ShowsTree d then t (refined_tree above d block name first)) → OnOk own (inputs_in then ≡ (refined_tree above d block name first).next) → body ≡ Ok old
    → IfOk body (λ t. ShowsTree d now t (body_tree above d name (inputs_in then))) → OnOk body (inputs_in now ≡ (body_tree above d name (inputs_in then)).next) → KeepsTerms then now
    → Treed d above block name first then now old tree
treed d above block name first then now tree old own body is tree_ next old_is old_ last kept = record {
  tree_ = subst (λ r. IfOk r (λ t. ShowsTree d then t (refined_tree above d block name first))) is tree_;
  next = subst (λ r. OnOk r (inputs_in then ≡ (refined_tree above d block name first).next)) is next;
  old_ = subst (λ r. IfOk r (λ t. ShowsTree d now t (body_tree above d name (inputs_in then)))) old_is old_;
  last = subst (λ r. OnOk r (inputs_in now ≡ (body_tree above d name (inputs_in then)).next)) old_is last;
  kept = kept;
}

module _ (d : Design) (above : ℕ) (block : Refine) (name : List ℕ) (first : ℕ) (then now : List Node) (old tree : Tree) (h : Treed d above block name first then now old tree) where
  abbrev T : laws.Tree
  T = refined_tree above d block name first

  abbrev O : laws.Tree
  O = old_tree above d block name first

  pub comparable : ((n : ℕ) (leaf : laws.Leaf) → slice_get (refined_tree above d block name first).leaves n ≡ Some leaf → HasWidth 1 leaf.cond)
      → ((n m : ℕ) (leaf o : laws.Leaf) → slice_get (refined_tree above d block name first).leaves n ≡ Some leaf → slice_get (old_tree above d block name first).leaves m ≡ Some o → end_role leaf.end ≡ end_role o.end
      → PartFits (old_tree above d block name first) o (refined_tree above d block name first) leaf)
      → AreComparable d now old tree (old_tree above d block name first) (refined_tree above d block name first)
  comparable conds fits = record {
    old_ = subst (λ n. ShowsTree d now old (body_tree above d name n)) h.next h.old_;
    tree_ = record {
      args = inputs_on then now tree.args T.args h.kept h.tree_.args;
      fields = inputs_on then now tree.fields T.fields h.kept h.tree_.fields;
      leaves = leaves_on d then now tree.leaves T.leaves h.kept h.tree_.leaves;
    };
    conds = conds;
    fits = fits;
  }

  pub last_next : inputs_in now ≡ (old_tree above d block name first).next
  last_next = h.last ∙ ap (λ n. (body_tree above d name n).next) h.next

  -- numbers of leaves have 32 bits
  pub few_leaves : (count : ℕ) → length (refined_tree above d block name first).leaves ≡ count → count ≤ most_leaves → length tree.leaves < 2 ^ 32
  few_leaves count e l = let many = as_many d then tree.leaves T.leaves h.tree_.leaves in omega (arith, many, e, l)
