-- The terms of leaves have values of their widths, for inputs that fit.
use Rattle.std.proofs.Common.{◌≡◌, inl, inr, ℕ, suc, ◌+◌, List, [], ◌∷◌, length, map, Bool, true, false, Option, Some, None, refl, sym, ap, subst, ◌∙◌}
use Rattle.std.specs.List.{AllZip}
use Rattle.cocoon_num.specs.Tree.{Param, Role, Design}
use Rattle.cocoon_num.specs.Values.{truth}
use Rattle.cocoon_resolve.specs.Readers.{all_widths}
use Rattle.cocoon_types.specs.Design.{role_at, widths_of}
use Rattle.cocoon_types.specs.Tables.{Defs}
use Rattle.bv_terms.specs.TermValues.{Functions, Inputs}
use Rattle.sound_types.proofs.Members.{In, flat_in}
use Rattle.obligation_laws.specs.Shown.{HasNumber, functions_by}
use Rattle.obligation_laws.specs.States.{Place, State, guard_term, input_term, inputs_from, term_world}
use Rattle.obligation_laws.specs.Leaves.{Leaf, Tree, begins, end_at, entry_of, hops, leaf_of, params_of, tree_of}
use Rattle.obligation_laws.specs.Meant.{AllFit}
use Rattle.obligation_laws.proofs.Hopping.{hops_lead}
use Rattle.obligation_laws.proofs.Meaning.{AtFits, Fits, FitsBy, Holds, guard_shown}
use Rattle.obligation_laws.proofs.TruthValues.{holds}
use Rattle.obligation_laws.specs.LeafShown.{LeafShown}

pub have_numbers : (F : Functions) (ins : Inputs) (first : ℕ) (ws : List ℕ) → AllFit ins (inputs_from first ws) → AllZip (HasNumber F ins) ws (map input_term (inputs_from first ws))
have_numbers F ins first [] h = tt
have_numbers F ins first (w ∷ ws) h = ((refl, h.0), have_numbers F ins (suc first) ws h.1)

module _ (d : Design) (defs : Defs) (ins : Inputs) (level : ℕ) (hold : Holds d defs ins level) where
  abbrev F : Functions
  F = functions_by d defs

  state_leaf : (t : State) (b : Bool) (at : Place) → t.sent ≡ Some at → Fits d defs ins level [] t → LeafShown d defs ins level (record { cond = t.cond; choices = t.choices; way = t.way; end = end_at b at t.fields })
  state_leaf t b at p f = by b (subst (λ o. FitsBy d defs ins level [] o t) p f.place)
    where
      by : (b : Bool) → FitsBy d defs ins level [] (Some at) t → LeafShown d defs ins level (record { cond = t.cond; choices = t.choices; way = t.way; end = end_at b at t.fields })
      by true q = record { cond = f.cond; role = q.0.0; declared = q.0.1; values = q.0.2; fields = f.fields }
      by false q = record { cond = f.cond; role = q.0.0; declared = q.0.1; values = q.0.2; fields = f.fields }

  leaf_from : (new : List ℕ → Bool) (t : State) (leaf : Leaf) → In leaf (leaf_of new t) → (leaf.choices ≡ t.choices) × (Fits d defs ins level [] t → LeafShown d defs ins level leaf)
  leaf_from new t leaf i = by t.sent refl i
    where
      by : (o : Option Place) → t.sent ≡ o
          → In leaf (elim o as (λ x. List Leaf) [ None ↦ [] | Some at ↦ record { cond = t.cond; choices = t.choices; way = t.way; end = end_at (new at.role) at t.fields } ∷ [] ])
          → (leaf.choices ≡ t.choices) × (Fits d defs ins level [] t → LeafShown d defs ins level leaf)
      by None p j = absurd j
      by (Some at) p j = elim j [
        | inl same ↦ (ap (λ (x : Leaf). x.choices) same, λ f. subst (LeafShown d defs ins level) (sym same) (state_leaf t (new at.role) at p f))
        | inr l ↦ absurd l
      ]

  module _ (new : List ℕ → Bool) (bodies : ℕ) (role : List ℕ) (first : ℕ) (r : Role) (is : role_at level d role ≡ Some r) where
    abbrev tree : Tree
    tree = tree_of (term_world level d) (all_widths d.headers) new bodies role first

    at_fits : AllFit ins (tree_of (term_world level d) (all_widths d.headers) new bodies role first).args → AtFits d defs ins level (entry_of role (tree_of (term_world level d) (all_widths d.headers) new bodies role first).args)
    at_fits f = (
      r,
      is,
      subst (λ (o : Option Role). AllZip (HasNumber F ins) (widths_of (elim o as (λ x. List Param) [ None ↦ [] | Some x ↦ x.params ])) (map input_term tree.args)) is
          (have_numbers F ins first (widths_of (params_of (term_world level d) role)) f),
    )

    start_fits : AllFit ins tree.args → AllFit ins tree.fields → Fits d defs ins level [] (begins (term_world level d) (entry_of role tree.args) (map input_term tree.fields))
    start_fits f g =
        let at = entry_of role tree.args in
        let b = guard_shown d defs ins level hold at (at_fits f) in
        record {
          fields = have_numbers F ins (first + length tree.args) (all_widths d.headers) g;
          cond = (b.truth_, b.term);
          place = (at_fits f, λ one. b.is ∙ ap (λ x. Some (truth x)) (holds F ins (guard_term (term_world level d) at) b.truth_ b.term one));
        }

    pub leaf_shown : (leaf : Leaf) → In leaf (tree_of (term_world level d) (all_widths d.headers) new bodies role first).leaves
        → AllFit ins (tree_of (term_world level d) (all_widths d.headers) new bodies role first).args
        → AllFit ins (tree_of (term_world level d) (all_widths d.headers) new bodies role first).fields
        → AllFit ins leaf.choices → LeafShown d defs ins level leaf
    leaf_shown leaf i f g choices =
        let s = begins (term_world level d) (entry_of role tree.args) (map input_term tree.fields) in
        let next = first + length tree.args + length tree.fields in
        let led = hops (term_world level d) new bodies s next in
        let t = flat_in (leaf_of new) leaf led.0 i in
        let l = leaf_from new t.0 leaf t.2 in
        let h = hops_lead d defs ins level hold new bodies s (entry_of role tree.args) refl next t.0 t.1 in
        l.1 (h.fits (start_fits f g) (subst (AllFit ins) (l.0 ∙ h.chosen_is) choices))
