-- Widths of parts and formulas.
use Rattle.std.proofs.Common.{◌≡◌, ℕ, zero, suc, ◌+◌, ◌≤◌, List, [], ◌∷◌, ◌++◌, length, map, false, Option, Some, None, refl, sym, ap, subst, ◌∙◌, arith}
use Rattle.std.specs.Prelude.{slice_get, unwrap_or}
use Rattle.std.specs.List.{AllZip}
use Rattle.cocoon_num.specs.Tree.{Refine, Role, Design}
use Rattle.cocoon_resolve.specs.Readers.{all_widths}
use Rattle.cocoon_types.specs.Design.{role_at, widths_of}
use Rattle.cocoon_types.specs.Rules.{WellFormed}
use Rattle.refinement.specs.Segments.{is_new}
use Rattle.bv_terms.specs.Replacements.{Replacing, replaced}
use Rattle.bv_terms.specs.declared.node.TermOp.TheVariants as ops
use Rattle.bv_terms.specs.TermTrees as term
use Rattle.bv_terms.specs.TermTrees.{Term, joined_width, width}
use Rattle.sound_types.proofs.Members.{In, at_place, flat_in}
use Rattle.obligation_laws.specs.Shown.{HasWidth}
use Rattle.obligation_laws.specs.LeafForms.{LeafFits}
use Rattle.obligation_laws.specs.Leaves.{End, sent_to, inside, Leaf, Tree, begins, body_tree, entered, entry_of, follow_body, hops, leaf_of, onward, end_fields, end_role, end_values, inlined, params_of}
use Rattle.obligation_laws.specs.States.{NewInput, State, input_term, inputs_from, term_world}
use Rattle.obligation_laws.specs.Following.{Followed, follow_all, one, those_sent}
use Rattle.obligation_laws.proofs.Followings.{each_in}
use Rattle.obligation_laws.proofs.Ascending.{tree_ascends}
use Rattle.obligation_laws.specs.MadeOf.{AllMade, LeafMade, Made, OfInputs}
use Rattle.obligation_laws.proofs.MadeLeaves.{have_back, have_front, leaf_made}
use Rattle.obligation_laws.proofs.Replaced.{Pairs, Standing, beside_pairs, pairs_join, pairs_stand}
use Rattle.obligation_laws.specs.Formulas.{any_of, formula, leaf_inputs, parts, read_back, replacing, sent_at, stand_ins}
use Rattle.obligation_laws.proofs.Parts.{sent_wide, widths_kept}
use Rattle.obligation_laws.proofs.RunsFound.{params_there}
use Rattle.obligation_laws.proofs.Untrue.{role_of}
use Rattle.obligation_laws.specs.FormulaForms.{PartFits, SameWidths}

-- the role of a leaf is declared
pub new_role : (above : ℕ) (d : Design) (role : List ℕ) (within first : ℕ) → 1 ≤ within → (leaf : Leaf) → In leaf (inlined above d role within first).leaves → (r : Role) × (role_at (suc above) d role ≡ Some r)
new_role above d role zero first l leaf i = absurd (omega (arith, l))
new_role above d role (suc k) first l leaf i =
    let w = term_world (suc above) d in
    let new = is_new above d in
    let tree = inlined above d role (suc k) first in
    let at = entry_of role tree.args in
    let s = begins w at (map input_term tree.fields) in
    let n = first + length tree.args + length tree.fields in
    let t = flat_in (leaf_of new) leaf (hops w new (suc k) s n).0 i in
    let m = each_in (onward new (hops w new k)) (follow_body w at s n).0 (follow_body w at s n).1 t.0 t.1 in
    by (role_at (suc above) d role) refl m.0 s n m.1
  where
    by : (o : Option Role) → role_at (suc above) d role ≡ o → (m s : State) (n : ℕ)
        → In m (elim o as (λ x. Followed) [ None ↦ ([], n) | Some r ↦ elim r.body [ None ↦ ([], n) | Some b ↦ those_sent (follow_all (term_world (suc above) d) b (one (entered r (entry_of role (inlined above d role (suc k) first).args) s) n)) ] ]).0
        → (r : Role) × (role_at (suc above) d role ≡ Some r)
    by None e m s n j = absurd j
    by (Some r) e m s n j = (r, e)

-- a term keeps its width if what stands for its inputs has theirs
replaced_width : (r : Replacing) (t : Term) → Made (Standing r HasWidth) t → width (replaced r t) ≡ width t
replaced_width r (term.constant w n) h = refl
replaced_width r (term.input i w) h = ap (λ (o : Option Term). width (unwrap_or o (term.input i w))) h.1 ∙ h.2
replaced_width r (term.apply f args w) h = refl
replaced_width r (term.not_ a) h = replaced_width r a h
replaced_width r (term.binary op a b) h = λ k. joined_width op (replaced_width r a h.0 k) (replaced_width r b h.1 k)
replaced_width r (term.slice a high low) h = refl
replaced_width r (term.pick c a b) h = replaced_width r a h.1

pairs_zip : (is : List NewInput) (ts : List Term) → Pairs (λ i t. HasWidth i.width t) is ts → AllZip (λ (i : NewInput) t. HasWidth i.width t) is ts
pairs_zip [] [] h = tt
pairs_zip [] (t ∷ ts) h = absurd h
pairs_zip (i ∷ is) [] h = absurd h
pairs_zip (i ∷ is) (t ∷ ts) h = (h.0, pairs_zip is ts h.1)

same_widths : (r : Replacing) (ws : List ℕ) (ts us : List Term) → AllZip HasWidth ws ts → AllMade (Standing r HasWidth) ts → AllZip HasWidth ws us → SameWidths r ts us
same_widths r [] [] [] h m k = tt
same_widths r [] [] (u ∷ us) h m k = absurd k
same_widths r [] (t ∷ ts) us h m k = absurd h
same_widths r (w ∷ ws) [] us h m k = absurd h
same_widths r (w ∷ ws) (t ∷ ts) [] h m k = absurd k
same_widths r (w ∷ ws) (t ∷ ts) (u ∷ us) h m k = (replaced_width r t m.0 ∙ h.0 ∙ sym k.0, same_widths r ws ts us h.1 m.1 k.1)

module _ (d : Design) (rules : WellFormed d) (above : ℕ) (block : Refine) (at : slice_get d.refines above ≡ Some block) (role : List ℕ) (first next : ℕ)
    (r : Role) (is : role_at (suc above) d role ≡ Some r) (leaf : Leaf) (fits : LeafFits (suc above) d leaf)
    (old : Leaf) (m : ℕ) (there : slice_get (body_tree above d role next).leaves m ≡ Some old) (old_fits : LeafFits above d old) (same : end_role leaf.end ≡ end_role old.end) where
  abbrev tree : Tree
  tree = inlined above d role block.within first

  abbrev old_tree : Tree
  old_tree = body_tree above d role next

  within : In old (body_tree above d role next).leaves
  within = at_place old_tree.leaves m old there

  abbrev ws : List ℕ
  ws = widths_of old_fits.role.params

  sent_fit : AllZip HasWidth ws (end_values leaf.end)
  sent_fit =
      subst (λ vs. AllZip HasWidth vs (end_values leaf.end))
      (sym (widths_kept d rules above block at (end_role old.end) old_fits.role fits.role old_fits.declared (subst (λ x. role_at (suc above) d x ≡ Some fits.role) same fits.declared))) fits.values

  read_back_fits : (i : NewInput) → HasWidth i.width (read_back old.end leaf.end i)
  read_back_fits i = by (sent_at i (end_values old.end) (end_values leaf.end)) refl
    where
      as_field : (x : Option Term) → sent_at i (end_fields old.end) (end_fields leaf.end) ≡ x → HasWidth i.width (unwrap_or x (term.constant i.width 0))
      as_field None e = refl
      as_field (Some t) e = sent_wide HasWidth (all_widths d.headers) (end_fields old.end) (end_fields leaf.end) old_fits.fields fits.fields i t e

      by : (x : Option Term) → sent_at i (end_values old.end) (end_values leaf.end) ≡ x
          → HasWidth i.width (elim x as (λ y. Term) [ Some t ↦ t | None ↦ unwrap_or (sent_at i (end_fields old.end) (end_fields leaf.end)) (term.constant i.width 0) ])
      by None e = as_field (sent_at i (end_fields old.end) (end_fields leaf.end)) refl
      by (Some t) e = sent_wide HasWidth ws (end_values old.end) (end_values leaf.end) old_fits.values sent_fit i t e

  abbrev AreWide : List NewInput → List Term → Type 0
  AreWide is ts = Pairs (λ i t. HasWidth i.width t) is ts

  inputs_wide : (k n : ℕ) (vs : List ℕ) → AreWide (inputs_from k vs) (map input_term (inputs_from n vs))
  inputs_wide k n [] = tt
  inputs_wide k n (w ∷ vs) = (refl, inputs_wide (suc k) (suc n) vs)

  choices_wide : (is : List NewInput) → AreWide is (map (read_back old.end leaf.end) is)
  choices_wide [] = tt
  choices_wide (i ∷ is) = (read_back_fits i, choices_wide is)

  args_wide : AreWide (body_tree above d role next).args (map input_term (inlined above d role block.within first).args)
  args_wide =
      let q = role_of above d role next old within in
      let e = ap widths_of (params_there above d role q.0 q.1) ∙ widths_kept d rules above block at role q.0 r q.1 is ∙ ap widths_of (sym (params_there (suc above) d role r is)) in
      subst (λ vs. AreWide (inputs_from next vs) (map input_term tree.args)) (sym e) (inputs_wide next first (widths_of (params_of (term_world (suc above) d) role)))

  all_wide : AreWide (leaf_inputs (body_tree above d role next) old) (stand_ins old (inlined above d role block.within first) leaf)
  all_wide =
      pairs_join (λ i t. HasWidth i.width t) old_tree.args (map input_term tree.args) (old_tree.fields ++ old.choices) (map input_term tree.fields ++ map (read_back old.end leaf.end) old.choices) args_wide
      (pairs_join (λ i t. HasWidth i.width t) old_tree.fields (map input_term tree.fields) old.choices (map (read_back old.end leaf.end) old.choices)
      (inputs_wide (next + length old_tree.args) (first + length tree.args) (all_widths d.headers)) (choices_wide old.choices))

  abbrev by_them : Replacing
  by_them = replacing old_tree old tree leaf

  old_made : LeafMade (Standing (replacing (body_tree above d role next) old (inlined above d role block.within first) leaf) HasWidth) old
  old_made =
      let P : OfInputs = Standing by_them HasWidth in
      let found = beside_pairs (λ i t. HasWidth i.width t) next old_tree.next (leaf_inputs old_tree old) (stand_ins old tree leaf)
      (tree_ascends (term_world above d) (all_widths d.headers) (λ x. false) 1 role next m old there) all_wide in
      let have = pairs_stand HasWidth by_them (leaf_inputs old_tree old) (stand_ins old tree leaf) found all_wide in
      let later = have_back P old_tree.args (old_tree.fields ++ old.choices) have in
      leaf_made P d above (λ x. false) 1 role next old within (have_front P old_tree.args (old_tree.fields ++ old.choices) have) (have_front P old_tree.fields old.choices later) (have_back P old_tree.fields old.choices later)

  pub part_fits : PartFits (body_tree above d role next) old (inlined above d role block.within first) leaf
  part_fits = record {
    inputs = pairs_zip (leaf_inputs old_tree old) (stand_ins old tree leaf) all_wide;
    cond = replaced_width by_them old.cond old_made.cond ∙ old_fits.cond;
    values = same_widths by_them ws (end_values old.end) (end_values leaf.end) old_fits.values old_made.values sent_fit;
    fields = same_widths by_them (all_widths d.headers) (end_fields old.end) (end_fields leaf.end) old_fits.fields old_made.fields fits.fields;
  }

-- a formula is as wide as the leaf's condition
pub formula_fits : (old_tree tree : Tree) (leaf : Leaf) → HasWidth 1 leaf.cond → HasWidth 1 (formula old_tree tree leaf)
formula_fits old_tree tree leaf h = by leaf.end
  where
    by : (e : End) → HasWidth 1 (elim e as (λ x. Term) [ sent_to a b c ↦ term.binary ops.And leaf.cond (term.not_ (any_of (parts old_tree tree leaf))) | inside a b c ↦ leaf.cond ])
    by (sent_to a b c) = h
    by (inside a b c) = h
