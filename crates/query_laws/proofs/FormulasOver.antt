-- What parts and formulas apply.
use Rattle.std.proofs.Common.{◌≡◌, inl, inr, ℕ, suc, ◌+◌, ◌≤◌, List, [], ◌∷◌, ◌++◌, length, map, false, Option, Some, None, refl, sym, ap, subst, ◌∙◌, arith}
use Rattle.std.specs.Prelude.{slice_get, unwrap_or}
use Rattle.std.specs.List.{AllZip}
use Rattle.std.proofs.lemmas.Option.{slice_get_within}
use Rattle.cocoon_num.specs.Names.{same_name}
use Rattle.cocoon_num.specs.Tree.{Name, Refine, Role, Design}
use Rattle.cocoon_resolve.specs.Readers.{all_widths}
use Rattle.cocoon_types.specs.Design.{last_level, role_at, widths_of}
use Rattle.cocoon_types.specs.Rules.{WellFormed}
use Rattle.refinement.proofs.AllLevels.{one_or_more}
use Rattle.bv_terms.specs.Replacements.{Replacing, replaced, replaced_args}
use Rattle.bv_terms.specs.declared.node.TermOp.{TermOp}
use Rattle.bv_terms.specs.declared.node.TermOp.TheVariants as ops
use Rattle.bv_terms.specs.TermTrees as term
use Rattle.bv_terms.specs.TermTrees.{Term, Args, no_args, arg, arg_widths, joined_width, width}
use Rattle.sound_types.proofs.Members.{In, at_place, in_either, map_in}
use Rattle.sound_types.proofs.Options.{same_text}
use Rattle.obligation_laws.specs.Shown.{HasWidth}
use Rattle.obligation_laws.proofs.Typings.{in_place}
use Rattle.query_laws.specs.Over.{AllOver, AreOver, IsRuntimeAt}
use Rattle.obligation_laws.specs.Leaves.{End, sent_to, inside, Leaf, Tree, body_tree, end_fields, end_role, end_values, inlined, params_of}
use Rattle.obligation_laws.specs.States.{NewInput, input_term, inputs_from, term_world}
use Rattle.obligation_laws.proofs.Ascending.{tree_ascends}
use Rattle.obligation_laws.proofs.Followings.{passed}
use Rattle.obligation_laws.specs.MadeOf.{AllMade, LeafMade, Made, MadeArgs, OfInputs}
use Rattle.obligation_laws.proofs.MadeLeaves.{have_back, have_front, leaf_made}
use Rattle.obligation_laws.proofs.Replaced.{Pairs, Standing, beside_pairs, pairs_join, pairs_stand}
use Rattle.obligation_laws.specs.Formulas.{any_of, chain, equals, formula, leaf_inputs, part, parts, read_back, replacing, sending_to, sent_at, stand_ins}
use Rattle.obligation_laws.specs.Obligations.{Obligation, all_obligations, obligation_of, of_block, of_blocks, of_leaves, of_role, of_roles, old_tree, refined_tree}
use Rattle.obligation_laws.proofs.Parts.{sent_wide, widths_kept}
use Rattle.obligation_laws.proofs.RunsFound.{params_there}
use Rattle.obligation_laws.proofs.Untrue.{role_of}
use Rattle.obligation_laws.proofs.Fitting.{formula_fits, new_role}
use Rattle.query_laws.specs.LeafTerms.{AppliesDeclared, LeafApplies, Stands, any_input}

-- ---- lists

pub of_widths : (d : Design) (ws : List ℕ) (ts : List Term) → AllZip (Stands d) ws ts → AllZip HasWidth ws ts
of_widths d [] [] h = tt
of_widths d [] (t ∷ ts) h = absurd h
of_widths d (w ∷ ws) [] h = absurd h
of_widths d (w ∷ ws) (t ∷ ts) h = (h.0.0, of_widths d ws ts h.1)

pub applied_all : (d : Design) (ws : List ℕ) (ts : List Term) → AllZip (Stands d) ws ts → AllOver d any_input ts
applied_all d [] [] h = tt
applied_all d [] (t ∷ ts) h = absurd h
applied_all d (w ∷ ws) [] h = absurd h
applied_all d (w ∷ ws) (t ∷ ts) h = (h.0.1, applied_all d ws ts h.1)

both : (d : Design) (ts us : List Term) → AllOver d any_input ts → AllOver d any_input us → AllOver d any_input (ts ++ us)
both d [] us h k = k
both d (t ∷ ts) us h k = (h.0, both d ts us h.1 k)

-- ---- terms with others in the place of their inputs

module _ (d : Design) (r : Replacing) where
  abbrev Filled : OfInputs
  Filled = Standing r (Stands d)

  mutual
    replaced_width : (t : Term) → Made (Standing r (Stands d)) t → width (replaced r t) ≡ width t
    replaced_width (term.constant w n) h = refl
    replaced_width (term.input i w) h = ap (λ (o : Option Term). width (unwrap_or o (term.input i w))) h.1 ∙ h.2.0
    replaced_width (term.apply f args w) h = refl
    replaced_width (term.not_ a) h = replaced_width a h
    replaced_width (term.binary op a b) h = λ k. joined_width op (replaced_width a h.0 k) (replaced_width b h.1 k)
    replaced_width (term.slice a high low) h = refl
    replaced_width (term.pick c a b) h = replaced_width a h.1

    replaced_widths : (ts : Args) → MadeArgs (Standing r (Stands d)) ts → arg_widths (replaced_args r ts) ≡ arg_widths ts
    replaced_widths no_args h = refl
    replaced_widths (arg t ts) h = λ k. replaced_width t h.0 k ∷ replaced_widths ts h.1 k

  mutual
    replaced_over : (t : Term) → Made (Standing r (Stands d)) t → AppliesDeclared d t → AppliesDeclared d (replaced r t)
    replaced_over (term.constant w n) h k = tt
    replaced_over (term.input i w) h k = subst (λ (o : Option Term). AppliesDeclared d (unwrap_or o (term.input i w))) (sym h.1) h.2.1
    replaced_over (term.apply f args w) h k = (replaced_all_over args h k.0, subst (λ ws. IsRuntimeAt d f ws w) (sym (replaced_widths args h)) k.1)
    replaced_over (term.not_ a) h k = replaced_over a h k
    replaced_over (term.binary op a b) h k = (replaced_over a h.0 k.0, replaced_over b h.1 k.1)
    replaced_over (term.slice a high low) h k = replaced_over a h k
    replaced_over (term.pick c a b) h k = (replaced_over c h.0 k.0, replaced_over a h.1 k.1, replaced_over b h.2 k.2)

    replaced_all_over : (ts : Args) → MadeArgs (Standing r (Stands d)) ts → AreOver d any_input ts → AreOver d any_input (replaced_args r ts)
    replaced_all_over no_args h k = tt
    replaced_all_over (arg t ts) h k = (replaced_over t h.0 k.0, replaced_all_over ts h.1 k.1)

  equals_over : (old sent : List Term) → AllMade (Standing r (Stands d)) old → AllOver d any_input old → AllOver d any_input sent → AllOver d any_input (equals r old sent)
  equals_over [] us m h k = tt
  equals_over (t ∷ ts) [] m h k = tt
  equals_over (t ∷ ts) (u ∷ us) m h k = ((replaced_over t m.0 h.0, k.0), equals_over ts us m.1 h.1 k.1)

chain_over : (d : Design) (op : TermOp) (t : Term) (us : List Term) → AppliesDeclared d t → AllOver d any_input us → AppliesDeclared d (chain op t us)
chain_over d op t [] h k = h
chain_over d op t (u ∷ us) h k = chain_over d op (term.binary op t u) us (h, k.0) k.1

any_over : (d : Design) (ts : List Term) → AllOver d any_input ts → AppliesDeclared d (any_of ts)
any_over d [] h = tt
any_over d (t ∷ ts) h = chain_over d ops.Or t ts h.0 h.1

-- ---- parts

module _ (d : Design) (rules : WellFormed d) (above : ℕ) (block : Refine) (at : slice_get d.refines above ≡ Some block) (role : List ℕ) (first next : ℕ)
    (r : Role) (is : role_at (suc above) d role ≡ Some r) (leaf : Leaf) (fits : LeafApplies (suc above) d leaf) where
  abbrev tree : Tree
  tree = inlined above d role block.within first

  abbrev olds : Tree
  olds = body_tree above d role next

  module _ (old : Leaf) (within : In old (body_tree above d role next).leaves) (old_fits : LeafApplies above d old) (same : end_role leaf.end ≡ end_role old.end) where
    abbrev ws : List ℕ
    ws = widths_of old_fits.role.params

    sent_fit : AllZip (Stands d) ws (end_values leaf.end)
    sent_fit =
        subst (λ vs. AllZip (Stands d) vs (end_values leaf.end))
        (sym (widths_kept d rules above block at (end_role old.end) old_fits.role fits.role old_fits.declared (subst (λ x. role_at (suc above) d x ≡ Some fits.role) same fits.declared))) fits.values

    read_back_fits : (i : NewInput) → Stands d i.width (read_back old.end leaf.end i)
    read_back_fits i = by (sent_at i (end_values old.end) (end_values leaf.end)) refl
      where
        as_field : (x : Option Term) → sent_at i (end_fields old.end) (end_fields leaf.end) ≡ x → Stands d i.width (unwrap_or x (term.constant i.width 0))
        as_field None e = (refl, tt)
        as_field (Some t) e = sent_wide (Stands d) (all_widths d.headers) (end_fields old.end) (end_fields leaf.end) (of_widths d (all_widths d.headers) (end_fields old.end) old_fits.fields) fits.fields i t e

        by : (x : Option Term) → sent_at i (end_values old.end) (end_values leaf.end) ≡ x
            → Stands d i.width (elim x as (λ y. Term) [ Some t ↦ t | None ↦ unwrap_or (sent_at i (end_fields old.end) (end_fields leaf.end)) (term.constant i.width 0) ])
        by None e = as_field (sent_at i (end_fields old.end) (end_fields leaf.end)) refl
        by (Some t) e = sent_wide (Stands d) ws (end_values old.end) (end_values leaf.end) (of_widths d ws (end_values old.end) old_fits.values) sent_fit i t e

    abbrev AreFilled : List NewInput → List Term → Type 0
    AreFilled is ts = Pairs (λ i t. Stands d i.width t) is ts

    inputs_filled : (k n : ℕ) (vs : List ℕ) → AreFilled (inputs_from k vs) (map input_term (inputs_from n vs))
    inputs_filled k n [] = tt
    inputs_filled k n (w ∷ vs) = ((refl, refl), inputs_filled (suc k) (suc n) vs)

    choices_filled : (is : List NewInput) → AreFilled is (map (read_back old.end leaf.end) is)
    choices_filled [] = tt
    choices_filled (i ∷ is) = (read_back_fits i, choices_filled is)

    args_filled : AreFilled (body_tree above d role next).args (map input_term (inlined above d role block.within first).args)
    args_filled =
        let q = role_of above d role next old within in
        let e = ap widths_of (params_there above d role q.0 q.1) ∙ widths_kept d rules above block at role q.0 r q.1 is ∙ ap widths_of (sym (params_there (suc above) d role r is)) in
        subst (λ vs. AreFilled (inputs_from next vs) (map input_term tree.args)) (sym e) (inputs_filled next first (widths_of (params_of (term_world (suc above) d) role)))

    all_filled : AreFilled (leaf_inputs (body_tree above d role next) old) (stand_ins old (inlined above d role block.within first) leaf)
    all_filled =
        pairs_join (λ i t. Stands d i.width t) olds.args (map input_term tree.args) (olds.fields ++ old.choices) (map input_term tree.fields ++ map (read_back old.end leaf.end) old.choices) args_filled
        (pairs_join (λ i t. Stands d i.width t) olds.fields (map input_term tree.fields) old.choices (map (read_back old.end leaf.end) old.choices)
        (inputs_filled (next + length olds.args) (first + length tree.args) (all_widths d.headers)) (choices_filled old.choices))

    abbrev by_them : Replacing
    by_them = replacing olds old tree leaf

    old_made : (m : ℕ) → slice_get (body_tree above d role next).leaves m ≡ Some old → LeafMade (Standing (replacing (body_tree above d role next) old (inlined above d role block.within first) leaf) (Stands d)) old
    old_made m there =
        let P : OfInputs = Standing by_them (Stands d) in
        let found = beside_pairs (λ i t. Stands d i.width t) next olds.next (leaf_inputs olds old) (stand_ins old tree leaf)
        (tree_ascends (term_world above d) (all_widths d.headers) (λ x. false) 1 role next m old there) all_filled in
        let have = pairs_stand (Stands d) by_them (leaf_inputs olds old) (stand_ins old tree leaf) found all_filled in
        let later = have_back P olds.args (olds.fields ++ old.choices) have in
        leaf_made P d above (λ x. false) 1 role next old within (have_front P olds.args (olds.fields ++ old.choices) have) (have_front P olds.fields old.choices later) (have_back P olds.fields old.choices later)

    pub part_over : AppliesDeclared d (part (body_tree above d role next) old (inlined above d role block.within first) leaf)
    part_over =
        let p = in_place old olds.leaves within in
        let made = old_made p.0 p.1 in
        let us = equals by_them (end_values old.end) (end_values leaf.end) in
        let vs = equals by_them (end_fields old.end) (end_fields leaf.end) in
        chain_over d ops.And (replaced by_them old.cond) (us ++ vs) (replaced_over d by_them old.cond made.cond old_fits.cond.1)
        (both d us vs
        (equals_over d by_them (end_values old.end) (end_values leaf.end) made.values (applied_all d ws (end_values old.end) old_fits.values) (applied_all d ws (end_values leaf.end) sent_fit))
        (equals_over d by_them (end_fields old.end) (end_fields leaf.end) made.fields (applied_all d (all_widths d.headers) (end_fields old.end) old_fits.fields)
        (applied_all d (all_widths d.headers) (end_fields leaf.end) fits.fields)))

  -- ---- formulas

  module _ (old_applies : (old : Leaf) → In old (body_tree above d role next).leaves → LeafApplies above d old) where
    one_over : (t : Term) → In t (parts (body_tree above d role next) (inlined above d role block.within first) leaf) → AppliesDeclared d t
    one_over t i =
        let m = map_in (λ old. part olds old tree leaf) t (sending_to (end_role leaf.end) olds.leaves) i in
        let p = passed (λ (old : Leaf). same_name (end_role leaf.end) (end_role old.end)) olds.leaves m.0 m.1 in
        subst (AppliesDeclared d) (sym m.2) (part_over m.0 p.0 (old_applies m.0 p.0) (same_text (end_role leaf.end) (end_role m.0.end) p.1))

    all_over : (ts : List Term) → ((t : Term) → In t ts → AppliesDeclared d t) → AllOver d any_input ts
    all_over [] h = tt
    all_over (t ∷ ts) h = (h t (inl refl), all_over ts (λ u i. h u (inr i)))

    formula_over : AppliesDeclared d (formula (body_tree above d role next) (inlined above d role block.within first) leaf)
    formula_over = by leaf.end
      where
        ts : List Term
        ts = parts (body_tree above d role next) (inlined above d role block.within first) leaf

        by : (e : End) → AppliesDeclared d (elim e as (λ x. Term) [ sent_to a b c ↦ term.binary ops.And leaf.cond (term.not_ (any_of ts)) | inside a b c ↦ leaf.cond ])
        by (sent_to a b c) = (fits.cond.1, any_over d ts (all_over ts one_over))
        by (inside a b c) = fits.cond.1

    pub formula_stands : Stands d 1 (formula (body_tree above d role next) (inlined above d role block.within first) leaf)
    formula_stands = (formula_fits olds tree leaf fits.cond.0, formula_over)

-- ---- obligations

from_leaf : (level : ℕ) (role : List ℕ) (old tree : Tree) (k : ℕ) (leaves : List Leaf) (o : Obligation) → In o (of_leaves level role old tree k leaves)
    → (leaf : Leaf) × In leaf leaves × (n : ℕ) × (o ≡ obligation_of level role old tree n leaf)
from_leaf level role old tree k [] o i = absurd i
from_leaf level role old tree k (l ∷ leaves) o i = elim i [
  | inl e ↦ (l, inl refl, k, e)
  | inr j ↦ let r = from_leaf level role old tree (suc k) leaves o j in (r.0, inr r.1, r.2, r.3)
]

from_role : (above : ℕ) (d : Design) (block : Refine) (rs : List Name) (n : ℕ) (o : Obligation) → In o (of_roles above d block rs n).0 → (role : List ℕ) × (first : ℕ) × In o (of_role above d block role first).0
from_role above d block [] n o i = absurd i
from_role above d block (r ∷ rs) n o i =
    let one = of_role above d block r.text n in
    elim (in_either o one.0 (of_roles above d block rs one.1).0 i) [
      | inl j ↦ (r.text, n, j)
      | inr j ↦ from_role above d block rs one.1 o j
    ]

-- of a block of the list, behind a level that is counted from the first one's
pub record FromBlock (d : Design) (bs : List Refine) (above : ℕ) (o : Obligation) : Type 0 where
  pub number : ℕ
  pub block : Refine
  pub there : slice_get bs number ≡ Some block
  pub level : ℕ
  pub counted : level ≡ number + above
  pub first : ℕ
  pub within : In o (of_block level d block first).0

from_block : (d : Design) (bs : List Refine) (above n : ℕ) (o : Obligation) → In o (of_blocks above d bs n).0 → FromBlock d bs above o
from_block d [] above n o i = absurd i
from_block d (b ∷ bs) above n o i =
    let one = of_block above d b n in
    elim (in_either o one.0 (of_blocks (suc above) d bs one.1).0 i) [
      | inl j ↦ record { number = 0; block = b; there = refl; level = above; counted = omega arith; first = n; within = j }
      | inr j ↦
          let r = from_block d bs (suc above) one.1 o j in
          let c = r.counted in
          record { number = suc r.number; block = r.block; there = r.there; level = r.level; counted = omega (arith, c); first = r.first; within = r.within }
    ]

pub record LeavesApply (d : Design) : Type 0 where
  pub inlined_ : (above : ℕ) (role : List ℕ) (r : Role) → role_at (suc above) d role ≡ Some r → (within first n : ℕ) (leaf : Leaf) → slice_get (inlined above d role within first).leaves n ≡ Some leaf
      → LeafApplies (suc above) d leaf
  pub one_body : (level : ℕ) (role : List ℕ) (r : Role) → role_at level d role ≡ Some r → (first n : ℕ) (leaf : Leaf) → slice_get (body_tree level d role first).leaves n ≡ Some leaf → LeafApplies level d leaf

pub obligation_stands : (d : Design) → WellFormed d → LeavesApply d → (n : ℕ) (o : Obligation) → slice_get (all_obligations d) n ≡ Some o → Stands d 1 o.formula
obligation_stands d rules apply n o is =
    let b = from_block d d.refines 0 0 o (at_place (all_obligations d) n o is) in
    let c = b.counted in
    let e : b.number ≡ b.level = omega (arith, c) in
    let at : slice_get d.refines b.level ≡ Some b.block = ap (slice_get d.refines) (sym e) ∙ b.there in
    let r = from_role b.level d b.block b.block.roles b.first o b.within in
    let tree = refined_tree b.level d b.block r.0 r.1 in
    let olds = old_tree b.level d b.block r.0 r.1 in
    let l = from_leaf (suc b.level) r.0 olds tree 0 tree.leaves o r.2 in
    let q = new_role b.level d r.0 b.block.within r.1 (one_or_more d rules b.level b.block at) l.0 l.1 in
    let p = in_place l.0 tree.leaves l.1 in
    subst (λ (x : Obligation). Stands d 1 x.formula) (sym l.3)
    (formula_stands d rules b.level b.block at r.0 r.1 tree.next q.0 q.1 l.0 (apply.inlined_ b.level r.0 q.0 q.1 b.block.within r.1 p.0 l.0 p.1)
    (λ old i.
    let x = role_of b.level d r.0 tree.next old i in
    let y = in_place old olds.leaves i in
    apply.one_body b.level r.0 x.0 x.1 tree.next y.0 old y.1))

-- ---- and their levels

pub obligation_level : (d : Design) (n : ℕ) (o : Obligation) → slice_get (all_obligations d) n ≡ Some o → (1 ≤ o.level) × (o.level ≤ last_level d)
obligation_level d n o is =
    let b = from_block d d.refines 0 0 o (at_place (all_obligations d) n o is) in
    let c = b.counted in
    let within = slice_get_within d.refines b.number b.block b.there in
    let r = from_role b.level d b.block b.block.roles b.first o b.within in
    let l = from_leaf (suc b.level) r.0 (old_tree b.level d b.block r.0 r.1) (refined_tree b.level d b.block r.0 r.1) 0 (refined_tree b.level d b.block r.0 r.1).leaves o r.2 in
    let e : o.level ≡ suc b.level = ap (λ (x : Obligation). x.level) l.3 in
    (omega (arith, e), omega (arith, e, c, within))
