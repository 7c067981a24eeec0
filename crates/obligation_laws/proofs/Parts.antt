-- A part of a leaf's formula that is true is a run of the body above, which sends what the leaf sends.
use Rattle.std.proofs.Common.{◌≡◌, inl, inr, ℕ, suc, ◌+◌, ◌<◌, ◌^◌, ◌==◌, ◌&&◌, List, [], ◌∷◌, ◌++◌, length, map, Bool, true, false, Option, Some, None, if◌then◌else◌, option_map, option_and_then, refl, sym, ap, subst, ◌∙◌}
use Rattle.std.specs.Prelude.{slice_get, unwrap_or}
use Rattle.std.specs.List.{AllZip}
use Rattle.std.proofs.lemmas.Nat.{pow_pos}
use Rattle.cocoon_num.specs.Names.{same_name}
use Rattle.cocoon_num.specs.Packets.{Packet}
use Rattle.cocoon_num.specs.Sorts.{bits_sort}
use Rattle.cocoon_num.specs.Tree.{Param, Refine, Role, Design}
use Rattle.cocoon_num.specs.Values.{FitsWidth}
use Rattle.cocoon_resolve.specs.Readers.{all_widths}
use Rattle.cocoon_types.specs.Design.{role_at, widths_of}
use Rattle.cocoon_types.specs.Rules.{WellFormed}
use Rattle.cocoon_types.specs.Runs.{Go, Loc, world}
use Rattle.cocoon_types.specs.SameTrees.{same_params}
use Rattle.cocoon_types.specs.Tables.{Defs}
use Rattle.cocoon_types.specs.Taken.{RunsAreTaken}
use Rattle.refinement.specs.Plain.{plainly}
use Rattle.refinement.specs.Ways.{Arrival, go_by}
use Rattle.refinement.proofs.Lists.{same_number}
use Rattle.refinement.proofs.Roles.{header_kept}
use Rattle.refinement.proofs.Ways.{same_go}
use Rattle.bv_terms.specs.Replacements.{Replacing, replaced}
use Rattle.bv_terms.specs.TermTrees as term
use Rattle.bv_terms.specs.TermTrees.{Term, width}
use Rattle.bv_terms.specs.TermValues.{Functions, Inputs, number_in, term_value}
use Rattle.bv_terms.specs.Walks.{same_term}
use Rattle.role_values.specs.Flat.{packet_of}
use Rattle.sound_types.specs.Matching.{IsOfSort}
use Rattle.sound_types.proofs.Members.{In}
use Rattle.sound_types.proofs.Options.{both_true, same_text}
use Rattle.obligation_laws.specs.Shown.{HasNumber, HasWidth, functions_by, numbers_of}
use Rattle.obligation_laws.proofs.Typings.{in_place}
use Rattle.obligation_laws.specs.LeafRuns.{LeavesAreRuns, first_loc, first_packet}
use Rattle.obligation_laws.specs.Leaves.{Leaf, Tree, body_tree, end_fields, end_role, end_values, inlined, params_of}
use Rattle.obligation_laws.specs.Meant.{AllFit, IsOne, arrives, given}
use Rattle.obligation_laws.specs.States.{NewInput, input_term, inputs_from, term_world}
use Rattle.obligation_laws.proofs.Ascending.{tree_ascends}
use Rattle.obligation_laws.proofs.Meaning.{Holds}
use Rattle.obligation_laws.proofs.TruthValues.{IsBit}
use Rattle.obligation_laws.specs.Formulas.{chain, equals, leaf_inputs, part, position, read_back, replacing, sent_at, stand_ins}
use Rattle.obligation_laws.proofs.Chains.{AllBits, AllOne, chain_bit, chain_true, compare}
use Rattle.obligation_laws.specs.LeafShown.{LeafShown}
use Rattle.obligation_laws.specs.MadeOf.{AllMade, Have, LeafMade, Made, OfInputs}
use Rattle.obligation_laws.proofs.LeafValues.{leaf_shown}
use Rattle.obligation_laws.proofs.MadeLeaves.{have_back, have_front, leaf_made}
use Rattle.obligation_laws.proofs.Replaced.{Pairs, Standing, beside_pairs, pairs_given, pairs_join, pairs_split, pairs_stand, pairs_weaker, replaced_made, replaced_value, standing_fit, values_of}
use Rattle.bv_terms.specs.declared.node.TermOp.TheVariants as ops

-- ---- parameters of a role at two levels

params_widths : (ps qs : List Param) → same_params ps qs ≡ true → widths_of ps ≡ widths_of qs
params_widths [] [] h = refl
params_widths [] (q ∷ qs) h = absurd (cc)
params_widths (p ∷ ps) [] h = absurd (cc)
params_widths (p ∷ ps) (q ∷ qs) h =
    let a = both_true (same_name p.name.text q.name.text && (p.width == q.width)) (same_params ps qs) h in
    let b = both_true (same_name p.name.text q.name.text) (p.width == q.width) a.0 in
    λ k. same_number p.width q.width b.1 k ∷ params_widths ps qs a.1 k

-- an old role has the same widths at the next level
pub widths_kept : (d : Design) → WellFormed d → (above : ℕ) (block : Refine) → slice_get d.refines above ≡ Some block → (x : List ℕ) (r q : Role) → role_at above d x ≡ Some r → role_at (suc above) d x ≡ Some q
    → widths_of r.params ≡ widths_of q.params
widths_kept d w above block at x r q h k = elim (header_kept d w above block at x r q h k) [
  | inl same ↦ params_widths r.params q.params same.0
  | inr same ↦ ap (λ (z : Role). widths_of z.params) same
]

-- ---- choices that are read back

same_width : (t : Term) (i : NewInput) → same_term t (input_term i) ≡ true → width t ≡ i.width
same_width (term.input j v) i h = same_number v i.width (both_true (j == i.number) (v == i.width) h).1
same_width (term.constant v n) i h = absurd (cc)
same_width (term.apply f args v) i h = absurd (cc)
same_width (term.not_ a) i h = absurd (cc)
same_width (term.binary op a b) i h = absurd (cc)
same_width (term.slice a high low) i h = absurd (cc)
same_width (term.pick c a b) i h = absurd (cc)

some_same : {A : Type 0} (a b : A) → ◌≡◌ {A = Option A} (Some a) (Some b) → a ≡ b
some_same a b h = cc

-- what is sent at a choice's position is as wide as the choice
pub sent_wide : (R : ℕ → Term → Type 0) (ws : List ℕ) (old sent : List Term) → AllZip HasWidth ws old → AllZip R ws sent → (i : NewInput) (u : Term) → sent_at i old sent ≡ Some u → R i.width u
sent_wide R [] [] sent h k i u e = absurd (cc)
sent_wide R [] (t ∷ old) sent h k i u e = absurd h
sent_wide R (w ∷ ws) [] sent h k i u e = absurd h
sent_wide R (w ∷ ws) (t ∷ old) [] h k i u e = absurd k
sent_wide R (w ∷ ws) (t ∷ old) (s ∷ sent) h k i u e = by (sent_wide R ws old sent h.1 k.1 i u) (same_term t (input_term i)) refl e
  where
    later : (option_and_then (slice_get sent) (position i old) ≡ Some u → R i.width u) → (o : Option ℕ) → position i old ≡ o → option_and_then (slice_get (s ∷ sent)) (option_map suc o) ≡ Some u → R i.width u
    later f None p g = absurd (cc)
    later f (Some n) p g = f (ap (option_and_then (slice_get sent)) p ∙ g)

    by : (option_and_then (slice_get sent) (position i old) ≡ Some u → R i.width u) → (b : Bool) → same_term t (input_term i) ≡ b
        → option_and_then (slice_get (s ∷ sent)) (if b then Some 0 else option_map suc (position i old)) ≡ Some u → R i.width u
    by f true p g = subst (R i.width) (some_same s u g) (subst (λ x. R x s) (sym h.0 ∙ same_width t i p) k.0)
    by f false p g = later f (position i old) refl g

-- ---- lists

all_front : (F : Functions) (ins : Inputs) (ts us : List Term) → AllOne F ins (ts ++ us) → AllOne F ins ts × AllOne F ins us
all_front F ins [] us h = (tt, h)
all_front F ins (t ∷ ts) us h = let r = all_front F ins ts us h.1 in ((h.0, r.0), r.1)

bits_join : (F : Functions) (ins : Inputs) (ts us : List Term) → AllBits F ins ts → AllBits F ins us → AllBits F ins (ts ++ us)
bits_join F ins [] us h k = k
bits_join F ins (t ∷ ts) us h k = (h.0, bits_join F ins ts us h.1 k)

made_join : (P : OfInputs) (ts us : List Term) → AllMade P ts → AllMade P us → AllMade P (ts ++ us)
made_join P [] us h k = k
made_join P (t ∷ ts) us h k = (h.0, made_join P ts us h.1 k)

chain_made : (P : OfInputs) (t : Term) (us : List Term) → Made P t → AllMade P us → Made P (chain ops.And t us)
chain_made P t [] h k = h
chain_made P t (u ∷ us) h k = chain_made P (term.binary ops.And t u) us (h, k.0) k.1

zip_made : (P : OfInputs) (R : ℕ → Term → Type 0) (ws : List ℕ) (ts : List Term) → AllZip R ws ts → AllMade P ts → AllZip (λ w t. R w t × Made P t) ws ts
zip_made P R [] [] h k = tt
zip_made P R [] (t ∷ ts) h k = absurd h
zip_made P R (w ∷ ws) [] h k = absurd h
zip_made P R (w ∷ ws) (t ∷ ts) h k = ((h.0, k.0), zip_made P R ws ts h.1 k.1)

are_given : (F : Functions) (ins : Inputs) (is : List NewInput) → numbers_of F ins (map input_term is) ≡ given ins is
are_given F ins [] = refl
are_given F ins (i ∷ is) = ap (λ ns. ins i.number ∷ ns) (are_given F ins is)

-- a property of the inputs that are given numbers that fit
abbrev pub Fitting : Inputs → OfInputs
Fitting ins i w = FitsWidth w (ins i)

pub fit_have : (ins : Inputs) (is : List NewInput) → AllFit ins is → Have (Fitting ins) is
fit_have ins [] h = tt
fit_have ins (i ∷ is) h = (h.0, fit_have ins is h.1)

positive : (w : ℕ) → 0 < 2 ^ w
positive w = pow_pos w

-- ---- terms that are equal

module _ (F : Functions) (ins : Inputs) (r : Replacing) where
  -- old terms with their inputs replaced, and terms that are sent, of the same widths
  equals_shown : (ws : List ℕ) (ts us : List Term) → AllZip (HasNumber F (values_of F ins r)) ws ts → AllMade (Standing r (HasNumber F ins)) ts → AllZip (HasNumber F ins) ws us
      → AllBits F ins (equals r ts us) × (AllOne F ins (equals r ts us) → numbers_of F (values_of F ins r) ts ≡ numbers_of F ins us)
  equals_shown [] [] [] h m k = (tt, λ one. refl)
  equals_shown [] [] (u ∷ us) h m k = absurd k
  equals_shown [] (t ∷ ts) us h m k = absurd h
  equals_shown (w ∷ ws) [] us h m k = absurd h
  equals_shown (w ∷ ws) (t ∷ ts) [] h m k = absurd k
  equals_shown (w ∷ ws) (t ∷ ts) (u ∷ us) h m k =
      let rest = equals_shown ws ts us h.1 m.1 k.1 in
      let e = replaced_value F ins r t m.0 in
      let c = compare F ins w (replaced r t) u (subst (IsOfSort (bits_sort w)) (sym e) h.0) k.0 in
      ((c.bit, rest.0), λ one. λ j. (ap number_in (sym e) ∙ c.same one.0) j ∷ rest.1 one.1 j)

  equals_made : (P : OfInputs) (ts us : List Term) → AllMade (Standing r (λ w u. Made P u)) ts → AllMade P us → AllMade P (equals r ts us)
  equals_made P [] us m k = tt
  equals_made P (t ∷ ts) [] m k = tt
  equals_made P (t ∷ ts) (u ∷ us) m k = ((replaced_made P r t m.0, k.0), equals_made P ts us m.1 k.1)

-- ---- a part

-- a part is true or false, is made of inputs that fit, and if it is true, the body above sends this
pub record PartShown (d : Design) (defs : Defs) (ins : Inputs) (above : ℕ) (from : Loc) (packet : Packet) (leaf : Leaf) (t : Term) : Type 0 where
  pub bit : IsBit (functions_by d defs) ins t
  pub made : Made (Fitting ins) t
  pub sends : IsOne (functions_by d defs) ins t
      → (choices : List ℕ) × Go (world above d defs) from packet choices (arrives (functions_by d defs) ins d.headers leaf []).to (arrives (functions_by d defs) ins d.headers leaf []).sent

-- a leaf of a tree of the next level, beside which old leaves are looked at: its inputs fit, and its terms have values
pub record Beside (d : Design) (defs : Defs) (ins : Inputs) (level : ℕ) (tree : Tree) (leaf : Leaf) : Type 0 where
  pub args : AllFit ins tree.args
  pub fields : AllFit ins tree.fields
  pub choices : AllFit ins leaf.choices
  pub shown : LeafShown d defs ins level leaf
  pub made : LeafMade (Fitting ins) leaf

-- what is known of an old leaf: where it sends, and the widths of what it sends there, which are those of what the leaf sends
pub record OldLeaf (d : Design) (defs : Defs) (ins : Inputs) (above : ℕ) (leaf old : Leaf) : Type 0 where
  pub role : Role
  pub declared : role_at above d (end_role old.end) ≡ Some role
  pub values : AllZip HasWidth (widths_of role.params) (end_values old.end)
  pub fields : AllZip HasWidth (all_widths d.headers) (end_fields old.end)
  pub sent : AllZip (HasNumber (functions_by d defs) ins) (widths_of role.params) (end_values leaf.end)
  pub same : same_name (end_role leaf.end) (end_role old.end) ≡ true

module _ (d : Design) (defs : Defs) (hold : (level : ℕ) (i : Inputs) → Holds d defs i level) (taken : RunsAreTaken) (above : ℕ) (role : List ℕ) (within first next : ℕ)
    (same_widths : widths_of (params_of (term_world above d) role) ≡ widths_of (params_of (term_world (suc above) d) role))
    (runs : LeavesAreRuns (functions_by d defs) d.headers role (body_tree above d role next) (go_by (world above d defs))) where
  abbrev F : Functions
  F = functions_by d defs

  abbrev tree : Tree
  tree = inlined above d role within first

  abbrev old_tree : Tree
  old_tree = body_tree above d role next

  module _ (ins : Inputs) (leaf : Leaf) (it : Beside d defs ins (suc above) (inlined above d role within first) leaf) (old : Leaf) (inside : In old (body_tree above d role next).leaves)
      (r : Role) (is : role_at above d role ≡ Some r) (o : OldLeaf d defs ins above leaf old) where
    -- what stands for an input has a value of its width, and is made of inputs that fit
    abbrev Stands : ℕ → Term → Type 0
    Stands w t = HasNumber F ins w t × Made (Fitting ins) t

    abbrev ws : List ℕ
    ws = widths_of o.role.params

    values_stand : AllZip Stands ws (end_values leaf.end)
    values_stand = zip_made (Fitting ins) (HasNumber F ins) ws (end_values leaf.end) o.sent it.made.values

    fields_stand : AllZip Stands (all_widths d.headers) (end_fields leaf.end)
    fields_stand = zip_made (Fitting ins) (HasNumber F ins) (all_widths d.headers) (end_fields leaf.end) it.shown.fields it.made.fields

    read_back_stands : (i : NewInput) → Stands i.width (read_back old.end leaf.end i)
    read_back_stands i = by (sent_at i (end_values old.end) (end_values leaf.end)) refl
      where
        as_field : (x : Option Term) → sent_at i (end_fields old.end) (end_fields leaf.end) ≡ x → Stands i.width (unwrap_or x (term.constant i.width 0))
        as_field None e = ((refl, positive i.width), tt)
        as_field (Some t) e = sent_wide Stands (all_widths d.headers) (end_fields old.end) (end_fields leaf.end) o.fields fields_stand i t e

        by : (x : Option Term) → sent_at i (end_values old.end) (end_values leaf.end) ≡ x
            → Stands i.width (elim x as (λ y. Term) [ Some t ↦ t | None ↦ unwrap_or (sent_at i (end_fields old.end) (end_fields leaf.end)) (term.constant i.width 0) ])
        by None e = as_field (sent_at i (end_fields old.end) (end_fields leaf.end)) refl
        by (Some t) e = sent_wide Stands ws (end_values old.end) (end_values leaf.end) o.values values_stand i t e

    -- ---- what stands for the inputs of the old leaf

    abbrev AreStanding : List NewInput → List Term → Type 0
    AreStanding is ts = Pairs (λ i t. Stands i.width t) is ts

    inputs_stand : (m n : ℕ) (vs : List ℕ) → AllFit ins (inputs_from n vs) → AreStanding (inputs_from m vs) (map input_term (inputs_from n vs))
    inputs_stand m n [] h = tt
    inputs_stand m n (w ∷ vs) h = (((refl, h.0), h.0), inputs_stand (suc m) (suc n) vs h.1)

    choices_stand : (is : List NewInput) → AreStanding is (map (read_back old.end leaf.end) is)
    choices_stand [] = tt
    choices_stand (i ∷ is) = (read_back_stands i, choices_stand is)

    args_stand : AreStanding old_tree.args (map input_term tree.args)
    args_stand =
        subst (λ vs. AreStanding (inputs_from next vs) (map input_term tree.args)) (sym same_widths)
        (inputs_stand next first (widths_of (params_of (term_world (suc above) d) role)) it.args)

    packet_stands : AreStanding old_tree.fields (map input_term tree.fields)
    packet_stands = inputs_stand (next + length old_tree.args) (first + length tree.args) (all_widths d.headers) it.fields

    abbrev after_args : List NewInput
    after_args = old_tree.fields ++ old.choices

    abbrev behind_args : List Term
    behind_args = map input_term tree.fields ++ map (read_back old.end leaf.end) old.choices

    later_stand : AreStanding after_args behind_args
    later_stand =
        pairs_join (λ i t. Stands i.width t) old_tree.fields (map input_term tree.fields) old.choices (map (read_back old.end leaf.end) old.choices) packet_stands (choices_stand old.choices)

    all_stand : AreStanding (leaf_inputs old_tree old) (stand_ins old tree leaf)
    all_stand = pairs_join (λ i t. Stands i.width t) old_tree.args (map input_term tree.args) after_args behind_args args_stand later_stand

    abbrev given_by : Replacing
    given_by = replacing old_tree old tree leaf

    place : (n : ℕ) × (slice_get (body_tree above d role next).leaves n ≡ Some old)
    place = in_place old (body_tree above d role next).leaves inside

    found : Pairs (λ i t. given_by i.number ≡ Some t) (leaf_inputs old_tree old) (stand_ins old tree leaf)
    found =
        beside_pairs (λ i t. Stands i.width t) next old_tree.next (leaf_inputs old_tree old) (stand_ins old tree leaf)
        (tree_ascends (term_world above d) (all_widths d.headers) (λ x. false) 1 role next place.0 old place.1) all_stand

    have_standing : (S : ℕ → Term → Type 0) → ((w : ℕ) (t : Term) → Stands w t → S w t) → Have (Standing given_by S) (leaf_inputs old_tree old)
    have_standing S f =
        pairs_stand S given_by (leaf_inputs old_tree old) (stand_ins old tree leaf) found
        (pairs_weaker (λ i t. Stands i.width t) (λ i t. S i.width t) (λ i t h. f i.width t h) (leaf_inputs old_tree old) (stand_ins old tree leaf) all_stand)

    old_made : (S : ℕ → Term → Type 0) → ((w : ℕ) (t : Term) → Stands w t → S w t) → LeafMade (Standing given_by S) old
    old_made S f =
        let h = have_standing S f in
        let P : OfInputs = Standing given_by S in
        let later = have_back P old_tree.args after_args h in
        leaf_made P d above (λ x. false) 1 role next old inside (have_front P old_tree.args after_args h) (have_front P old_tree.fields old.choices later) (have_back P old_tree.fields old.choices later)

    -- ---- the old leaf, where its inputs have these values

    abbrev olds : Inputs
    olds = values_of F ins given_by

    pub by_number : LeafMade (Standing given_by (HasNumber F ins)) old
    by_number = old_made (HasNumber F ins) (λ w t h. h.0)

    by_fit : LeafMade (Standing given_by (λ w u. Made (Fitting ins) u)) old
    by_fit = old_made (λ w u. Made (Fitting ins) u) (λ w t h. h.1)

    numbers_stand : Have (Standing given_by (HasNumber F ins)) (leaf_inputs old_tree old)
    numbers_stand = have_standing (HasNumber F ins) (λ w t h. h.0)

    later_numbers : Have (Standing given_by (HasNumber F ins)) after_args
    later_numbers = have_back (Standing given_by (HasNumber F ins)) old_tree.args after_args numbers_stand

    args_fit : AllFit olds old_tree.args
    args_fit = standing_fit F ins given_by old_tree.args (have_front (Standing given_by (HasNumber F ins)) old_tree.args after_args numbers_stand)

    fields_fit : AllFit olds old_tree.fields
    fields_fit = standing_fit F ins given_by old_tree.fields (have_front (Standing given_by (HasNumber F ins)) old_tree.fields old.choices later_numbers)

    choices_fit : AllFit olds old.choices
    choices_fit = standing_fit F ins given_by old.choices (have_back (Standing given_by (HasNumber F ins)) old_tree.fields old.choices later_numbers)

    pub old_shown : LeafShown d defs olds above old
    old_shown = leaf_shown d defs olds above (hold above olds) (λ x. false) 1 role next r is old inside args_fit fields_fit choices_fit

    pub old_values : AllZip (HasNumber F olds) ws (end_values old.end)
    old_values = subst (λ (x : Role). AllZip (HasNumber F olds) (widths_of x.params) (end_values old.end)) (some_same old_shown.role o.role (sym old_shown.declared ∙ o.declared)) old_shown.values

    -- ---- the part

    abbrev equal_values : List Term
    equal_values = equals given_by (end_values old.end) (end_values leaf.end)

    abbrev equal_fields : List Term
    equal_fields = equals given_by (end_fields old.end) (end_fields leaf.end)

    cond_is : term_value F ins (replaced given_by old.cond) ≡ term_value F olds old.cond
    cond_is = replaced_value F ins given_by old.cond by_number.cond

    values_shown : AllBits F ins equal_values × (AllOne F ins equal_values → numbers_of F olds (end_values old.end) ≡ numbers_of F ins (end_values leaf.end))
    values_shown = equals_shown F ins given_by ws (end_values old.end) (end_values leaf.end) old_values by_number.values o.sent

    fields_shown : AllBits F ins equal_fields × (AllOne F ins equal_fields → numbers_of F olds (end_fields old.end) ≡ numbers_of F ins (end_fields leaf.end))
    fields_shown = equals_shown F ins given_by (all_widths d.headers) (end_fields old.end) (end_fields leaf.end) old_shown.fields by_number.fields it.shown.fields

    cond_bit : IsBit F ins (replaced given_by old.cond)
    cond_bit = (old_shown.cond.0, cond_is ∙ old_shown.cond.1)

    bits : AllBits F ins (equal_values ++ equal_fields)
    bits = bits_join F ins equal_values equal_fields values_shown.0 fields_shown.0

    pub from_same : given olds old_tree.args ≡ given ins tree.args
    from_same =
        pairs_given F ins given_by old_tree.args (map input_term tree.args) (pairs_split (λ i t. given_by i.number ≡ Some t) (λ i t. Stands i.width t) old_tree.args (map input_term tree.args) after_args behind_args args_stand found).0
        ∙ are_given F ins tree.args

    pub packet_same : given olds old_tree.fields ≡ given ins tree.fields
    packet_same =
        let later = (pairs_split (λ i t. given_by i.number ≡ Some t) (λ i t. Stands i.width t) old_tree.args (map input_term tree.args) after_args behind_args args_stand found).1 in
        pairs_given F ins given_by old_tree.fields (map input_term tree.fields)
        (pairs_split (λ i t. given_by i.number ≡ Some t) (λ i t. Stands i.width t) old_tree.fields (map input_term tree.fields) old.choices (map (read_back old.end leaf.end) old.choices) packet_stands later).0
        ∙ are_given F ins tree.fields

    pub choices_same : given olds old.choices ≡ numbers_of F ins (map (read_back old.end leaf.end) old.choices)
    choices_same =
        let later = (pairs_split (λ i t. given_by i.number ≡ Some t) (λ i t. Stands i.width t) old_tree.args (map input_term tree.args) after_args behind_args args_stand found).1 in
        pairs_given F ins given_by old.choices (map (read_back old.end leaf.end) old.choices)
        (pairs_split (λ i t. given_by i.number ≡ Some t) (λ i t. Stands i.width t) old_tree.fields (map input_term tree.fields) old.choices (map (read_back old.end leaf.end) old.choices) packet_stands later).1

    abbrev from : Loc
    from = first_loc ins role tree

    abbrev packet : Packet
    packet = first_packet ins d.headers tree

    abbrev led : Arrival
    led = arrives F ins d.headers leaf []

    went : IsOne F ins (part old_tree old tree leaf) → go_by (world above d defs) from packet (given olds old.choices ++ []) ≡ Some (arrives F olds d.headers old [])
    went one =
        let t = chain_true F ins (replaced given_by old.cond) (equal_values ++ equal_fields) cond_bit bits one in
        let its = runs olds args_fit fields_fit place.0 old place.1 choices_fit in
        (λ k. go_by (world above d defs) (record { role = role; values = sym from_same k }) (packet_of d.headers (sym packet_same k)) (given olds old.choices ++ []))
        ∙ its.runs (sym cond_is ∙ t.0) []

    to_same : IsOne F ins (part old_tree old tree leaf) → (arrives F olds d.headers old []).to ≡ (arrives F ins d.headers leaf []).to
    to_same one =
        let t = chain_true F ins (replaced given_by old.cond) (equal_values ++ equal_fields) cond_bit bits one in
        let v = values_shown.1 (all_front F ins equal_values equal_fields t.1).0 in
        let e = same_text (end_role leaf.end) (end_role old.end) o.same in
        λ k. record { role = sym e k; values = v k }

    sent_same : IsOne F ins (part old_tree old tree leaf) → (arrives F olds d.headers old []).sent ≡ (arrives F ins d.headers leaf []).sent
    sent_same one =
        let t = chain_true F ins (replaced given_by old.cond) (equal_values ++ equal_fields) cond_bit bits one in
        ap (packet_of d.headers) (fields_shown.1 (all_front F ins equal_values equal_fields t.1).1)

    pub part_shown : PartShown d defs ins above (first_loc ins role (inlined above d role within first)) (first_packet ins d.headers (inlined above d role within first)) leaf (part (body_tree above d role next) old (inlined above d role within first) leaf)
    part_shown = record {
      bit = chain_bit F ins (replaced given_by old.cond) (equal_values ++ equal_fields) cond_bit bits;
      made =
          chain_made (Fitting ins) (replaced given_by old.cond) (equal_values ++ equal_fields) (replaced_made (Fitting ins) given_by old.cond by_fit.cond)
          (made_join (Fitting ins) equal_values equal_fields
          (equals_made F ins given_by (Fitting ins) (end_values old.end) (end_values leaf.end) by_fit.values it.made.values)
          (equals_made F ins given_by (Fitting ins) (end_fields old.end) (end_fields leaf.end) by_fit.fields it.made.fields));
      sends = λ one.
          let W = world above d defs in
          let cs = given olds old.choices ++ [] in
          let a = arrives F olds d.headers old [] in
          let g = taken.gives W from packet cs a.to a.sent [] (sym (same_go W from packet cs) ∙ ap plainly (went one)) in
          (g.0, subst (λ x. Go W from packet g.0 led.to x) (sent_same one) (subst (λ x. Go W from packet g.0 x a.sent) (to_same one) g.2));
    }
