-- A leaf whose formula is never true never fails.
use Rattle.std.proofs.Common.{◌≡◌, inl, inr, ℕ, suc, ◌+◌, List, [], ◌∷◌, length, map, true, false, Option, Some, None, refl, sym, ap, subst, ◌∙◌}
use Rattle.std.specs.Prelude.{slice_get}
use Rattle.std.specs.List.{AllZip}
use Rattle.cocoon_num.specs.Names.{same_name}
use Rattle.cocoon_num.specs.PacketForms.{PacketFits}
use Rattle.cocoon_num.specs.Packets.{Packet}
use Rattle.cocoon_num.specs.Tree.{DefsText, Refine, Role, Design}
use Rattle.cocoon_resolve.specs.Readers.{all_widths}
use Rattle.cocoon_types.specs.Design.{layout, role_at, widths_of}
use Rattle.cocoon_types.specs.Runs.{Go, Loc, world}
use Rattle.cocoon_types.specs.Tables.{Defs, defs_of}
use Rattle.refinement.specs.Segments.{is_new}
use Rattle.refinement.specs.Ways.{Arrival, hops_by}
use Rattle.bv_terms.specs.declared.node.TermOp.TheVariants as ops
use Rattle.bv_terms.specs.Inputs.{InputsFit}
use Rattle.bv_terms.specs.TermTrees as term
use Rattle.bv_terms.specs.TermTrees.{Term}
use Rattle.bv_terms.specs.TermValues.{Functions, Inputs}
use Rattle.sound_types.specs.Defined.{HasDefinitions}
use Rattle.sound_types.proofs.Members.{In, flat_in, map_in}
use Rattle.sound_types.proofs.Options.{same_text}
use Rattle.obligation_laws.specs.Shown.{HasNumber, functions_by}
use Rattle.obligation_laws.proofs.Typings.{in_place}
use Rattle.obligation_laws.specs.Following.{Followed, follow_all, one, those_sent}
use Rattle.obligation_laws.specs.LeafRuns.{first_loc, first_packet}
use Rattle.obligation_laws.specs.Leaves.{End, sent_to, inside, Leaf, Tree, begins, body_tree, end_role, end_values, entered, entry_of, follow_body, hops, inlined, leaf_of, onward}
use Rattle.obligation_laws.specs.Meant.{AllFit, IsOne, arrives}
use Rattle.obligation_laws.specs.States.{State, input_term, term_world}
use Rattle.obligation_laws.proofs.Followings.{each_in, passed}
use Rattle.obligation_laws.proofs.TruthValues.{IsBit}
use Rattle.obligation_laws.specs.MadeOf.{AllMade, Made, OfInputs}
use Rattle.obligation_laws.proofs.LeafValues.{leaf_shown}
use Rattle.obligation_laws.proofs.LeafWays.{one_way}
use Rattle.obligation_laws.proofs.Made.{made_fit}
use Rattle.obligation_laws.proofs.MadeLeaves.{leaf_made}
use Rattle.obligation_laws.proofs.Together.{holds_of}
use Rattle.obligation_laws.specs.Failing.{IsKept, NeverTrue, NoRunFails}
use Rattle.obligation_laws.specs.Formulas.{any_of, chain, formula, part, parts, sending_to}
use Rattle.obligation_laws.specs.Obligations.{Kind, bounded, contained, kind_of}
use Rattle.obligation_laws.proofs.Chains.{AllBits, kept_true}
use Rattle.obligation_laws.proofs.Parts.{Beside, Fitting, OldLeaf, PartShown, fit_have, part_shown, widths_kept}
use Rattle.obligation_laws.proofs.RunsFound.{Known, params_there, run_found}

-- ---- lists of parts

pub all_bits : (F : Functions) (ins : Inputs) (ts : List Term) → ((t : Term) → In t ts → IsBit F ins t) → AllBits F ins ts
all_bits F ins [] h = tt
all_bits F ins (t ∷ ts) h = (h t (inl refl), all_bits F ins ts (λ u i. h u (inr i)))

all_made : (P : OfInputs) (ts : List Term) → ((t : Term) → In t ts → Made P t) → AllMade P ts
all_made P [] h = tt
all_made P (t ∷ ts) h = (h t (inl refl), all_made P ts (λ u i. h u (inr i)))

ors_made : (P : OfInputs) (t : Term) (us : List Term) → Made P t → AllMade P us → Made P (chain ops.Or t us)
ors_made P t [] h k = h
ors_made P t (u ∷ us) h k = ors_made P (term.binary ops.Or t u) us (h, k.0) k.1

any_made : (P : OfInputs) (ts : List Term) → AllMade P ts → Made P (any_of ts)
any_made P [] h = tt
any_made P (t ∷ ts) h = ors_made P t ts h.0 h.1

-- ---- old leaves

some_same : {A : Type 0} (a b : A) → ◌≡◌ {A = Option A} (Some a) (Some b) → a ≡ b
some_same a b h = cc

-- a body that has a leaf is that of a declared role
pub role_of : (level : ℕ) (d : Design) (role : List ℕ) (first : ℕ) (leaf : Leaf) → In leaf (body_tree level d role first).leaves → (r : Role) × (role_at level d role ≡ Some r)
role_of level d role first leaf i =
    let w = term_world level d in
    let tree = body_tree level d role first in
    let at = entry_of role tree.args in
    let s = begins w at (map input_term tree.fields) in
    let n = first + length tree.args + length tree.fields in
    let t = flat_in (leaf_of (λ x. false)) leaf (hops w (λ x. false) 1 s n).0 i in
    let m = each_in (onward (λ x. false) (hops w (λ x. false) 0)) (follow_body w at s n).0 (follow_body w at s n).1 t.0 t.1 in
    by (role_at level d role) refl m.0 s n m.1
  where
    by : (o : Option Role) → role_at level d role ≡ o → (m s : State) (n : ℕ)
        → In m (elim o as (λ x. Followed) [ None ↦ ([], n) | Some r ↦ elim r.body [ None ↦ ([], n) | Some b ↦ those_sent (follow_all (term_world level d) b (one (entered r (entry_of role (body_tree level d role first).args) s) n)) ] ]).0
        → (r : Role) × (role_at level d role ≡ Some r)
    by None e m s n j = absurd j
    by (Some r) e m s n j = (r, e)

module _ (d : Design) (known : Known d) (above : ℕ) (block : Refine) (at : slice_get d.refines above ≡ Some block) (role : List ℕ) (first next : ℕ) where
  abbrev tree : Tree
  tree = inlined above d role block.within first

  abbrev old_tree : Tree
  old_tree = body_tree above d role next

  module _ (es : DefsText) (h : HasDefinitions d es) (r : Role) (is : role_at (suc above) d role ≡ Some r) (ins : Inputs) (leaf : Leaf)
      (it : Beside d (defs_of d es) ins (suc above) (inlined above d role block.within first) leaf) where
    abbrev F : Functions
    F = functions_by d (defs_of d es)

    abbrev Shown : Term → Type 0
    Shown t = PartShown d (defs_of d es) ins above (first_loc ins role tree) (first_packet ins d.headers tree) leaf t

    pub old_leaf : (old : Leaf) → In old old_tree.leaves → (q : Role) → role_at above d role ≡ Some q → same_name (end_role leaf.end) (end_role old.end) ≡ true → OldLeaf d (defs_of d es) ins above leaf old
    old_leaf old i q declared same =
        let p = in_place old old_tree.leaves i in
        let f = known.wide above role q declared next p.0 old p.1 in
        let e = same_text (end_role leaf.end) (end_role old.end) same in
        let kept = widths_kept d known.rules above block at (end_role old.end) f.role it.shown.role f.declared (subst (λ x. role_at (suc above) d x ≡ Some it.shown.role) e it.shown.declared) in
        record {
          role = f.role;
          declared = f.declared;
          values = f.values;
          fields = f.fields;
          sent = subst (λ vs. AllZip (HasNumber F ins) vs (end_values leaf.end)) (sym kept) it.shown.values;
          same = same;
        }

    one_shown : (old : Leaf) → In old old_tree.leaves → same_name (end_role leaf.end) (end_role old.end) ≡ true → Shown (part old_tree old tree leaf)
    one_shown old i same =
        let q = role_of above d role next old i in
        let widths = ap widths_of (params_there above d role q.0 q.1) ∙ widths_kept d known.rules above block at role q.0 r q.1 is ∙ ap widths_of (sym (params_there (suc above) d role r is)) in
        part_shown d (defs_of d es) (holds_of d es h (known.sound es h) known.roles) known.taken above role block.within first next widths (known.are es h above role q.0 q.1 next)
        ins leaf it old i q.0 q.1 (old_leaf old i q.0 q.1 same)

    pub all_shown : (t : Term) → In t (parts old_tree tree leaf) → Shown t
    all_shown t i =
        let m = map_in (λ old. part old_tree old tree leaf) t (sending_to (end_role leaf.end) old_tree.leaves) i in
        let p = passed (λ (old : Leaf). same_name (end_role leaf.end) (end_role old.end)) old_tree.leaves m.0 m.1 in
        subst Shown (sym m.2) (one_shown m.0 p.0 p.1)

    -- what is sent where a leaf is true, and its formula is not, is sent by the body above
    abbrev IsSent : Kind → Type 0
    IsSent k = IsKept above d (defs_of d es) k (first_loc ins role tree) (first_packet ins d.headers tree) (arrives F ins d.headers leaf [])

    pub kept : IsOne F ins leaf.cond → (InputsFit (formula old_tree tree leaf) ins → IsOne F ins (formula old_tree tree leaf) → ⊥) → IsSent (kind_of leaf.end)
    kept holds never = by leaf.end refl
      where
        ts : List Term
        ts = parts old_tree tree leaf

        by : (e : End) → leaf.end ≡ e → IsSent (kind_of e)
        by (inside x values fields) e =
            let same : formula old_tree tree leaf ≡ leaf.cond = ap (λ (y : End). elim y as (λ z. Term) [ sent_to a b c ↦ term.binary ops.And leaf.cond (term.not_ (any_of ts)) | inside a b c ↦ leaf.cond ]) e in
            never (subst (λ t. InputsFit t ins) (sym same) (made_fit ins leaf.cond it.made.cond)) (subst (IsOne F ins) (sym same) holds)
        by (sent_to x values fields) e =
            let same : formula old_tree tree leaf ≡ term.binary ops.And leaf.cond (term.not_ (any_of ts)) =
            ap (λ (y : End). elim y as (λ z. Term) [ sent_to a b c ↦ term.binary ops.And leaf.cond (term.not_ (any_of ts)) | inside a b c ↦ leaf.cond ]) e in
            let made : Made (Fitting ins) (term.binary ops.And leaf.cond (term.not_ (any_of ts))) = (it.made.cond, any_made (Fitting ins) ts (all_made (Fitting ins) ts (λ t i. (all_shown t i).made))) in
            let t = kept_true F ins leaf.cond ts (all_bits F ins ts (λ t i. (all_shown t i).bit)) holds
            (λ one. never (subst (λ t. InputsFit t ins) (sym same) (made_fit ins (term.binary ops.And leaf.cond (term.not_ (any_of ts))) made)) (subst (IsOne F ins) (sym same) one)) in
            (all_shown t.0 t.1).sends t.2

  -- under the definitions of a text, no run of the role along a leaf's way fails
  no_run : (leaf : Leaf) → In leaf tree.leaves → (es : DefsText) → HasDefinitions d es
      → ((ins : Inputs) → InputsFit (formula old_tree tree leaf) ins → IsOne (functions_by d (defs_of d es)) ins (formula old_tree tree leaf) → ⊥)
      → (ns : List ℕ) (packet : Packet) (cs : List ℕ) (led : Arrival) → PacketFits (layout d) packet
      → hops_by above d (defs_of d es) block.within (record { role = role; values = ns }) packet cs ≡ Some led → led.way ≡ leaf.way
      → IsKept above d (defs_of d es) (kind_of leaf.end) (record { role = role; values = ns }) packet led
  no_run leaf i es h never ns packet cs led fits ran way =
      let defs = defs_of d es in
      let from : Loc = record { role = role; values = ns } in
      let found = run_found d known above block at role first es h ns packet cs led fits ran in
      let same : found.leaf ≡ leaf = one_way (term_world (suc above) d) (all_widths d.headers) (is_new above d) block.within role first found.leaf leaf found.within i (ap (λ (x : Arrival). x.way) found.ends ∙ way) in
      let ins = found.inputs in
      let choices : AllFit ins leaf.choices = subst (λ (x : Leaf). AllFit ins x.choices) same found.choices_fit in
      let it : Beside d defs ins (suc above) tree leaf = record {
        args = found.args_fit;
        fields = found.fields_fit;
        choices = choices;
        shown = leaf_shown d defs ins (suc above) (holds_of d es h (known.sound es h) known.roles (suc above) ins) (is_new above d) block.within role first found.declared.0 found.declared.1 leaf i found.args_fit found.fields_fit choices;
        made = leaf_made (Fitting ins) d (suc above) (is_new above d) block.within role first leaf i (fit_have ins tree.args found.args_fit) (fit_have ins tree.fields found.fields_fit) (fit_have ins leaf.choices choices);
      } in
      let holds : IsOne (functions_by d defs) ins leaf.cond = subst (λ (x : Leaf). IsOne (functions_by d defs) ins x.cond) same found.true_ in
      let k = kept es h found.declared.0 found.declared.1 ins leaf it holds (never ins) in
      let ends : arrives (functions_by d defs) ins d.headers leaf led.rest ≡ led = ap (λ (x : Leaf). arrives (functions_by d defs) ins d.headers x led.rest) (sym same) ∙ found.ends in
      subst (λ (x : Arrival). IsKept above d defs (kind_of leaf.end) from packet x) ends
      (moved (kind_of leaf.end) defs (arrives (functions_by d defs) ins d.headers leaf []) (arrives (functions_by d defs) ins d.headers leaf led.rest) refl refl from packet
      (subst (λ x. IsKept above d defs (kind_of leaf.end) from x (arrives (functions_by d defs) ins d.headers leaf [])) found.packet_is
      (subst (λ x. IsKept above d defs (kind_of leaf.end) x (first_packet ins d.headers tree) (arrives (functions_by d defs) ins d.headers leaf [])) found.from_is k)))
    where
      -- whatever choices are left
      moved : (k : Kind) (defs : Defs) (a b : Arrival) → a.to ≡ b.to → a.sent ≡ b.sent → (from : Loc) (packet : Packet) → IsKept above d defs k from packet a → IsKept above d defs k from packet b
      moved contained defs a b p q from packet g = (g.0, subst (λ x. Go (world above d defs) from packet g.0 b.to x) q (subst (λ x. Go (world above d defs) from packet g.0 x a.sent) p g.1))
      moved bounded defs a b p q from packet g = g

  pub never_fails : (leaf : Leaf) → In leaf (inlined above d role block.within first).leaves → NeverTrue (suc above) d (formula (body_tree above d role next) (inlined above d role block.within first) leaf)
      → NoRunFails above d block role leaf.way (kind_of leaf.end)
  never_fails leaf i never defs from packet cs led g same ran way =
      let es = g.defined.entries in
      let h : HasDefinitions d es = record { rules = known.rules; literals = known.literals; fits = g.defined.fit; values_fit = g.defined.values_fit } in
      let at_role : from ≡ record { role = role; values = from.values } = λ k. record { role = same k; values = from.values } in
      let untrue : (ins : Inputs) → InputsFit (formula old_tree tree leaf) ins → IsOne (functions_by d (defs_of d es)) ins (formula old_tree tree leaf) → ⊥ =
      subst (λ x. (ins : Inputs) → InputsFit (formula old_tree tree leaf) ins → IsOne (functions_by d x) ins (formula old_tree tree leaf) → ⊥) g.defined.are (never defs g.defined g.meets) in
      let ran' : hops_by above d (defs_of d es) block.within (record { role = role; values = from.values }) packet cs ≡ Some led =
      (λ k. hops_by above d (sym g.defined.are k) block.within (sym at_role k) packet cs) ∙ ran in
      let k = no_run leaf i es h untrue from.values packet cs led g.fits ran' way in
      subst (λ x. IsKept above d x (kind_of leaf.end) from packet led) (sym g.defined.are)
      (subst (λ x. IsKept above d (defs_of d es) (kind_of leaf.end) x packet led) (sym at_role) k)
