-- A formula is true exactly where a leaf's run fails.
use Rattle.std.proofs.Common.{◌≡◌, ◌⊎◌, inl, inr, ℕ, zero, suc, ◌+◌, ◌≤◌, ◌==◌, ◌||◌, List, [], ◌∷◌, ◌++◌, length, map, cond, Bool, true, false, Option, Some, None, option_and_then, refl, sym, ap, ◌∙◌, arith}
use Rattle.std.specs.Prelude.{◌↔◌, filter, not, slice_get}
use Rattle.std.proofs.lemmas.List.{append-nil}
use Rattle.cocoon_num.specs.Names.{same_name}
use Rattle.cocoon_num.specs.Tree.{Block, DefsText, Name, Refine, Role, Design}
use Rattle.cocoon_num.specs.Values.{number, truth}
use Rattle.cocoon_resolve.specs.Readers.{reads_back}
use Rattle.cocoon_types.specs.Design.{role_at}
use Rattle.cocoon_types.specs.FormRules.{hidden_above}
use Rattle.cocoon_types.specs.ReadBack.{hidden_in}
use Rattle.cocoon_types.specs.RuleParts.{has_name}
use Rattle.cocoon_types.specs.Rules.{WellFormed, hidden_choice}
use Rattle.cocoon_types.specs.Tables.{defs_of}
use Rattle.refinement.specs.Segments.{is_new}
use Rattle.refinement.specs.Ways.{hops_by}
use Rattle.refinement.proofs.AllLevels.{one_or_more}
use Rattle.bv_terms.specs.declared.node.TermOp.TheVariants as ops
use Rattle.bv_terms.specs.TermTrees as term
use Rattle.bv_terms.specs.TermTrees.{Term}
use Rattle.bv_terms.specs.TermValues.{Functions, Inputs, number_in, operated, term_value}
use Rattle.sound_types.specs.Defined.{HasDefinitions}
use Rattle.sound_types.proofs.Levels.{block_at}
use Rattle.sound_types.proofs.Members.{In, at_place, flat_in, in_map, none_at}
use Rattle.obligation_laws.specs.Shown.{functions_by}
use Rattle.obligation_laws.proofs.OperatorTerms.{shown}
use Rattle.obligation_laws.specs.Following.{Followed, follow_all, one, those_sent}
use Rattle.obligation_laws.specs.LeafRuns.{IsItsRun, LeavesAreRuns, first_loc, first_packet}
use Rattle.obligation_laws.specs.Leaves.{End, sent_to, inside, Leaf, Tree, begins, end_role, entered, entry_of, follow_body, hops, inlined, leaf_of, onward}
use Rattle.obligation_laws.specs.Meant.{AllFit, IsOne, arrives, given}
use Rattle.obligation_laws.specs.States.{State, input_term, term_world}
use Rattle.obligation_laws.proofs.Followings.{each_in}
use Rattle.obligation_laws.proofs.TruthValues.{IsBit, and_bit, holds, is_one, not_bit, parts_hold}
use Rattle.obligation_laws.proofs.LeafValues.{leaf_shown}
use Rattle.obligation_laws.proofs.MadeLeaves.{leaf_made}
use Rattle.obligation_laws.proofs.Together.{holds_of}
use Rattle.obligation_laws.specs.Failing.{IsKept}
use Rattle.obligation_laws.specs.Formulas.{any_of, chain, formula, part, parts, sending_to}
use Rattle.obligation_laws.specs.Obligations.{Kind, kind_of, old_tree, refined_tree}
use Rattle.obligation_laws.proofs.Chains.{AllBits, any_bit}
use Rattle.obligation_laws.proofs.Parts.{Beside, Fitting, fit_have}
use Rattle.obligation_laws.proofs.Refining.{listed}
use Rattle.obligation_laws.proofs.Untrue.{all_bits, all_shown, kept}
use Rattle.obligation_laws.specs.FailingRuns.{Fails}
use Rattle.obligation_laws.proofs.Matched.{Further, matched}

-- ---- disjunctions

or_true : (a b : Bool) → (a ≡ true) ⊎ (b ≡ true) → operated ops.Or (shown (truth a)) (shown (truth b)) ≡ number 1 1
or_true true true h = refl
or_true true false h = refl
or_true false true h = refl
or_true false false h = absurd (elim h [ inl e ↦ (let z : false ≡ true = e in cc) | inr e ↦ (let z : false ≡ true = e in cc) ])

or_bits : (a b : Bool) → operated ops.Or (shown (truth a)) (shown (truth b)) ≡ shown (truth (a || b))
or_bits true true = refl
or_bits true false = refl
or_bits false true = refl
or_bits false false = refl

module _ (F : Functions) (ins : Inputs) where
  or_bit : (t u : Term) → IsBit F ins t → IsBit F ins u → IsBit F ins (term.binary ops.Or t u)
  or_bit t u p q = (p.0 || q.0, (λ i. operated ops.Or (p.1 i) (q.1 i)) ∙ or_bits p.0 q.0)

  or_one : (t u : Term) → IsBit F ins t → IsBit F ins u → IsOne F ins t ⊎ IsOne F ins u → IsOne F ins (term.binary ops.Or t u)
  or_one t u p q h =
      (λ i. operated ops.Or (p.1 i) (q.1 i))
      ∙ or_true p.0 q.0 (elim h [ inl e ↦ inl (holds F ins t p.0 p.1 e) | inr e ↦ inr (holds F ins u q.0 q.1 e) ])

  ors_one : (t : Term) (us : List Term) → IsBit F ins t → AllBits F ins us → (v : Term) → In v (t ∷ us) → IsOne F ins v → IsOne F ins (chain ops.Or t us)
  ors_one t [] h k v i e = elim i [ inl same ↦ ap (term_value F ins) (sym same) ∙ e | inr none ↦ absurd none ]
  ors_one t (u ∷ us) h k v i e =
      let both = term.binary ops.Or t u in
      let bit = or_bit t u h k.0 in
      elim i [
        | inl same ↦ ors_one both us bit k.1 both (inl refl) (or_one t u h k.0 (inl (ap (term_value F ins) (sym same) ∙ e)))
        | inr j ↦ elim j [
          | inl same ↦ ors_one both us bit k.1 both (inl refl) (or_one t u h k.0 (inr (ap (term_value F ins) (sym same) ∙ e)))
          | inr l ↦ ors_one both us bit k.1 v (inr l) e
        ]
      ]

  any_one : (ts : List Term) → AllBits F ins ts → (v : Term) → In v ts → IsOne F ins v → IsOne F ins (any_of ts)
  any_one [] h v i e = absurd i
  any_one (t ∷ ts) h v i e = ors_one t ts h.0 h.1 v i e

  not_both : (t : Term) → IsOne F ins t → IsOne F ins (term.not_ t) → ⊥
  not_both t e n =
      let z : ◌≡◌ {A = ℕ} 0 1 = ap number_in (sym (not_bit F ins t true e) ∙ n) in
      differ z
    where
      differ : ◌≡◌ {A = ℕ} 0 1 → ⊥
      differ z = absurd (cc)

kept_in : {A : Type 0} (p : A → Bool) (xs : List A) (x : A) → In x xs → p x ≡ true → In x (filter p xs)
kept_in p [] x i h = absurd i
kept_in p (y ∷ xs) x i h = by (kept_in p xs x) (p y) refl i
  where
    by : (In x xs → p x ≡ true → In x (filter p xs)) → (b : Bool) → p y ≡ b → In x (y ∷ xs) → In x (cond b (y ∷ filter p xs) (filter p xs))
    by later true e j = elim j [ inl same ↦ inl same | inr k ↦ inr (later k h) ]
    by later false e j = elim j [
      | inl same ↦ absurd (let f : true ≡ false = sym h ∙ ap p same ∙ e in cc)
      | inr k ↦ later k h
    ]

-- ---- refined bodies read back

body_back : (d : Design) (q : Role) (o : Option Block) → q.body ≡ o → (elim o as (λ x. List ℕ) [ None ↦ [] | Some b ↦ hidden_in d b ]) ≡ [] → reads_back d q ≡ true
body_back d q None e h = ap (λ (o : Option Block). elim o as (λ x. Bool) [ None ↦ true | Some b ↦ length (hidden_in d b) == 0 ]) e
body_back d q (Some b) e h = ap (λ (o : Option Block). elim o as (λ x. Bool) [ None ↦ true | Some c ↦ length (hidden_in d c) == 0 ]) e ∙ ap (λ xs. length xs == 0) h

reads_above : (d : Design) → WellFormed d → (above : ℕ) (block : Refine) → slice_get d.refines above ≡ Some block → (role : List ℕ) → has_name role block.roles ≡ true → (q : Role) → role_at above d role ≡ Some q → reads_back d q ≡ true
reads_above d w above block at role h q is =
    let name = listed role block.roles h in
    let none = block_at (hidden_above d) 0 d.refines (w hidden_choice) above above block (omega arith) at in
    let own = none_at (λ (r : Name). elim (option_and_then (λ (x : Role). x.body) (role_at above d r.text)) as (λ x. List ℕ) [ None ↦ [] | Some body ↦ hidden_in d body ]) block.roles none name.0 name.1 in
    body_back d q q.body refl (ap (λ (o : Option Role). elim (option_and_then (λ (x : Role). x.body) o) as (λ x. List ℕ) [ None ↦ [] | Some body ↦ hidden_in d body ]) (sym is ∙ ap (role_at above d) name.2) ∙ own)

-- ---- the role of a leaf

new_role : (above : ℕ) (d : Design) (role : List ℕ) (within first : ℕ) → 1 ≤ within → (leaf : Leaf) → In leaf (inlined above d role within first).leaves → (r : Role) × (role_at (suc above) d role ≡ Some r)
new_role above d role zero first l leaf i = absurd (omega (arith, l))
new_role above d role (suc k) first l leaf i =
    let w = term_world (suc above) d in
    let new = is_new above d in
    let tree = inlined above d role (suc k) first in
    let at = entry_of role tree.args in
    let s = begins w at (map input_term tree.fields) in
    let n = first + length tree.args + length tree.fields in
    let t = flat_in (leaf_of new) leaf (hops w new (suc k) s n).0 i in
    let m = each_in (onward new (hops w new k)) (follow_body w at s n).0 (follow_body w at s n).1 t.0 t.1 in
    by (role_at (suc above) d role) refl m.0 s n m.1
  where
    by : (o : Option Role) → role_at (suc above) d role ≡ o → (m s : State) (n : ℕ)
        → In m (elim o as (λ x. Followed) [ None ↦ ([], n) | Some r ↦ elim r.body [ None ↦ ([], n) | Some b ↦ those_sent (follow_all (term_world (suc above) d) b (one (entered r (entry_of role (inlined above d role (suc k) first).args) s) n)) ] ]).0
        → (r : Role) × (role_at (suc above) d role ≡ Some r)
    by None e m s n j = absurd j
    by (Some r) e m s n j = (r, e)

-- ---- the law

-- the runs of several bodies
abbrev pub RunsNew : Design → Type 0
RunsNew d =
    (es : DefsText) → HasDefinitions d es → (above within : ℕ) → 1 ≤ within → (role : List ℕ) (r : Role) → role_at (suc above) d role ≡ Some r → (first : ℕ)
    → LeavesAreRuns (functions_by d (defs_of d es)) d.headers role (inlined above d role within first) (hops_by above d (defs_of d es) within)

module _ (d : Design) (further : Further d) (new_runs : RunsNew d) (es : DefsText) (h : HasDefinitions d es) (above : ℕ) (block : Refine) (at : slice_get d.refines above ≡ Some block) (role : List ℕ) (is_listed : has_name role block.roles ≡ true)
    (first n : ℕ) (leaf : Leaf) (there : slice_get (refined_tree above d block role first).leaves n ≡ Some leaf) (ins : Inputs) (args : AllFit ins (refined_tree above d block role first).args)
    (fields : AllFit ins (refined_tree above d block role first).fields) (choices : AllFit ins leaf.choices) where
  abbrev F : Functions
  F = functions_by d (defs_of d es)

  abbrev tree : Tree
  tree = refined_tree above d block role first

  abbrev old : Tree
  old = old_tree above d block role first

  abbrev next : ℕ
  next = tree.next

  within : In leaf (refined_tree above d block role first).leaves
  within = at_place tree.leaves n leaf there

  some : 1 ≤ block.within
  some = one_or_more d further.known.rules above block at

  declared : (r : Role) × (role_at (suc above) d role ≡ Some r)
  declared = new_role above d role block.within first some leaf within

  it : Beside d (defs_of d es) ins (suc above) (inlined above d role block.within first) leaf
  it = record {
    args = args;
    fields = fields;
    choices = choices;
    shown = leaf_shown d (defs_of d es) ins (suc above) (holds_of d es h (further.known.sound es h) further.known.roles (suc above) ins) (is_new above d) block.within role first declared.0 declared.1 leaf within args fields choices;
    made = leaf_made (Fitting ins) d (suc above) (is_new above d) block.within role first leaf within (fit_have ins tree.args args) (fit_have ins tree.fields fields) (fit_have ins leaf.choices choices);
  }

  its : IsItsRun F ins d.headers (hops_by above d (defs_of d es) block.within (first_loc ins role tree) (first_packet ins d.headers tree)) leaf
  its = new_runs es h above block.within some role declared.0 declared.1 first ins args fields n leaf there choices

  abbrev ts : List Term
  ts = parts old tree leaf

  ts_bits : AllBits F ins (parts (old_tree above d block role first) (refined_tree above d block role first) leaf)
  ts_bits = all_bits F ins ts (λ t i. (all_shown d further.known above block at role first next es h declared.0 declared.1 ins leaf it t i).bit)

  abbrev failing : End → Term
  failing e = elim e as (λ z. Term) [ sent_to a b c ↦ term.binary ops.And leaf.cond (term.not_ (any_of ts)) | inside a b c ↦ leaf.cond ]

  bit_by : (e : End) → IsBit F ins (failing e)
  bit_by (sent_to a b c) = and_bit F ins leaf.cond (term.not_ (any_of ts)) it.shown.cond (let b = any_bit F ins ts ts_bits in (not b.0, not_bit F ins (any_of ts) b.0 b.1))
  bit_by (inside a b c) = it.shown.cond

  cond_by : (e : End) → IsOne F ins (failing e) → IsOne F ins leaf.cond
  cond_by (sent_to a b c) k = (parts_hold F ins leaf.cond (term.not_ (any_of ts)) it.shown.cond (let b = any_bit F ins ts ts_bits in (not b.0, not_bit F ins (any_of ts) b.0 b.1)) k).0
  cond_by (inside a b c) k = k

  abbrev Sent : Kind → Type 0
  Sent k = IsKept above d (defs_of d es) k (first_loc ins role tree) (first_packet ins d.headers tree) (arrives F ins d.headers leaf [])

  -- what is kept has a part that is true
  not_kept : (e : End) → IsOne F ins (failing e) → Sent (kind_of e) → ⊥
  not_kept (inside a b c) k s = s
  not_kept (sent_to a b c) k s =
      let q = s.1.role in
      let is = s.1.role_is in
      let back = reads_above d further.known.rules above block at role is_listed q is in
      let m = matched d further above block at role first next es h declared.0 declared.1 q is back ins leaf it s.0 s.1 in
      let p = part old m.old tree leaf in
      let inside = in_map (λ o. part old o tree leaf) m.old (sending_to (end_role leaf.end) old.leaves) (kept_in (λ (o : Leaf). same_name (end_role leaf.end) (end_role o.end)) old.leaves m.old m.within m.same) in
      let yes_ = any_one F ins ts ts_bits p inside m.true_ in
      let no_ = (parts_hold F ins leaf.cond (term.not_ (any_of ts)) it.shown.cond (let b = any_bit F ins ts ts_bits in (not b.0, not_bit F ins (any_of ts) b.0 b.1)) k).1 in
      not_both F ins (any_of ts) yes_ no_

  shows_failure : IsOne F ins (formula (old_tree above d block role first) (refined_tree above d block role first) leaf) → Fails d (defs_of d es) ins above block role (refined_tree above d block role first) leaf
  shows_failure k = record {
    runs = ap (hops_by above d (defs_of d es) block.within (first_loc ins role tree) (first_packet ins d.headers tree)) (sym (append-nil (given ins leaf.choices))) ∙ its.runs (cond_by leaf.end k) [];
    fails = not_kept leaf.end k;
  }

  failure_shows : Fails d (defs_of d es) ins above block role (refined_tree above d block role first) leaf → IsOne F ins (formula (old_tree above d block role first) (refined_tree above d block role first) leaf)
  failure_shows f = by (bit_by leaf.end).0 (bit_by leaf.end).1
    where
      ran : hops_by above d (defs_of d es) block.within (first_loc ins role tree) (first_packet ins d.headers tree) (given ins leaf.choices ++ []) ≡ Some (arrives F ins d.headers leaf [])
      ran = ap (hops_by above d (defs_of d es) block.within (first_loc ins role tree) (first_packet ins d.headers tree)) (append-nil (given ins leaf.choices)) ∙ f.runs

      by : (b : Bool) → term_value F ins (formula old tree leaf) ≡ shown (truth b) → IsOne F ins (formula old tree leaf)
      by true e = is_one F ins (formula old tree leaf) true e refl
      by false e = absurd (f.fails (kept d further.known above block at role first next es h declared.0 declared.1 ins leaf it (its.only [] (arrives F ins d.headers leaf []) ran refl)
          (λ fit one. absurd (let z : false ≡ true = holds F ins (formula old tree leaf) false e one in cc))))

  pub exactly : IsOne (functions_by d (defs_of d es)) ins (formula (old_tree above d block role first) (refined_tree above d block role first) leaf) ↔ Fails d (defs_of d es) ins above block role (refined_tree above d block role first) leaf
  exactly = (shows_failure, failure_shows)
