-- The terms of leaves are made of their inputs.
use Rattle.std.proofs.Common.{◌≡◌, inl, inr, ℕ, zero, suc, ◌+◌, List, [], ◌∷◌, ◌++◌, length, map, Bool, true, false, Option, Some, None, if◌then◌else◌, refl, sym, ap, subst, ◌∙◌}
use Rattle.std.proofs.lemmas.List.{append-nil, append_assoc}
use Rattle.cocoon_num.specs.Tree.{Role, Stmt, let_, set_field, if_, filter, havoc_var, havoc_field, assume, fork, send, Block, no_stmts, stmt, Design}
use Rattle.cocoon_resolve.specs.Readers.{all_widths}
use Rattle.cocoon_types.specs.Design.{role_at}
use Rattle.bv_terms.specs.TermTrees.{Term}
use Rattle.sound_types.proofs.Members.{In, flat_in, in_either, map_in}
use Rattle.obligation_laws.specs.TermOf.{term_context, terms_of}
use Rattle.obligation_laws.specs.States as states
use Rattle.obligation_laws.specs.States.{NewInput, Place, State, TermWorld, choice_width, guard_term, input_term, term_world, where_true}
use Rattle.obligation_laws.specs.Following.{Followed, chosen_as, each, follow, follow_all, has_sent, in_branch, next_input, one, sends_to, term_at, those_sent, unless_sent}
use Rattle.obligation_laws.specs.Leaves.{Leaf, at_new, begins, end_at, entered, entry_of, follow_body, hops, leaf_of, onward, tree_of}
use Rattle.obligation_laws.proofs.Followings.{passed}
use Rattle.obligation_laws.specs.MadeOf.{AllMade, Have, LeafMade, Made, OfInputs, VarsMade}
use Rattle.obligation_laws.proofs.Made.{bound_made, calls_made, expr_made, exprs_made, guard_made, set_made}

pub have_front : (P : OfInputs) (is js : List NewInput) → Have P (is ++ js) → Have P is
have_front P [] js h = tt
have_front P (i ∷ is) js h = (h.0, have_front P is js h.1)

pub have_back : (P : OfInputs) (is js : List NewInput) → Have P (is ++ js) → Have P js
have_back P [] js h = h
have_back P (i ∷ is) js h = have_back P is js h.1

pub have_made : (P : OfInputs) (is : List NewInput) → Have P is → AllMade P (map input_term is)
have_made P [] h = tt
have_made P (i ∷ is) h = (h.0, have_made P is h.1)

abbrev pub PlaceMade : OfInputs → Option Place → Type 0
PlaceMade P None = Unit {0}
PlaceMade P (Some at) = AllMade P at.values

-- the terms of a state are made of inputs with the property
pub record StateMade (P : OfInputs) (s : State) : Type 0 where
  pub vars : VarsMade P s.vars
  pub fields : AllMade P s.fields
  pub cond : Made P s.cond
  pub place : PlaceMade P s.sent

-- One state comes of another: it has more choices, and its terms are made of inputs with the property, if theirs are and these
-- choices have it.
pub record Comes (P : OfInputs) (s t : State) : Type 0 where
  pub chosen : List NewInput
  pub chosen_is : t.choices ≡ s.choices ++ chosen
  pub made : Have P chosen → StateMade P s → StateMade P t

module _ (P : OfInputs) (d : Design) (level : ℕ) where
  abbrev T : TermWorld
  T = term_world level d

  straight : (s t : State) → t.choices ≡ s.choices → (StateMade P s → StateMade P t) → Comes P s t
  straight s t same f = record { chosen = []; chosen_is = same ∙ sym (append-nil s.choices); made = λ h k. f k }

  one_choice : (s t : State) (i : NewInput) → t.choices ≡ s.choices ++ i ∷ [] → (P i.number i.width → StateMade P s → StateMade P t) → Comes P s t
  one_choice s t i same f = record { chosen = i ∷ []; chosen_is = same; made = λ h k. f h.0 k }

  comes_join : (s m t : State) → Comes P s m → Comes P m t → Comes P s t
  comes_join s m t a b = record {
    chosen = a.chosen ++ b.chosen;
    chosen_is = b.chosen_is ∙ ap (λ x. x ++ b.chosen) a.chosen_is ∙ append_assoc s.choices a.chosen b.chosen;
    made = λ h k. b.made (have_back P a.chosen b.chosen h) (a.made (have_front P a.chosen b.chosen h) k);
  }

  -- behind a branch
  comes_back : (s u t : State) → Comes P s u → Comes P u t → Comes P s (states.back_to s.vars t)
  comes_back s u t a b =
      let j = comes_join s u t a b in
      record {
        chosen = j.chosen;
        chosen_is = j.chosen_is;
        made = λ h k. let m = j.made h k in record { vars = k.vars; fields = m.fields; cond = m.cond; place = m.place };
      }

  -- more must be true
  abbrev more_true : Term → State → State
  more_true t s = where_true t s

  true_made : (s : State) (t : Term) → Made P t → StateMade P s → StateMade P (where_true t s)
  true_made s t h k = record { vars = k.vars; fields = k.fields; cond = (k.cond, h); place = k.place }

  at_made : (s : State) (e : _) → StateMade P s → Made P (term_at T s e)
  at_made s e k = expr_made P (term_context d) (calls_made P d) s.vars k.vars s.fields k.fields e

  abbrev AllCome : (State → ℕ → Followed) → Type 0
  AllCome f = (s : State) (n : ℕ) (t : State) → In t (f s n).0 → Comes P s t

  abbrev FromOne : List State → State → Type 0
  FromOne ss t = (s : State) × In s ss × Comes P s t

  only : (s z t : State) → Comes P s z → In t (z ∷ []) → Comes P s t
  only s z t h i = elim i [ inl e ↦ subst (Comes P s) (sym e) h | inr l ↦ absurd l ]

  of_one : (u s t : State) → In s (u ∷ []) → Comes P s t → Comes P u t
  of_one u s t i a = elim i [ inl same ↦ subst (λ z. Comes P z t) same a | inr l ↦ absurd l ]

  each_come : (f : State → ℕ → Followed) → AllCome f → (ss : List State) (n : ℕ) (t : State) → In t (each f ss n).0 → FromOne ss t
  each_come f h [] n t i = absurd i
  each_come f h (s ∷ ss) n t i = elim (in_either t (f s n).0 (each f ss (f s n).1).0 i) [
    | inl k ↦ (s, inl refl, h s n t k)
    | inr k ↦ let r = each_come f h ss (f s n).1 t k in (r.0, inr r.1, r.2)
  ]

  same_comes : (s : State) → Comes P s s
  same_comes s = straight s s refl (λ k. k)

  unless_come : (f : State → ℕ → Followed) → AllCome f → AllCome (unless_sent f)
  unless_come f h s n t i = by s.sent i
    where
      by : (o : Option Place) → In t (elim o as (λ x. Followed) [ None ↦ f s n | Some at ↦ one s n ]).0 → Comes P s t
      by None j = h s n t j
      by (Some at) j = only s s t (same_comes s) j

  mutual
    stmt_comes : (x : Stmt) → AllCome (follow T x)
    stmt_comes (let_ at x width e) s n t i =
        only s (states.with_variable x.text (term_at T s e) s) t
        (straight s (states.with_variable x.text (term_at T s e) s) refl (λ k. record { vars = (at_made s e k, k.vars); fields = k.fields; cond = k.cond; place = k.place })) i
    stmt_comes (set_field at h f e) s n t i =
        let z = states.with_field d.headers h.text f.text (term_at T s e) s in
        only s z t
        (straight s z refl (λ k. record { vars = k.vars; fields = set_made P d.headers s.fields h.text f.text (term_at T s e) (at_made s e k) k.fields; cond = k.cond; place = k.place })) i
    stmt_comes (if_ at e first second) s n t i =
        let yes = in_branch true (term_at T s e) s in
        let other = in_branch false (term_at T s e) s in
        let A = follow_all T first (one yes n) in
        let B = follow_all T second (one other A.1) in
        let m = map_in (states.back_to s.vars) t (A.0 ++ B.0) i in
        let to_yes : Comes P s yes = straight s yes refl (λ k. record { vars = k.vars; fields = k.fields; cond = (k.cond, at_made s e k); place = k.place }) in
        let to_other : Comes P s other = straight s other refl (λ k. record { vars = k.vars; fields = k.fields; cond = (k.cond, at_made s e k); place = k.place }) in
        subst (Comes P s) (sym m.2) (elim (in_either m.0 A.0 B.0 m.1) [
          | inl j ↦ let r = block_comes first (yes ∷ []) n m.0 j in comes_back s yes m.0 to_yes (of_one yes r.0 m.0 r.1 r.2)
          | inr j ↦ let r = block_comes second (other ∷ []) A.1 m.0 j in comes_back s other m.0 to_other (of_one other r.0 m.0 r.1 r.2)
        ])
    stmt_comes (filter at e) s n t i = only s (where_true (term_at T s e) s) t (straight s (where_true (term_at T s e) s) refl (λ k. true_made s (term_at T s e) (at_made s e k) k)) i
    stmt_comes (havoc_var at x width) s n t i =
        let c = next_input n width in
        only s (chosen_as x.text c s) t (one_choice s (chosen_as x.text c s) c refl (λ h k. record { vars = (h, k.vars); fields = k.fields; cond = k.cond; place = k.place })) i
    stmt_comes (havoc_field at h f) s n t i =
        let c = next_input n (choice_width d.headers h.text f.text) in
        let z = states.with_choice c (states.with_field d.headers h.text f.text (input_term c) s) in
        only s z t (one_choice s z c refl (λ p k. record { vars = k.vars; fields = set_made P d.headers s.fields h.text f.text (input_term c) p k.fields; cond = k.cond; place = k.place })) i
    stmt_comes (assume at e) s n t i = only s (where_true (term_at T s e) s) t (straight s (where_true (term_at T s e) s) refl (λ k. true_made s (term_at T s e) (at_made s e k) k)) i
    stmt_comes (fork at x width e body) s n t i =
        let c = next_input n width in
        let z = chosen_as x.text c s in
        let y = where_true (term_at T z e) z in
        let all = follow_all T body (one y (suc n)) in
        let r = block_comes body (y ∷ []) (suc n) t (passed has_sent all.0 t i).0 in
        let to_y : Comes P s y = one_choice s y c refl (λ h k.
        let q : StateMade P z = record { vars = (h, k.vars); fields = k.fields; cond = k.cond; place = k.place } in
        true_made z (term_at T z e) (at_made z e q) q) in
        comes_join s y t to_y (of_one y r.0 t r.1 r.2)
    stmt_comes (send at r es) s n t i =
        let to : Place = record { role = r.text; values = terms_of (term_context d) s.vars s.fields es } in
        let z = sends_to T to s in
        only s z t (straight s z refl (λ k.
        let v = exprs_made P (term_context d) (calls_made P d) s.vars k.vars s.fields k.fields es in
        record { vars = k.vars; fields = k.fields; cond = (k.cond, guard_made P d level to v); place = v })) i

    block_comes : (b : Block) (ss : List State) (n : ℕ) (t : State) → In t (follow_all T b (ss, n)).0 → FromOne ss t
    block_comes no_stmts ss n t i = (t, i, same_comes t)
    block_comes (stmt x rest) ss n t i =
        let f = unless_sent (follow T x) in
        let mids = each f ss n in
        let m = block_comes rest mids.0 mids.1 t i in
        let s = each_come f (unless_come (follow T x) (stmt_comes x)) ss n m.0 m.1 in
        (s.0, s.1, comes_join s.0 m.0 t s.2 m.2)

  -- ---- bodies

  body_comes : (s : State) (at : Place) → s.sent ≡ Some at → (n : ℕ) (t : State) → In t (follow_body T at s n).0 → Comes P s t
  body_comes s at p n t i = by_role (role_at level d at.role) i
    where
      by_body : (r : Role) (o : Option Block) → In t (elim o as (λ x. Followed) [ None ↦ ([], n) | Some b ↦ those_sent (follow_all T b (one (entered r at s) n)) ]).0 → Comes P s t
      by_body r None j = absurd j
      by_body r (Some b) j =
          let u = entered r at s in
          let all = follow_all T b (one u n) in
          let q = block_comes b (u ∷ []) n t (passed has_sent all.0 t j).0 in
          let to_u : Comes P s u = straight s u refl (λ k.
          let v : AllMade P at.values = subst (PlaceMade P) p k.place in
          record { vars = bound_made P r.params at.values v; fields = k.fields; cond = k.cond; place = tt }) in
          comes_join s u t to_u (of_one u q.0 t q.1 q.2)

      by_role : (o : Option Role) → In t (elim o as (λ x. Followed) [ None ↦ ([], n) | Some r ↦ elim r.body [ None ↦ ([], n) | Some b ↦ those_sent (follow_all T b (one (entered r at s) n)) ] ]).0 → Comes P s t
      by_role None j = absurd j
      by_role (Some r) j = by_body r r.body j

  onward_comes : (new : List ℕ → Bool) (f : State → ℕ → Followed) → AllCome f → AllCome (onward new f)
  onward_comes new f h s n t i = by (at_new new s) i
    where
      by : (b : Bool) → In t (if b then f s n else one s n).0 → Comes P s t
      by true j = h s n t j
      by false j = only s s t (same_comes s) j

  hops_come : (new : List ℕ → Bool) (k : ℕ) → AllCome (hops T new k)
  hops_come new zero s n t i = only s s t (same_comes s) i
  hops_come new (suc k) s n t i = by (onward_comes new (hops T new k) (hops_come new k)) s.sent refl i
    where
      by : AllCome (onward new (hops T new k)) → (o : Option Place) → s.sent ≡ o
          → In t (elim o as (λ x. Followed) [ None ↦ ([], n) | Some at ↦ each (onward new (hops T new k)) (follow_body T at s n).0 (follow_body T at s n).1 ]).0 → Comes P s t
      by later None p j = absurd j
      by later (Some at) p j =
          let led = follow_body T at s n in
          let m = each_come (onward new (hops T new k)) later led.0 led.1 t j in
          comes_join s m.0 t (body_comes s at p n m.0 m.1) m.2

  -- ---- leaves

  state_leaf : (t : State) (b : Bool) (at : Place) → t.sent ≡ Some at → StateMade P t → LeafMade P (record { cond = t.cond; choices = t.choices; way = t.way; end = end_at b at t.fields })
  state_leaf t true at p k = record { cond = k.cond; values = subst (PlaceMade P) p k.place; fields = k.fields }
  state_leaf t false at p k = record { cond = k.cond; values = subst (PlaceMade P) p k.place; fields = k.fields }

  leaf_from : (new : List ℕ → Bool) (t : State) (leaf : Leaf) → In leaf (leaf_of new t) → (leaf.choices ≡ t.choices) × (StateMade P t → LeafMade P leaf)
  leaf_from new t leaf i = by t.sent refl i
    where
      by : (o : Option Place) → t.sent ≡ o
          → In leaf (elim o as (λ x. List Leaf) [ None ↦ [] | Some at ↦ record { cond = t.cond; choices = t.choices; way = t.way; end = end_at (new at.role) at t.fields } ∷ [] ])
          → (leaf.choices ≡ t.choices) × (StateMade P t → LeafMade P leaf)
      by None p j = absurd j
      by (Some at) p j = elim j [
        | inl same ↦ (ap (λ (x : Leaf). x.choices) same, λ k. subst (LeafMade P) (sym same) (state_leaf t (new at.role) at p k))
        | inr l ↦ absurd l
      ]

  -- if the inputs of a leaf have the property, its terms are made of such
  pub leaf_made : (new : List ℕ → Bool) (bodies : ℕ) (role : List ℕ) (first : ℕ) (leaf : Leaf) → In leaf (tree_of T (all_widths d.headers) new bodies role first).leaves
      → Have P (tree_of T (all_widths d.headers) new bodies role first).args → Have P (tree_of T (all_widths d.headers) new bodies role first).fields → Have P leaf.choices → LeafMade P leaf
  leaf_made new bodies role first leaf i args fields choices =
      let tree = tree_of T (all_widths d.headers) new bodies role first in
      let at = entry_of role tree.args in
      let s = begins T at (map input_term tree.fields) in
      let led = hops T new bodies s (first + length tree.args + length tree.fields) in
      let t = flat_in (leaf_of new) leaf led.0 i in
      let l = leaf_from new t.0 leaf t.2 in
      let c = hops_come new bodies s (first + length tree.args + length tree.fields) t.0 t.1 in
      let values = have_made P tree.args args in
      let start : StateMade P s = record { vars = tt; fields = have_made P tree.fields fields; cond = guard_made P d level at values; place = values } in
      l.1 (c.made (subst (Have P) (l.0 ∙ c.chosen_is) choices) start)
