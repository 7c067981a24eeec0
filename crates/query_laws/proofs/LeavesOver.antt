-- What the terms of leaves apply.
use Rattle.std.proofs.Common.{◌≡◌, inl, inr, ℕ, zero, suc, ◌+◌, List, [], ◌∷◌, ◌++◌, length, map, Bool, true, false, Option, Some, None, if◌then◌else◌, refl, sym, ap, subst, ◌∙◌}
use Rattle.std.specs.Prelude.{flat_map, slice_get}
use Rattle.std.specs.List.{AllZip}
use Rattle.cocoon_num.specs.Sorts.{Sort, bits_sort, truth_sort}
use Rattle.cocoon_num.specs.Tree.{Param, Expr, Exprs, no_exprs, expr, Stmt, let_, set_field, if_, filter, havoc_var, havoc_field, assume, fork, send, Block, no_stmts, stmt, Role, Design}
use Rattle.cocoon_resolve.specs.Readers.{all_widths}
use Rattle.cocoon_types.specs.Design.{role_at, widths_of}
use Rattle.bv_terms.specs.TermTrees as term
use Rattle.bv_terms.specs.TermTrees.{Term}
use Rattle.sound_types.specs.WellTyped.{HasType, HaveWidths, IsTyped, IsTypedRole, IsTypedStmt, scope_at}
use Rattle.sound_types.proofs.Bodies.{after_scope, after_vars}
use Rattle.sound_types.proofs.Members.{In, at_place, flat_in, in_either, map_in}
use Rattle.obligation_laws.specs.Shown.{AreVariables, FitsScope, HasWidth, TermsHaveWidths, sort_width}
use Rattle.obligation_laws.specs.TermOf.{TermEnv, bind_terms, term_context, term_of, terms_of}
use Rattle.obligation_laws.proofs.ExprWidths.{params_are}
use Rattle.obligation_laws.specs.States as states
use Rattle.obligation_laws.specs.States.{NewInput, Place, State, TermWorld, and_with, choice_width, guard_term, input_term, inputs_from, term_world, where_true}
use Rattle.obligation_laws.specs.Following.{Followed, chosen_as, each, follow, follow_all, has_sent, in_branch, next_input, one, sends_to, term_at, those_sent, unless_sent}
use Rattle.obligation_laws.specs.Leaves.{Leaf, at_new, begins, end_at, entered, entry_of, follow_body, hops, leaf_of, onward, params_of, tree_of}
use Rattle.query_laws.specs.Over.{AllOver, TermsAreOver, VariablesOver}
use Rattle.query_laws.proofs.Applied.{bound_over}
use Rattle.query_laws.specs.LeafTerms.{LeafApplies, Stands, any_input}
use Rattle.obligation_laws.proofs.FieldTerms.{set_fits}
use Rattle.obligation_laws.proofs.Followings.{each_in, passed, some_place, unless_in}
use Rattle.obligation_laws.proofs.Statements.{block_vars}

module _ (d : Design) (level : ℕ) (wide : TermsHaveWidths d) (over : TermsAreOver d) (roles : (name : List ℕ) (r : Role) → role_at level d name ≡ Some r → IsTypedRole d level r) where
  abbrev T : TermWorld
  T = term_world level d

  abbrev AtWide : Place → Type 0
  AtWide at = (r : Role) × (role_at level d at.role ≡ Some r) × AllZip (Stands d) (widths_of r.params) at.values

  -- variables of these widths
  abbrev VarsStand : List Param → TermEnv → Type 0
  VarsStand vars env = AreVariables vars env × VariablesOver d any_input env

  abbrev WideBy : List Param → Option Place → TermEnv → Type 0
  WideBy vars None env = VarsStand vars env
  WideBy vars (Some at) env = AtWide at

  -- the terms of a state have the widths of what they stand for, and so have their applications
  pub record Wide (vars : List Param) (s : State) : Type 0 where
    pub fields : AllZip (Stands d) (all_widths d.headers) s.fields
    pub cond : Stands d 1 s.cond
    pub place : WideBy vars s.sent s.vars

  -- ---- lists

  of_widths : (ws : List ℕ) (ts : List Term) → AllZip (Stands d) ws ts → AllZip HasWidth ws ts
  of_widths [] [] h = tt
  of_widths [] (t ∷ ts) h = absurd h
  of_widths (w ∷ ws) [] h = absurd h
  of_widths (w ∷ ws) (t ∷ ts) h = (h.0.0, of_widths ws ts h.1)

  all_over : (ws : List ℕ) (ts : List Term) → AllZip (Stands d) ws ts → AllOver d any_input ts
  all_over [] [] h = tt
  all_over [] (t ∷ ts) h = absurd h
  all_over (w ∷ ws) [] h = absurd h
  all_over (w ∷ ws) (t ∷ ts) h = (h.0.1, all_over ws ts h.1)

  bound_stand : (ps : List Param) (ts : List Term) → AllZip (Stands d) (widths_of ps) ts → VarsStand ps (bind_terms ps ts)
  bound_stand ps ts h = (params_are ps ts (of_widths (widths_of ps) ts h), bound_over d any_input ps ts (all_over (widths_of ps) ts h))

  vars_of : (vars : List Param) (s : State) → s.sent ≡ None → Wide vars s → VarsStand vars s.vars
  vars_of vars s p h = subst (λ o. WideBy vars o s.vars) p h.place

  one_more : (p : Param) (vars : List Param) (t : Term) (env : TermEnv) → Stands d p.width t → VarsStand vars env → VarsStand (p ∷ vars) ((p.name.text, t) ∷ env)
  one_more p vars t env h k = ((refl, h.0, k.0), (h.1, k.1))

  -- a state that has sent none, with these variables
  unsent : (vars : List Param) (s : State) → s.sent ≡ None → VarsStand vars s.vars → AllZip (Stands d) (all_widths d.headers) s.fields → Stands d 1 s.cond → Wide vars s
  unsent vars s p v f c = record { fields = f; cond = c; place = subst (λ o. WideBy vars o s.vars) (sym p) v }

  expr_wide : (vars : List Param) (s : State) → s.sent ≡ None → Wide vars s → (w : ℕ) (t : Sort) (e : Expr) → HasType (scope_at d level vars true) t e → Stands d (sort_width t) (term_at T s e)
  expr_wide vars s p h w t e k =
      let v = vars_of vars s p h in
      let fits : FitsScope (scope_at d level vars true) s.vars s.fields = record { variables = v.0; fields_fit = λ x. of_widths (all_widths d.headers) s.fields h.fields } in (
        wide (scope_at d level vars true) s.vars s.fields refl fits t e k,
        over (scope_at d level vars true) s.vars s.fields refl fits any_input v.1 (all_over (all_widths d.headers) s.fields h.fields) t e k,
      )

  exprs_wide : (vars : List Param) (s : State) → s.sent ≡ None → Wide vars s → (ws : List ℕ) (es : Exprs) → HaveWidths (scope_at d level vars true) ws es → AllZip (Stands d) ws (terms_of (term_context d) s.vars s.fields es)
  exprs_wide vars s p h [] no_exprs k = tt
  exprs_wide vars s p h [] (expr e es) k = absurd k
  exprs_wide vars s p h (w ∷ ws) no_exprs k = absurd k
  exprs_wide vars s p h (w ∷ ws) (expr e es) k = (expr_wide vars s p h w (bits_sort w) e k.0, exprs_wide vars s p h ws es k.1)

  guard_wide : (at : Place) → AtWide at → Stands d 1 (guard_term T at)
  guard_wide at k =
      let r = k.0 in
      let v = bound_stand r.params at.values k.2 in
      let fits : FitsScope (scope_at d level r.params false) (bind_terms r.params at.values) [] = record { variables = v.0; fields_fit = λ x. absurd (cc) } in
      subst (λ (o : Option Role). Stands d 1 (elim o as (λ x. Term) [ None ↦ term.constant 1 0 | Some x ↦ term_of (term_context d) (bind_terms x.params at.values) [] x.guard ])) (sym k.1) (
        wide (scope_at d level r.params false) (bind_terms r.params at.values) [] refl fits truth_sort r.guard (roles at.role r k.1).guard,
        over (scope_at d level r.params false) (bind_terms r.params at.values) [] refl fits any_input v.1 tt truth_sort r.guard (roles at.role r k.1).guard,
      )

  sent_wide : (vars after : List Param) (t : State) (at : Place) → t.sent ≡ Some at → Wide vars t → Wide after t
  sent_wide vars after t at p h = record { fields = h.fields; cond = h.cond; place = subst (λ o. WideBy after o t.vars) (sym p) (subst (λ o. WideBy vars o t.vars) p h.place) }

  back_wide : (vars inside : List Param) (s t : State) → s.sent ≡ None → Wide vars s → Wide inside t → Wide vars (states.back_to s.vars t)
  back_wide vars inside s t p h k = record { fields = k.fields; cond = k.cond; place = by t.sent k.place }
    where
      by : (o : Option Place) → WideBy inside o t.vars → WideBy vars o s.vars
      by None q = vars_of vars s p h
      by (Some at) q = q

  -- more must be true
  true_too : (s : State) (t : Term) → Stands d 1 s.cond → Stands d 1 t → Stands d 1 (and_with s.cond t)
  true_too s t h k = (h.0, (h.1, k.1))

  abbrev AllWide : List Param → List State → Type 0
  AllWide vars ss = (s : State) → In s ss → Wide vars s

  only : (vars : List Param) (s : State) → Wide vars s → AllWide vars (s ∷ [])
  only vars s h t i = elim i [ inl same ↦ subst (Wide vars) (sym same) h | inr l ↦ absurd l ]

  mutual
    stmt_wide : (x : Stmt) (vars : List Param) → IsTypedStmt (scope_at d level vars true) x → (s : State) → s.sent ≡ None → Wide vars s → (n : ℕ) → AllWide (after_vars x vars) (follow T x s n).0
    stmt_wide (let_ at x w e) vars h s p k n =
        let t = states.with_variable x.text (term_at T s e) s in
        only (record { name = x; width = w } ∷ vars) t (unsent (record { name = x; width = w } ∷ vars) t p (one_more (record { name = x; width = w }) vars (term_at T s e) s.vars (expr_wide vars s p k w (bits_sort w) e h.1) (vars_of vars s p k)) k.fields k.cond)
    stmt_wide (set_field at x f e) vars h s p k n =
        let u = term_at T s e in
        let t = states.with_field d.headers x.text f.text u s in
        only vars t (unsent vars t p (vars_of vars s p k) (set_fits (Stands d) d.headers s.fields k.fields x.text f.text h.0 u (expr_wide vars s p k h.0 (bits_sort h.0) e h.2) h.1) k.cond)
    stmt_wide (if_ at e first second) vars h s p k n = λ t i.
        let yes = in_branch true (term_at T s e) s in
        let other = in_branch false (term_at T s e) s in
        let A = follow_all T first (one yes n) in
        let B = follow_all T second (one other A.1) in
        let m = map_in (states.back_to s.vars) t (A.0 ++ B.0) i in
        subst (Wide vars) (sym m.2) (elim (in_either m.0 A.0 B.0 m.1) [
          | inl j ↦ back_wide vars (block_vars first vars) s m.0 p k
              (block_wide first vars h.1 (yes ∷ []) (only vars yes (unsent vars yes p (vars_of vars s p k) k.fields (true_too s (term_at T s e) k.cond (expr_wide vars s p k 1 truth_sort e h.0)))) n m.0 j)
          | inr j ↦ back_wide vars (block_vars second vars) s m.0 p k
              (block_wide second vars h.2 (other ∷ []) (only vars other (unsent vars other p (vars_of vars s p k) k.fields (true_too s (term.not_ (term_at T s e)) k.cond (expr_wide vars s p k 1 truth_sort e h.0)))) A.1 m.0 j)
        ])
    stmt_wide (filter at e) vars h s p k n =
        let t = where_true (term_at T s e) s in only vars t (unsent vars t p (vars_of vars s p k) k.fields (true_too s (term_at T s e) k.cond (expr_wide vars s p k 1 truth_sort e h)))
    stmt_wide (havoc_var at x w) vars h s p k n =
        let t = chosen_as x.text (next_input n w) s in
        only (record { name = x; width = w } ∷ vars) t (unsent (record { name = x; width = w } ∷ vars) t p (one_more (record { name = x; width = w }) vars (input_term (next_input n w)) s.vars (refl, refl) (vars_of vars s p k)) k.fields k.cond)
    stmt_wide (havoc_field at x f) vars h s p k n =
        let i = next_input n (choice_width d.headers x.text f.text) in
        let t = states.with_choice i (states.with_field d.headers x.text f.text (input_term i) s) in
        let is : choice_width d.headers x.text f.text ≡ h.0 = ap (λ (o : Option ℕ). elim o as (λ y. ℕ) [ None ↦ 1 | Some w ↦ w ]) h.1 in
        only vars t (unsent vars t p (vars_of vars s p k) (set_fits (Stands d) d.headers s.fields k.fields x.text f.text h.0 (input_term i) (is, refl) h.1) k.cond)
    stmt_wide (assume at e) vars h s p k n =
        let t = where_true (term_at T s e) s in only vars t (unsent vars t p (vars_of vars s p k) k.fields (true_too s (term_at T s e) k.cond (expr_wide vars s p k 1 truth_sort e h)))
    stmt_wide (fork at x w e body) vars h s p k n = λ t i.
        let more : List Param = record { name = x; width = w } ∷ vars in
        let z = chosen_as x.text (next_input n w) s in
        let y = where_true (term_at T z e) z in
        let j = passed has_sent (follow_all T body (one y (suc n))).0 t i in
        let to = some_place t.sent j.1 in
        sent_wide (block_vars body more) vars t to.0 to.1
        (block_wide body more h.2 (y ∷ [])
        (only more y (unsent more y p (one_more (record { name = x; width = w }) vars (input_term (next_input n w)) s.vars (refl, refl) (vars_of vars s p k)) k.fields
        (true_too s (term_at T z e) k.cond (expr_wide more z p (unsent more z p (one_more (record { name = x; width = w }) vars (input_term (next_input n w)) s.vars (refl, refl) (vars_of vars s p k)) k.fields k.cond) 1 truth_sort e h.1))))
        (suc n) t j.0)
    stmt_wide (send at r es) vars h s p k n =
        let to : Place = record { role = r.text; values = terms_of (term_context d) s.vars s.fields es } in
        let t = sends_to T to s in
        let at_to : AtWide to = (h.0, h.1, exprs_wide vars s p k (widths_of h.0.params) es h.2) in
        only vars t (record { fields = k.fields; cond = true_too s (guard_term T to) k.cond (guard_wide to at_to); place = at_to })

    block_wide : (b : Block) (vars : List Param) → IsTyped (scope_at d level vars true) b → (ss : List State) → AllWide vars ss → (n : ℕ) → AllWide (block_vars b vars) (follow_all T b (ss, n)).0
    block_wide no_stmts vars h ss k n = k
    block_wide (stmt x rest) vars h ss k n =
        let f = unless_sent (follow T x) in
        let mid = after_vars x vars in
        let later : IsTyped (scope_at d level mid true) rest = subst (λ s. IsTyped s rest) (after_scope x (scope_at d level vars true)) h.1 in
        block_wide rest mid later (each f ss n).0
        (λ m i.
        let s = each_in f ss n m i in
        elim (unless_in (follow T x) s.0 s.2 m s.3) [
          | inl j ↦ stmt_wide x vars h.0 s.0 j.0 (k s.0 s.1) s.2 m j.1
          | inr j ↦ subst (Wide mid) (sym j.2) (sent_wide vars mid s.0 j.0 j.1 (k s.0 s.1))
        ])
        (each f ss n).1

  -- ---- bodies

  same_role : (o : Option Role) (r q : Role) → o ≡ Some r → o ≡ Some q → r ≡ q
  same_role o r q h k = let e : Some r ≡ Some q = sym h ∙ k in cc

  body_wide : (s : State) (at : Place) → AtWide at → Wide [] s → (n : ℕ) → AllWide [] (follow_body T at s n).0
  body_wide s at w k n t i = by_role (role_at level d at.role) refl i
    where
      by_body : (r : Role) → role_at level d at.role ≡ Some r → (o : Option Block) → r.body ≡ o
          → In t (elim o as (λ x. Followed) [ None ↦ ([], n) | Some b ↦ those_sent (follow_all T b (one (entered r at s) n)) ]).0 → Wide [] t
      by_body r is None body j = absurd j
      by_body r is (Some b) body j =
          let u = entered r at s in
          let q = passed has_sent (follow_all T b (one u n)).0 t j in
          let to = some_place t.sent q.1 in
          let fit : AllZip (Stands d) (widths_of r.params) at.values = subst (λ (x : Role). AllZip (Stands d) (widths_of x.params) at.values) (same_role (role_at level d at.role) w.0 r w.1 is) w.2 in
          sent_wide (block_vars b r.params) [] t to.0 to.1
          (block_wide b r.params ((roles at.role r is).body b body) (u ∷ []) (only r.params u (record { fields = k.fields; cond = k.cond; place = bound_stand r.params at.values fit })) n t q.0)

      by_role : (o : Option Role) → role_at level d at.role ≡ o
          → In t (elim o as (λ x. Followed) [ None ↦ ([], n) | Some r ↦ elim r.body [ None ↦ ([], n) | Some b ↦ those_sent (follow_all T b (one (entered r at s) n)) ] ]).0 → Wide [] t
      by_role None is j = absurd j
      by_role (Some r) is j = by_body r is r.body refl j

  hops_wide : (new : List ℕ → Bool) (k : ℕ) (s : State) → Wide [] s → (n : ℕ) → AllWide [] (hops T new k s n).0
  hops_wide new zero s h n = only [] s h
  hops_wide new (suc k) s h n = λ t i. by t (hops_wide new k) s.sent refl i
    where
      onward_wide : (t : State) → ((m : State) → Wide [] m → (j : ℕ) → AllWide [] (hops T new k m j).0) → (m : State) → Wide [] m → (j : ℕ) (b : Bool) → In t (if b then hops T new k m j else one m j).0 → Wide [] t
      onward_wide t later m w j true q = later m w j t q
      onward_wide t later m w j false q = only [] m w t q

      by : (t : State) → ((m : State) → Wide [] m → (j : ℕ) → AllWide [] (hops T new k m j).0) → (o : Option Place) → s.sent ≡ o
          → In t (elim o as (λ x. Followed) [ None ↦ ([], n) | Some to ↦ each (onward new (hops T new k)) (follow_body T to s n).0 (follow_body T to s n).1 ]).0 → Wide [] t
      by t later None p j = absurd j
      by t later (Some at) p j =
          let w : AtWide at = subst (λ o. WideBy [] o s.vars) p h.place in
          let m = each_in (onward new (hops T new k)) (follow_body T at s n).0 (follow_body T at s n).1 t j in
          onward_wide t later m.0 (body_wide s at w h n m.0 m.1) m.2 (at_new new m.0) m.3

  -- ---- trees

  inputs_wide : (first : ℕ) (ws : List ℕ) → AllZip (Stands d) ws (map input_term (inputs_from first ws))
  inputs_wide first [] = tt
  inputs_wide first (w ∷ ws) = ((refl, refl), inputs_wide (suc first) ws)

  made_wide : (b : Bool) (t : State) (at : Place) → Wide [] t → AtWide at → LeafApplies level d (record { cond = t.cond; choices = t.choices; way = t.way; end = end_at b at t.fields })
  made_wide true t at h w = record { role = w.0; cond = h.cond; declared = w.1; values = w.2; fields = h.fields }
  made_wide false t at h w = record { role = w.0; cond = h.cond; declared = w.1; values = w.2; fields = h.fields }

  leaf_wide : (new : List ℕ → Bool) (t : State) → Wide [] t → (leaf : Leaf) → In leaf (leaf_of new t) → LeafApplies level d leaf
  leaf_wide new t h leaf i = by t.sent refl i
    where
      by : (o : Option Place) → t.sent ≡ o
          → In leaf (elim o as (λ x. List Leaf) [ None ↦ [] | Some at ↦ record { cond = t.cond; choices = t.choices; way = t.way; end = end_at (new at.role) at t.fields } ∷ [] ]) → LeafApplies level d leaf
      by None p j = absurd j
      by (Some at) p j = elim j [
        | inl same ↦ subst (LeafApplies level d) (sym same) (made_wide (new at.role) t at h (subst (λ o. WideBy [] o t.vars) p h.place))
        | inr l ↦ absurd l
      ]

  pub tree_applies : (new : List ℕ → Bool) (bodies : ℕ) (role : List ℕ) (r : Role) → role_at level d role ≡ Some r → (first n : ℕ) (leaf : Leaf)
      → slice_get (tree_of T (all_widths d.headers) new bodies role first).leaves n ≡ Some leaf → LeafApplies level d leaf
  tree_applies new bodies role r is first n leaf there =
      let args = inputs_from first (widths_of (params_of T role)) in
      let fields = inputs_from (first + length args) (all_widths d.headers) in
      let at = entry_of role args in
      let s = begins T at (map input_term fields) in
      let w : AtWide at = (r, is, subst (λ (o : Option Role). AllZip (Stands d) (widths_of (elim o as (λ x. List Param) [ None ↦ [] | Some x ↦ x.params ])) at.values) is (inputs_wide first (widths_of (params_of T role)))) in
      let led = hops T new bodies s (first + length args + length fields) in
      let t = flat_in (leaf_of new) leaf led.0 (at_place (flat_map (leaf_of new) led.0) n leaf there) in
      leaf_wide new t.0 (hops_wide new bodies s (record { fields = inputs_wide (first + length args) (all_widths d.headers); cond = guard_wide at w; place = w }) (first + length args + length fields) t.0 t.1) leaf t.2
