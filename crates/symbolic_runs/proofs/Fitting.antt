-- What comes of states that fit fits, too, and keeps their variables below those of its own.
use Rattle.std.proofs.Common.{◌≡◌, inl, inr, ℕ, suc, List, [], ◌∷◌, ◌++◌, map, true, false, Option, Some, None, refl, sym, ap, subst, ◌∙◌}
use Rattle.std.specs.List.{AllZip}
use Rattle.cocoon_num.specs.Sorts.{Sort, bits_sort, truth_sort}
use Rattle.cocoon_num.specs.Tree.{Param, Expr, Exprs, no_exprs, expr, Stmt, let_, set_field, if_, filter, havoc_var, havoc_field, assume, fork, send, Block, no_stmts, stmt, Role, Design}
use Rattle.cocoon_resolve.specs.Readers.{all_widths}
use Rattle.cocoon_types.specs.Design.{role_at, widths_of}
use Rattle.bv_terms.specs.TermTrees as term
use Rattle.bv_terms.specs.TermTrees.{Term}
use Rattle.sound_types.specs.WellTyped.{HasType, HaveWidths, IsTyped, IsTypedRole, IsTypedStmt, scope_at}
use Rattle.sound_types.proofs.Bodies.{after_scope, after_vars}
use Rattle.sound_types.proofs.Members.{In, in_either, map_in}
use Rattle.obligation_laws.specs.Shown.{AreVariables, HasWidth, TermsHaveWidths, sort_width}
use Rattle.obligation_laws.specs.TermOf.{TermEnv, bind_terms, term_context, term_of, terms_of}
use Rattle.obligation_laws.proofs.ExprWidths.{params_are}
use Rattle.obligation_laws.specs.States as states
use Rattle.obligation_laws.specs.States.{Place, State, TermWorld, choice_width, guard_term, input_term, term_world, where_true}
use Rattle.obligation_laws.specs.Following.{chosen_as, each, follow, follow_all, has_sent, in_branch, next_input, one, sends_to, term_at, unless_sent}
use Rattle.obligation_laws.proofs.FieldTerms.{set_fits}
use Rattle.obligation_laws.proofs.Followings.{each_in, passed, some_place, unless_in}
use Rattle.obligation_laws.proofs.Statements.{block_vars}
use Rattle.symbolic_runs.specs.Fitting.{FitsBy, FitsPlace, FitsState}

module _ (d : Design) (level : ℕ) (wide : TermsHaveWidths d) (roles : (name : List ℕ) (r : Role) → role_at level d name ≡ Some r → IsTypedRole d level r) where
  abbrev T : TermWorld
  T = term_world level d

  vars_of : (vars : List Param) (s : State) → s.sent ≡ None → FitsState level d vars s → AreVariables vars s.vars
  vars_of vars s p h = subst (λ o. FitsBy level d vars s.vars o) p h.place

  -- a state that has sent none, with these variables
  pub unsent : (vars : List Param) (s : State) → s.sent ≡ None → AreVariables vars s.vars → AllZip HasWidth (all_widths d.headers) s.fields → HasWidth 1 s.cond → FitsState level d vars s
  unsent vars s p v f c = record { fields = f; condition = c; place = subst (λ o. FitsBy level d vars s.vars o) (sym p) v }

  pub expr_wide : (vars : List Param) (s : State) → s.sent ≡ None → FitsState level d vars s → (t : Sort) (e : Expr) → HasType (scope_at d level vars true) t e → HasWidth (sort_width t) (term_at T s e)
  expr_wide vars s p h t e k = wide (scope_at d level vars true) s.vars s.fields refl (record { variables = vars_of vars s p h; fields_fit = λ x. h.fields }) t e k

  pub exprs_wide : (vars : List Param) (s : State) → s.sent ≡ None → FitsState level d vars s → (ws : List ℕ) (es : Exprs) → HaveWidths (scope_at d level vars true) ws es
      → AllZip HasWidth ws (terms_of (term_context d) s.vars s.fields es)
  exprs_wide vars s p h [] no_exprs k = tt
  exprs_wide vars s p h [] (expr e es) k = absurd k
  exprs_wide vars s p h (w ∷ ws) no_exprs k = absurd k
  exprs_wide vars s p h (w ∷ ws) (expr e es) k = (expr_wide vars s p h (bits_sort w) e k.0, exprs_wide vars s p h ws es k.1)

  pub guard_wide : (at : Place) → FitsPlace level d at → HasWidth 1 (guard_term T at)
  guard_wide at k =
      let r = k.role in
      subst (λ (o : Option Role). HasWidth 1 (elim o as (λ x. Term) [ None ↦ term.constant 1 0 | Some x ↦ term_of (term_context d) (bind_terms x.params at.values) [] x.guard ])) (sym k.declared)
      (wide (scope_at d level r.params false) (bind_terms r.params at.values) [] refl (record { variables = params_are r.params at.values k.values; fields_fit = λ x. absurd (cc) }) truth_sort r.guard (roles at.role r k.declared).guard)

  -- ---- what comes of states

  -- a state fits, and its variables end with some
  pub record Held (V : TermEnv) (vars : List Param) (s : State) : Type 0 where
    pub fits : FitsState level d vars s
    pub ends : (more : TermEnv) × (s.vars ≡ more ++ V)

  sent_held : (V : TermEnv) (vars after : List Param) (t : State) (at : Place) → t.sent ≡ Some at → Held V vars t → Held V after t
  sent_held V vars after t at p h = record {
    fits = record {
      fields = h.fits.fields;
      condition = h.fits.condition;
      place = subst (λ o. FitsBy level d after t.vars o) (sym p) (subst (λ o. FitsBy level d vars t.vars o) p h.fits.place);
    };
    ends = h.ends;
  }

  back_held : (V : TermEnv) (vars inside : List Param) (s t : State) → s.sent ≡ None → Held V vars s → FitsState level d inside t → Held V vars (states.back_to s.vars t)
  back_held V vars inside s t p h k = record { fits = record { fields = k.fields; condition = k.condition; place = by t.sent k.place }; ends = h.ends }
    where
      by : (o : Option Place) → FitsBy level d inside t.vars o → FitsBy level d vars s.vars o
      by None q = vars_of vars s p h.fits
      by (Some at) q = q

  abbrev pub AllHeld : TermEnv → List Param → List State → Type 0
  AllHeld V vars ss = (s : State) → In s ss → Held V vars s

  pub only : (V : TermEnv) (vars : List Param) (s : State) → Held V vars s → AllHeld V vars (s ∷ [])
  only V vars s h t i = elim i [ inl same ↦ subst (Held V vars) (sym same) h | inr l ↦ absurd l ]

  -- the same variables
  same : (V : TermEnv) (vars : List Param) (s t : State) → s.sent ≡ None → Held V vars s → t.sent ≡ s.sent → t.vars ≡ s.vars → AllZip HasWidth (all_widths d.headers) t.fields → HasWidth 1 t.cond → Held V vars t
  same V vars s t p h q e f c = record {
    fits = unsent vars t (q ∙ p) (subst (AreVariables vars) (sym e) (vars_of vars s p h.fits)) f c;
    ends = (h.ends.0, e ∙ h.ends.1);
  }

  -- one more variable
  more : (V : TermEnv) (vars : List Param) (s t : State) (x : Param) (u : Term) → s.sent ≡ None → Held V vars s → t.sent ≡ s.sent → t.vars ≡ (x.name.text, u) ∷ s.vars → HasWidth x.width u
      → AllZip HasWidth (all_widths d.headers) t.fields → HasWidth 1 t.cond → Held V (x ∷ vars) t
  more V vars s t x u p h q e w f c = record {
    fits = unsent (x ∷ vars) t (q ∙ p) (subst (AreVariables (x ∷ vars)) (sym e) (refl, w, vars_of vars s p h.fits)) f c;
    ends = ((x.name.text, u) ∷ h.ends.0, e ∙ ap (λ vs. (x.name.text, u) ∷ vs) h.ends.1);
  }

  mutual
    pub stmt_held : (V : TermEnv) (x : Stmt) (vars : List Param) → IsTypedStmt (scope_at d level vars true) x → (s : State) → s.sent ≡ None → Held V vars s → (n : ℕ) → AllHeld V (after_vars x vars) (follow T x s n).0
    stmt_held V (let_ at x w e) vars h s p k n =
        let y : Param = record { name = x; width = w } in
        let t = states.with_variable x.text (term_at T s e) s in
        only V (y ∷ vars) t (more V vars s t y (term_at T s e) p k refl refl (expr_wide vars s p k.fits (bits_sort w) e h.1) k.fits.fields k.fits.condition)
    stmt_held V (set_field at x f e) vars h s p k n =
        let u = term_at T s e in
        let t = states.with_field d.headers x.text f.text u s in
        only V vars t (same V vars s t p k refl refl (set_fits HasWidth d.headers s.fields k.fits.fields x.text f.text h.0 u (expr_wide vars s p k.fits (bits_sort h.0) e h.2) h.1) k.fits.condition)
    stmt_held V (if_ at e first second) vars h s p k n = λ t i.
        let yes = in_branch true (term_at T s e) s in
        let other = in_branch false (term_at T s e) s in
        let A = follow_all T first (one yes n) in
        let B = follow_all T second (one other A.1) in
        let m = map_in (states.back_to s.vars) t (A.0 ++ B.0) i in
        subst (Held V vars) (sym m.2) (elim (in_either m.0 A.0 B.0 m.1) [
          | inl j ↦ back_held V vars (block_vars first vars) s m.0 p k
              (block_held V first vars h.1 (yes ∷ []) (only V vars yes (same V vars s yes p k refl refl k.fits.fields k.fits.condition)) n m.0 j).fits
          | inr j ↦ back_held V vars (block_vars second vars) s m.0 p k
              (block_held V second vars h.2 (other ∷ []) (only V vars other (same V vars s other p k refl refl k.fits.fields k.fits.condition)) A.1 m.0 j).fits
        ])
    stmt_held V (filter at e) vars h s p k n =
        let t = where_true (term_at T s e) s in only V vars t (same V vars s t p k refl refl k.fits.fields k.fits.condition)
    stmt_held V (havoc_var at x w) vars h s p k n =
        let y : Param = record { name = x; width = w } in
        let t = chosen_as x.text (next_input n w) s in
        only V (y ∷ vars) t (more V vars s t y (input_term (next_input n w)) p k refl refl refl k.fits.fields k.fits.condition)
    stmt_held V (havoc_field at x f) vars h s p k n =
        let i = next_input n (choice_width d.headers x.text f.text) in
        let t = states.with_choice i (states.with_field d.headers x.text f.text (input_term i) s) in
        let is : choice_width d.headers x.text f.text ≡ h.0 = ap (λ (o : Option ℕ). elim o as (λ y. ℕ) [ None ↦ 1 | Some w ↦ w ]) h.1 in
        only V vars t (same V vars s t p k refl refl (set_fits HasWidth d.headers s.fields k.fits.fields x.text f.text h.0 (input_term i) is h.1) k.fits.condition)
    stmt_held V (assume at e) vars h s p k n =
        let t = where_true (term_at T s e) s in only V vars t (same V vars s t p k refl refl k.fits.fields k.fits.condition)
    stmt_held V (fork at x w e body) vars h s p k n = λ t i.
        let y : Param = record { name = x; width = w } in
        let z = chosen_as x.text (next_input n w) s in
        let u = where_true (term_at T z e) z in
        let j = passed has_sent (follow_all T body (one u (suc n))).0 t i in
        let to = some_place t.sent j.1 in
        sent_held V (block_vars body (y ∷ vars)) vars t to.0 to.1
        (block_held V body (y ∷ vars) h.2 (u ∷ []) (only V (y ∷ vars) u (more V vars s u y (input_term (next_input n w)) p k refl refl refl k.fits.fields k.fits.condition)) (suc n) t j.0)
    stmt_held V (send at r es) vars h s p k n =
        let to : Place = record { role = r.text; values = terms_of (term_context d) s.vars s.fields es } in
        let t = sends_to T to s in
        only V vars t (record {
          fits = record { fields = k.fits.fields; condition = k.fits.condition; place = record { role = h.0; declared = h.1; values = exprs_wide vars s p k.fits (widths_of h.0.params) es h.2 } };
          ends = k.ends;
        })

    pub block_held : (V : TermEnv) (b : Block) (vars : List Param) → IsTyped (scope_at d level vars true) b → (ss : List State) → AllHeld V vars ss → (n : ℕ) → AllHeld V (block_vars b vars) (follow_all T b (ss, n)).0
    block_held V no_stmts vars h ss k n = k
    block_held V (stmt x rest) vars h ss k n =
        let f = unless_sent (follow T x) in
        let mid = after_vars x vars in
        let later : IsTyped (scope_at d level mid true) rest = subst (λ s. IsTyped s rest) (after_scope x (scope_at d level vars true)) h.1 in
        block_held V rest mid later (each f ss n).0
        (λ m i.
        let s = each_in f ss n m i in
        elim (unless_in (follow T x) s.0 s.2 m s.3) [
          | inl j ↦ stmt_held V x vars h.0 s.0 j.0 (k s.0 s.1) s.2 m j.1
          | inr j ↦ subst (Held V mid) (sym j.2) (sent_held V vars mid s.0 j.0 j.1 (k s.0 s.1))
        ])
        (each f ss n).1
