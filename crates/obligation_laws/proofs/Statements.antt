-- Each state that a statement or a block makes of another comes of it by a run.
use Rattle.std.proofs.Common.{◌≡◌, ◌⊎◌, inl, inr, ℕ, suc, List, [], ◌∷◌, ◌++◌, true, false, Option, Some, None, option_and_then, option_map, refl, sym, ap, subst, ◌∙◌}
use Rattle.std.specs.Prelude.{not}
use Rattle.cocoon_num.specs.Packets.{Packet}
use Rattle.cocoon_num.specs.Sorts.{bits_sort, truth_sort}
use Rattle.cocoon_num.specs.Tree.{Expr, Param, Stmt, let_, set_field, if_, filter, havoc_var, havoc_field, assume, fork, send, Block, no_stmts, stmt, Design}
use Rattle.cocoon_num.specs.Values.{Value, number, truth, FitsWidth}
use Rattle.cocoon_types.specs.Design.{widths_of, write_field}
use Rattle.cocoon_types.specs.Runs.{falls, sends, world}
use Rattle.cocoon_types.specs.Tables.{Defs}
use Rattle.cocoon_types.specs.Taken.{guard_at}
use Rattle.cocoon_types.specs.Val.{Env, bound, context, value}
use Rattle.refinement.specs.Ways.{Course, branch, choose, if_sends, in_branch, on_true, run_all_by, run_by, straight}
use Rattle.bv_terms.specs.TermTrees as term
use Rattle.bv_terms.specs.TermTrees.{Term}
use Rattle.bv_terms.specs.TermValues.{Functions, Inputs, number_in, term_value}
use Rattle.sound_types.specs.WellTyped.{HasType, IsTyped, IsTypedStmt, scope_at}
use Rattle.sound_types.proofs.Bodies.{after_scope, after_vars}
use Rattle.sound_types.proofs.Members.{In, in_either, map_in}
use Rattle.obligation_laws.specs.Shown.{HasNumber, functions_by}
use Rattle.obligation_laws.specs.TermOf.{term_context, terms_of}
use Rattle.obligation_laws.proofs.ExprValues.{numbers_are}
use Rattle.obligation_laws.specs.States.{NewInput, Place, State, TermWorld, choice_width, guard_term, input_term, set_term, term_world, where_true}
use Rattle.obligation_laws.specs.States as states
use Rattle.obligation_laws.specs.Following as following
use Rattle.obligation_laws.specs.Following.{Followed, chosen_as, each, follow, follow_all, has_sent, next_input, one, sends_to, term_at, unless_sent}
use Rattle.obligation_laws.proofs.FieldTerms.{set_fits, set_packet}
use Rattle.obligation_laws.proofs.Followings.{each_in, passed, some_place, unless_in}
use Rattle.obligation_laws.proofs.Leading.{Leads, Run, binds_of, branched, composed, course, forked, picks, quiet, stopped, tested}
use Rattle.obligation_laws.proofs.Meaning.{AtFits, Fits, FitsBy, Holds, NumberShown, TruthShown, are_have, end_by, env_at, guard_shown, loc_at, number_shown, packet_at, taken, truth_shown}
use Rattle.obligation_laws.proofs.TruthValues.{and_bit, holds as bit_holds, not_bit, parts_hold}

-- the variables after a block
abbrev pub block_vars : Block → List Param → List Param
block_vars no_stmts ps = ps
block_vars (stmt first rest) ps = block_vars rest (after_vars first ps)

module _ (d : Design) (defs : Defs) (ins : Inputs) (level : ℕ) where
  -- a state comes of one that has not sent by a run, and one that has sent stays
  abbrev pub Comes : List Param → List Param → State → State → Run → Type 0
  Comes vars after s t run = ((s.sent ≡ None) × Leads d defs ins level vars after s t run) ⊎ ((at : Place) × (s.sent ≡ Some at) × (t ≡ s))

  abbrev pub runs_all : Block → State → Run
  runs_all b s cs = run_all_by (world level d defs) b (env_at d defs ins level s) (packet_at d defs ins level s) cs

  abbrev pub runs : Stmt → State → Run
  runs x s cs = run_by (world level d defs) x (env_at d defs ins level s) (packet_at d defs ins level s) cs

  not_both : (o : Option Place) (at : Place) → o ≡ None → o ≡ Some at → ⊥
  not_both None at p q = absurd (cc)
  not_both (Some x) at p q = absurd (cc)

  -- what comes of a state that has not sent
  pub unsent : (vars after : List Param) (s t : State) (run : Run) → s.sent ≡ None → Comes vars after s t run → Leads d defs ins level vars after s t run
  unsent vars after s t run p h = elim h [
    | inl k ↦ k.1
    | inr k ↦ absurd (not_both s.sent k.0 p k.1)
  ]

  -- of a list with one state
  pub of_one : (vars after : List Param) (u t : State) (run : State → Run) → u.sent ≡ None → (s : State) × In s (u ∷ []) × Comes vars after s t (run s) → Leads d defs ins level vars after u t (run u)
  of_one vars after u t run p h = unsent vars after u t (run u) p (elim h.1 [
    | inl e ↦ subst (λ s. Comes vars after s t (run s)) e h.2
    | inr l ↦ absurd l
  ])

  module _ (holds : Holds d defs ins level) where
    abbrev G : Functions
    G = functions_by d defs

    -- a condition of a state
    condition : (vars : List Param) (s : State) → s.sent ≡ None → Fits d defs ins level vars s → (e : Expr) → HasType (scope_at d level vars true) truth_sort e
        → TruthShown G ins (value (context d defs) (env_at d defs ins level s) (packet_at d defs ins level s) e) (term_at (term_world level d) s e)
    condition vars s p f e h =
        truth_shown G ins (value (context d defs) (env_at d defs ins level s) (packet_at d defs ins level s) e) (term_at (term_world level d) s e)
        (holds.values vars s.vars s.fields (binds_of d defs ins level vars s p f) f.fields truth_sort e h)

    amount : (vars : List Param) (s : State) → s.sent ≡ None → Fits d defs ins level vars s → (w : ℕ) (e : Expr) → HasType (scope_at d level vars true) (bits_sort w) e
        → NumberShown G ins w (value (context d defs) (env_at d defs ins level s) (packet_at d defs ins level s) e) (term_at (term_world level d) s e)
    amount vars s p f w e h =
        number_shown G ins w (value (context d defs) (env_at d defs ins level s) (packet_at d defs ins level s) e) (term_at (term_world level d) s e)
        (holds.values vars s.vars s.fields (binds_of d defs ins level vars s p f) f.fields (bits_sort w) e h)

    -- `filter` and `assume`
    passes : (vars : List Param) (e : Expr) → HasType (scope_at d level vars true) truth_sort e → (s : State) → s.sent ≡ None
        → Leads d defs ins level vars vars s (where_true (term_at (term_world level d) s e) s)
        (λ cs. on_true (value (context d defs) (env_at d defs ins level s) (packet_at d defs ins level s) e) (Some (straight (falls (env_at d defs ins level s) (packet_at d defs ins level s)) cs)))
    passes vars e h s p =
        let u = term_at (term_world level d) s e in
        let v = value (context d defs) (env_at d defs ins level s) (packet_at d defs ins level s) e in
        let env = env_at d defs ins level s in
        let packet = packet_at d defs ins level s in
        tested d defs ins level vars vars s (where_true u s) (λ cs. on_true v (Some (straight (falls env packet) cs))) u refl refl refl
        (λ f. let c = condition vars s p f e h in
        record {
          fit = record {
            fields = f.fields;
            cond = and_bit G ins s.cond u f.cond (c.truth_, c.term);
            place = subst (λ o. FitsBy d defs ins level vars o (where_true u s)) (sym p) (binds_of d defs ins level vars s p f);
          };
          truth_ = c.truth_;
          term = c.term;
          runs = λ rest. (λ k. on_true (c.is k) (Some (course (end_by d defs ins level (sym p k) env packet) rest [])));
        })

    -- a statement and then the rest of its block
    joined : (x : Stmt) (rest : Block) (vars : List Param) (s m t : State) → Comes (after_vars x vars) (block_vars rest (after_vars x vars)) m t (runs_all rest m) → Comes vars (after_vars x vars) s m (runs x s)
        → Comes vars (block_vars (stmt x rest) vars) s t (runs_all (stmt x rest) s)
    joined x rest vars s m t k h = elim h [
      | inl l ↦ elim k [
        | inl j ↦ inl (l.0, composed d defs ins level vars mid after s m t (runs x s) more j.0 l.1 j.1)
        | inr j ↦ inl (l.0, subst (λ z. Leads d defs ins level vars after s z (runs_all (stmt x rest) s)) (sym j.2) (stopped d defs ins level vars mid after s m (runs x s) more j.0 j.1 l.1))
      ]
      | inr l ↦ elim k [
        | inl j ↦ absurd (not_both s.sent l.0 (ap (λ (z : State). z.sent) (sym l.2) ∙ j.0) l.1)
        | inr j ↦ inr (l.0, l.1, j.2 ∙ l.2)
      ]
    ]
      where
        mid : List Param
        mid = after_vars x vars

        after : List Param
        after = block_vars rest mid

        more : Env → Packet → List ℕ → Option Course
        more env packet cs = run_all_by (world level d defs) rest env packet cs

    mutual
      pub stmt_leads : (x : Stmt) (vars : List Param) → IsTypedStmt (scope_at d level vars true) x → (s : State) → s.sent ≡ None → (n : ℕ) (t : State) → In t (follow (term_world level d) x s n).0
          → Leads d defs ins level vars (after_vars x vars) s t (runs x s)
      stmt_leads (let_ at x w e) vars h s p n t i = elim i [
        | inl same ↦ subst (λ z. Leads d defs ins level vars (record { name = x; width = w } ∷ vars) s z (runs (let_ at x w e) s)) (sym same)
            (let u = term_at (term_world level d) s e in
            let z = states.with_variable x.text u s in
            quiet d defs ins level vars (record { name = x; width = w } ∷ vars) s z (runs (let_ at x w e) s) refl refl refl
            (λ f. let a = amount vars s p f w e h.1 in (
              record {
                fields = f.fields;
                cond = f.cond;
                place = subst (λ o. FitsBy d defs ins level (record { name = x; width = w } ∷ vars) o z) (sym p) (refl, a.fits, binds_of d defs ins level vars s p f);
              },
              λ rest. ap (option_map (λ v. straight (falls (bound x.text v (env_at d defs ins level s)) (packet_at d defs ins level s)) rest)) a.is
                  ∙ ap (λ o. Some (course (end_by d defs ins level o (env_at d defs ins level z) (packet_at d defs ins level z)) rest [])) (sym p),
            )))
        | inr l ↦ absurd l
      ]
      stmt_leads (set_field at x g e) vars h s p n t i = elim i [
        | inl same ↦ subst (λ z. Leads d defs ins level vars vars s z (runs (set_field at x g e) s)) (sym same)
            (let u = term_at (term_world level d) s e in
            let z = states.with_field d.headers x.text g.text u s in
            let num : Term → ℕ = λ q. number_in (term_value G ins q) in
            quiet d defs ins level vars vars s z (runs (set_field at x g e) s) refl refl refl
            (λ f. let a = amount vars s p f h.0 e h.2 in (
              record {
                fields = set_fits (HasNumber G ins) d.headers s.fields f.fields x.text g.text h.0 u a.fits h.1;
                cond = f.cond;
                place = subst (λ o. FitsBy d defs ins level vars o z) (sym p) (binds_of d defs ins level vars s p f);
              },
              λ rest. ap (option_map (λ m. straight (falls (env_at d defs ins level s) (write_field d.headers (packet_at d defs ins level s) x.text g.text m)) rest)) a.number_
                  ∙ (λ k. Some (course (end_by d defs ins level (sym p k) (env_at d defs ins level s) (sym (set_packet num (HasNumber G ins) d.headers s.fields f.fields x.text g.text u) k)) rest [])),
            )))
        | inr l ↦ absurd l
      ]
      stmt_leads (if_ at e first second) vars h s p n t i =
          let w = term_world level d in
          let u = term_at w s e in
          let yes = following.in_branch true u s in
          let other = following.in_branch false u s in
          let A = follow_all w first (one yes n) in
          let B = follow_all w second (one other A.1) in
          let m = map_in (states.back_to s.vars) t (A.0 ++ B.0) i in
          let run = runs (if_ at e first second) s in
          let v = value (context d defs) (env_at d defs ins level s) (packet_at d defs ins level s) e in
          let split : Option Value → Run = λ o rest. branch o (option_map (in_branch true (env_at d defs ins level s)) (runs_all first s rest)) (option_map (in_branch false (env_at d defs ins level s)) (runs_all second s rest)) in
          subst (λ z. Leads d defs ins level vars vars s z run) (sym m.2) (elim (in_either m.0 A.0 B.0 m.1) [
            | inl j ↦ branched d defs ins level vars (block_vars first vars) true s yes m.0 run (runs_all first s) (runs_all second s) u p refl refl refl
                (λ f. let c = condition vars s p f e h.0 in record {
                  fit = record {
                    fields = f.fields;
                    cond = and_bit G ins s.cond u f.cond (c.truth_, c.term);
                    place = subst (λ o. FitsBy d defs ins level vars o yes) (sym p) (binds_of d defs ins level vars s p f);
                  };
                  truth_ = c.truth_;
                  term = c.term;
                  runs = λ rest. ap (λ o. split o rest) c.is;
                })
                (of_one vars (block_vars first vars) yes m.0 (runs_all first) p (block_leads first vars h.1 (yes ∷ []) n m.0 j))
            | inr j ↦ branched d defs ins level vars (block_vars second vars) false s other m.0 run (runs_all first s) (runs_all second s) (term.not_ u) p refl refl refl
                (λ f. let c = condition vars s p f e h.0 in record {
                  fit = record {
                    fields = f.fields;
                    cond = and_bit G ins s.cond (term.not_ u) f.cond (not c.truth_, not_bit G ins u c.truth_ c.term);
                    place = subst (λ o. FitsBy d defs ins level vars o other) (sym p) (binds_of d defs ins level vars s p f);
                  };
                  truth_ = c.truth_;
                  term = not_bit G ins u c.truth_ c.term;
                  runs = λ rest. ap (λ o. split o rest) c.is;
                })
                (of_one vars (block_vars second vars) other m.0 (runs_all second) p (block_leads second vars h.2 (other ∷ []) A.1 m.0 j))
          ])
      stmt_leads (filter at e) vars h s p n t i = elim i [
        | inl same ↦ subst (λ z. Leads d defs ins level vars vars s z (runs (filter at e) s)) (sym same) (passes vars e h s p)
        | inr l ↦ absurd l
      ]
      stmt_leads (havoc_var at x w) vars h s p n t i = elim i [
        | inl same ↦ subst (λ z. Leads d defs ins level vars (record { name = x; width = w } ∷ vars) s z (runs (havoc_var at x w) s)) (sym same)
            (let c = next_input n w in
            let z = chosen_as x.text c s in
            picks d defs ins level vars (record { name = x; width = w } ∷ vars) s z (runs (havoc_var at x w) s) c refl refl refl
            (λ f g. (
              record {
                fields = f.fields;
                cond = f.cond;
                place = subst (λ o. FitsBy d defs ins level (record { name = x; width = w } ∷ vars) o z) (sym p) (refl, (refl, g), binds_of d defs ins level vars s p f);
              },
              λ rest. taken w (ins n) rest (λ m more. Some (straight (falls (bound x.text (number w m) (env_at d defs ins level s)) (packet_at d defs ins level s)) more)) g
                  ∙ ap (λ o. Some (course (end_by d defs ins level o (env_at d defs ins level z) (packet_at d defs ins level z)) rest [])) (sym p),
            )))
        | inr l ↦ absurd l
      ]
      stmt_leads (havoc_field at x g) vars h s p n t i = elim i [
        | inl same ↦ subst (λ z. Leads d defs ins level vars vars s z (runs (havoc_field at x g) s)) (sym same)
            (let c = next_input n (choice_width d.headers x.text g.text) in
            let z = states.with_choice c (states.with_field d.headers x.text g.text (input_term c) s) in
            let num : Term → ℕ = λ q. number_in (term_value G ins q) in
            let wide : choice_width d.headers x.text g.text ≡ h.0 = ap (λ (o : Option ℕ). elim o as (λ y. ℕ) [ None ↦ 1 | Some w ↦ w ]) h.1 in
            let goes : ℕ → List ℕ → Option Course = λ m more. Some (straight (falls (env_at d defs ins level s) (write_field d.headers (packet_at d defs ins level s) x.text g.text m)) more) in
            picks d defs ins level vars vars s z (runs (havoc_field at x g) s) c refl refl refl
            (λ f fit. (
              record {
                fields = set_fits (HasNumber G ins) d.headers s.fields f.fields x.text g.text h.0 (input_term c) (wide, subst (λ w. FitsWidth w (ins n)) wide fit) h.1;
                cond = f.cond;
                place = subst (λ o. FitsBy d defs ins level vars o z) (sym p) (binds_of d defs ins level vars s p f);
              },
              λ rest. ap (option_and_then (λ w. choose w (ins n ∷ rest) goes)) h.1 ∙ taken h.0 (ins n) rest goes (subst (λ w. FitsWidth w (ins n)) wide fit)
                  ∙ (λ k. Some (course (end_by d defs ins level (sym p k) (env_at d defs ins level s) (sym (set_packet num (HasNumber G ins) d.headers s.fields f.fields x.text g.text (input_term c)) k)) rest [])),
            )))
        | inr l ↦ absurd l
      ]
      stmt_leads (assume at e) vars h s p n t i = elim i [
        | inl same ↦ subst (λ z. Leads d defs ins level vars vars s z (runs (assume at e) s)) (sym same) (passes vars e h s p)
        | inr l ↦ absurd l
      ]
      stmt_leads (fork at x w e body) vars h s p n t i =
          let c = next_input n w in
          let more : List Param = record { name = x; width = w } ∷ vars in
          let z = chosen_as x.text c s in
          let u = term_at (term_world level d) z e in
          let y = where_true u z in
          let k = passed has_sent (follow_all (term_world level d) body (one y (suc n))).0 t i in
          let to = some_place t.sent k.1 in
          let v = value (context d defs) (env_at d defs ins level z) (packet_at d defs ins level z) e in
          let inner : Run = runs_all body z in
          let then_body : ℕ → List ℕ → Option Course = λ m rest.
          on_true (value (context d defs) (bound x.text (number w m) (env_at d defs ins level s)) (packet_at d defs ins level s) e)
          (option_and_then (λ (r : Course). if_sends r.end r) (run_all_by (world level d defs) body (bound x.text (number w m) (env_at d defs ins level s)) (packet_at d defs ins level s) rest)) in
          forked d defs ins level vars more (block_vars body more) vars s y t (runs (fork at x w e body) s) inner c u to.0 refl refl refl to.1
          (λ f g.
          let fit : Fits d defs ins level more z = record {
            fields = f.fields;
            cond = f.cond;
            place = subst (λ o. FitsBy d defs ins level more o z) (sym p) (refl, (refl, g), binds_of d defs ins level vars s p f);
          } in
          let b = condition more z p fit e h.1 in
          record {
            fit = record {
              fields = f.fields;
              cond = and_bit G ins s.cond u f.cond (b.truth_, b.term);
              place = subst (λ o. FitsBy d defs ins level more o y) (sym p) (refl, (refl, g), binds_of d defs ins level vars s p f);
            };
            truth_ = b.truth_;
            term = b.term;
            runs = λ rest. taken w (ins n) rest then_body g ∙ ap (λ o. on_true o (option_and_then (λ (r : Course). if_sends r.end r) (inner rest))) b.is;
          })
          (of_one more (block_vars body more) y t (runs_all body) p (block_leads body more h.2 (y ∷ []) (suc n) t k.0))
      stmt_leads (send at r es) vars h s p n t i = elim i [
        | inl same ↦ subst (λ z. Leads d defs ins level vars vars s z (runs (send at r es) s)) (sym same)
            (let w = term_world level d in
            let ts = terms_of (term_context d) s.vars s.fields es in
            let to : Place = record { role = r.text; values = ts } in
            let u = guard_term w to in
            let z = sends_to w to s in
            let packet = packet_at d defs ins level s in
            let goes : List ℕ → List ℕ → Option Course = λ rest ns.
            on_true (guard_at (world level d defs) (record { role = r.text; values = ns })) (Some (straight (sends (record { role = r.text; values = ns }) packet) rest)) in
            tested d defs ins level vars vars s z (runs (send at r es) s) u refl refl refl
            (λ f.
            let ns = holds.numbers_ vars s.vars s.fields (binds_of d defs ins level vars s p f) f.fields (widths_of h.0.params) es h.2 in
            let fit : AtFits d defs ins level to = (h.0, h.1, are_have G ins (widths_of h.0.params) ts ns.0 ns.2) in
            let b = guard_shown d defs ins level holds to fit in
            record {
              fit = record {
                fields = f.fields;
                cond = and_bit G ins s.cond u f.cond (b.truth_, b.term);
                place = (fit, λ both. let c = parts_hold G ins s.cond u f.cond (b.truth_, b.term) both in b.is ∙ ap (λ x. Some (truth x)) (bit_holds G ins u b.truth_ b.term c.1));
              };
              truth_ = b.truth_;
              term = b.term;
              runs = λ rest. ap (option_and_then (goes rest)) (ns.1 ∙ ap Some (sym (numbers_are G ins (widths_of h.0.params) ts ns.0 ns.2)))
                  ∙ ap (λ o. on_true o (Some (straight (sends (loc_at d defs ins level to) packet) rest))) b.is;
            }))
        | inr l ↦ absurd l
      ]

      pub block_leads : (b : Block) (vars : List Param) → IsTyped (scope_at d level vars true) b → (ss : List State) (n : ℕ) (t : State) → In t (follow_all (term_world level d) b (ss, n)).0
          → (s : State) × In s ss × Comes vars (block_vars b vars) s t (runs_all b s)
      block_leads no_stmts vars h ss n t i = (t, i, by t.sent refl)
        where
          by : (o : Option Place) → t.sent ≡ o → Comes vars vars t t (runs_all no_stmts t)
          by None p = inl (
            p,
            quiet d defs ins level vars vars t t (runs_all no_stmts t) refl refl refl
                (λ f. (f, λ rest. ap (λ o. Some (course (end_by d defs ins level o (env_at d defs ins level t) (packet_at d defs ins level t)) rest [])) (sym p))),
          )
          by (Some at) p = inr (at, p, refl)
      block_leads (stmt x rest) vars h ss n t i =
          let w = term_world level d in
          let mid = after_vars x vars in
          let mids = each (unless_sent (follow w x)) ss n in
          let later : IsTyped (scope_at d level mid true) rest = subst (λ s. IsTyped s rest) (after_scope x (scope_at d level vars true)) h.1 in
          let m = block_leads rest mid later mids.0 mids.1 t i in
          let s = each_in (unless_sent (follow w x)) ss n m.0 m.1 in (
            s.0,
            s.1,
            joined x rest vars s.0 m.0 t m.2 (elim (unless_in (follow w x) s.0 s.2 m.0 s.3) [
              | inl k ↦ inl (k.0, stmt_leads x vars h.0 s.0 k.0 s.2 m.0 k.1)
              | inr k ↦ inr k
            ]),
          )
