-- An expression with its names replaced, and its term: related, where variables and fields are.
use Rattle.std.proofs.Common.{◌≡◌, ℕ, List, [], ◌∷◌, ◌++◌, true, false, Option, Some, None, option_map, refl, sym, subst, ◌∙◌}
use Rattle.std.specs.List.{list_any}
use Rattle.cocoon_num.specs.Names.{named}
use Rattle.cocoon_num.specs.Sorts.{Sort, bits_sort, truth_sort}
use Rattle.cocoon_num.specs.Tree.{Param, Expr, name, field, lit, true_or_false, call, unary, binary, slice, pick, Exprs, no_exprs, expr}
use Rattle.cocoon_types.specs.Design.{widths_of}
use Rattle.cocoon_types.specs.Parts.{list_of, parts, parts_of}
use Rattle.cocoon_types.specs.ReadBack.{Path, all_replaced, is_choice_at, occurs, replaced}
use Rattle.cocoon_types.specs.Typing.{Scope}
use Rattle.bv_terms.specs.TermTrees.{Term}
use Rattle.obligation_laws.specs.TermOf.{TermContext, TermEnv, field_term, term_of, terms_of}
use Rattle.obligation_laws.specs.TypedExprs.{TypedAll, TypedAs}
use Rattle.sound_types.proofs.Members.{In}
use Rattle.obligation_laws.specs.States.{NewInput}
use Rattle.obligation_laws.specs.MadeOf.{AllMade, Made, OfInputs}
use Rattle.obligation_laws.proofs.Made.{CallsMade, operator_made}
use Rattle.obligation_laws.specs.ReadBackLeaves.{Other}
use Rattle.obligation_laws.proofs.Relating.{Below, Pairing, Rel, VarsRel, back, front, var_rel}
use Rattle.obligation_laws.proofs.Fields.{FieldsRel, field_rel}

-- as many, each related
abbrev pub AllRel : Pairing → ℕ → List Expr → List Term → Type 0
AllRel pairs n [] [] = Unit {0}
AllRel pairs n (e ∷ es) (t ∷ ts) = Rel pairs n e t × AllRel pairs n es ts
AllRel pairs n _ _ = ⊥

there : (o : Option Param) (w : ℕ) → option_map (λ (p : Param). p.width) o ≡ Some w → (p : Param) × (o ≡ Some p)
there None w h = absurd (cc)
there (Some p) w h = (p, refl)

-- an expression that is no choice, whose term is made of what the terms of its parts are made of
whole : (pairs : Pairing) (n : ℕ) (e : Expr) (t : Term) → ((a : ℕ) → is_choice_at a e ≡ false) → ((a : ℕ) (i : NewInput) → In (a, i) pairs → occurs a e ≡ false → Made (Other i) t) → Made (Below n) t → Rel pairs n e t
whole pairs n e t apart clear below = record { clear = clear; alone = λ a h. absurd (let f : true ≡ false = sym h ∙ apart a in cc); below = below }

module _ (pairs : Pairing) (n : ℕ) (base : List Param) (s : Scope) (c : TermContext) (calls : (P : OfInputs) → CallsMade P c) (headers : c.headers ≡ s.design.headers)
    (p : Path) (vars : TermEnv) (fields : List Term) (vs : VarsRel pairs n base s.vars p.vars vars) (fs : FieldsRel pairs n s.design.headers p.fields fields) where
  abbrev term_in : Expr → Term
  term_in e = term_of c vars fields e

  all_below : (es : List Expr) (ts : List Term) → AllRel pairs n es ts → AllMade (Below n) ts
  all_below [] [] h = tt
  all_below [] (t ∷ ts) h = absurd h
  all_below (e ∷ es) [] h = absurd h
  all_below (e ∷ es) (t ∷ ts) h = (h.0.below, all_below es ts h.1)

  mutual
    pub expr_rel : (t : Sort) (e : Expr) → TypedAs s t e → Rel pairs n (replaced p e) (term_of c vars fields e)
    expr_rel t (name at x) h =
        let q = there (named (λ (y : Param). y.name) x s.vars) h.0 h.1 in
        var_rel pairs n base s.vars p.vars vars vs at x q.0 q.1
    expr_rel t (field at x f) h =
        subst (λ hs. Rel pairs n (replaced p (field at x f)) (field_term hs fields x.text f.text)) (sym headers)
        (field_rel pairs n s.design.headers p.fields fields fs x f h.0 h.2)
    expr_rel t (lit at w k) h = whole pairs n (lit at w k) (term_in (lit at w k)) (λ a. refl) (λ a i j o. tt) tt
    expr_rel t (true_or_false at b) h = whole pairs n (true_or_false at b) (term_in (true_or_false at b)) (λ a. refl) (λ a i j o. tt) tt
    expr_rel t (call at f es) h =
        let r = exprs_rel (widths_of h.0.params) es h.2 in
        whole pairs n (call at f (all_replaced p es)) (term_in (call at f es)) (λ a. refl)
        (λ a i j o. calls (Other i) f.text (terms_of c vars fields es) (exprs_clear es r a i j o))
        (calls (Below n) f.text (terms_of c vars fields es) (all_below (list_of (all_replaced p es)) (terms_of c vars fields es) r))
    expr_rel t (unary at op a) h =
        let r = expr_rel h.0 a h.1 in
        whole pairs n (unary at op (replaced p a)) (term_in (unary at op a)) (λ b. refl) (λ b i j o. r.clear b i j o) r.below
    expr_rel t (binary at op a b) h =
        let r = expr_rel h.0 a h.2 in
        let q = expr_rel h.1 b h.3 in
        whole pairs n (binary at op (replaced p a) (replaced p b)) (term_in (binary at op a b)) (λ x. refl)
        (λ x i j o. operator_made (Other i) op (term_in a) (term_in b)
        (r.clear x i j (front (is_choice_at x) (parts (replaced p a)) (parts (replaced p b)) o)) (q.clear x i j (back (is_choice_at x) (parts (replaced p a)) (parts (replaced p b)) o)))
        (operator_made (Below n) op (term_in a) (term_in b) r.below q.below)
    expr_rel t (slice at a high low) h =
        let r = expr_rel h.0 a h.1 in
        whole pairs n (slice at (replaced p a) high low) (term_in (slice at a high low)) (λ b. refl) (λ b i j o. r.clear b i j o) r.below
    expr_rel t (pick at y a b) h =
        let u = expr_rel truth_sort y h.0 in
        let r = expr_rel t a h.1 in
        let q = expr_rel t b h.2 in
        whole pairs n (pick at (replaced p y) (replaced p a) (replaced p b)) (term_in (pick at y a b)) (λ x. refl)
        (λ x i j o.
        let two = front (is_choice_at x) (parts (replaced p y) ++ parts (replaced p a)) (parts (replaced p b)) o in (
          u.clear x i j (front (is_choice_at x) (parts (replaced p y)) (parts (replaced p a)) two),
          r.clear x i j (back (is_choice_at x) (parts (replaced p y)) (parts (replaced p a)) two),
          q.clear x i j (back (is_choice_at x) (parts (replaced p y) ++ parts (replaced p a)) (parts (replaced p b)) o),
        ))
        (u.below, r.below, q.below)

    pub exprs_rel : (ws : List ℕ) (es : Exprs) → TypedAll s ws es → AllRel pairs n (list_of (all_replaced p es)) (terms_of c vars fields es)
    exprs_rel [] no_exprs h = tt
    exprs_rel [] (expr e es) h = absurd h
    exprs_rel (w ∷ ws) no_exprs h = absurd h
    exprs_rel (w ∷ ws) (expr e es) h = (expr_rel (bits_sort w) e h.0, exprs_rel ws es h.1)

    exprs_clear : (es : Exprs) → AllRel pairs n (list_of (all_replaced p es)) (terms_of c vars fields es) → (a : ℕ) (i : NewInput) → In (a, i) pairs
        → list_any (is_choice_at a) (parts_of (all_replaced p es)) ≡ false → AllMade (Other i) (terms_of c vars fields es)
    exprs_clear no_exprs r a i j o = tt
    exprs_clear (expr e es) r a i j o = (
      r.0.clear a i j (front (is_choice_at a) (parts (replaced p e)) (parts_of (all_replaced p es)) o),
      exprs_clear es r.1 a i j (back (is_choice_at a) (parts (replaced p e)) (parts_of (all_replaced p es)) o),
    )
