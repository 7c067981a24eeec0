-- States that come of a block beside the paths through it.
use Rattle.std.proofs.Common.{◌≡◌, inl, inr, ℕ, suc, ◌<◌, ◌≤◌, ◌==◌, ◌&&◌, ◌||◌, List, [], ◌∷◌, ◌++◌, map, cond, Bool, true, false, Option, Some, None, is_some, refl, sym, ap, subst, ◌∙◌, arith}
use Rattle.std.specs.Prelude.{filter as list_filter}
use Rattle.std.specs.List.{list_any}
use Rattle.cocoon_num.specs.Sorts.{bits_sort, truth_sort}
use Rattle.cocoon_num.specs.Tree.{Param, Expr, Exprs, Stmt, let_, set_field, if_, filter, havoc_var, havoc_field, assume, fork, send, Block, no_stmts, stmt, Design}
use Rattle.cocoon_types.specs.Design.{widths_of}
use Rattle.cocoon_types.specs.Parts.{list_of}
use Rattle.cocoon_types.specs.ReadBack.{Path, all_replaced, choice, chooses, is_choice_at, leaves, meets, occurs, paths, paths_in, replaced, unless_sent, with_field_as, with_var_as}
use Rattle.bv_terms.specs.TermTrees.{Term}
use Rattle.sound_types.specs.WellTyped.{HasType, HaveWidths, IsTyped, IsTypedStmt, scope_at}
use Rattle.sound_types.proofs.Bodies.{after_scope, after_vars}
use Rattle.sound_types.proofs.Members.{In, in_either, in_flat, in_left, in_map, in_right, map_in}
use Rattle.sound_types.proofs.Options.{both_true, same_self}
use Rattle.refinement.proofs.Lists.{same_number}
use Rattle.obligation_laws.specs.TermOf.{term_context, term_of, terms_of}
use Rattle.obligation_laws.proofs.Typings.{all_typed_everywhere, everywhere, typed_everywhere}
use Rattle.obligation_laws.specs.States as states
use Rattle.obligation_laws.specs.States.{NewInput, Place, State, TermWorld, choice_width, guard_term, input_term, term_world, where_true}
use Rattle.obligation_laws.specs.Following as following
use Rattle.obligation_laws.specs.Following.{Followed, chosen_as, each, follow, follow_all, has_sent, in_branch, next_input, one, sends_to, term_at}
use Rattle.obligation_laws.proofs.Followings.{passed, unless_in}
use Rattle.obligation_laws.proofs.Growing.{Grows, block_grows, each_grows, followed_grows}
use Rattle.obligation_laws.proofs.Statements.{block_vars}
use Rattle.obligation_laws.specs.MadeOf.{AllMade, Made}
use Rattle.obligation_laws.proofs.Made.{calls_made, guard_made}
use Rattle.obligation_laws.specs.ReadBackLeaves.{Other}
use Rattle.obligation_laws.proofs.Relating.{Below, Extends, Pairing, Rel, VarsRel, made_below, made_other, rel_more, vars_more}
use Rattle.obligation_laws.proofs.Fields.{FieldsRel, fields_more, set_rel}
use Rattle.obligation_laws.proofs.Expressions.{AllRel, expr_rel, exprs_rel}

abbrev pub SentClear : ℕ → Option (List Expr) → Type 0
SentClear a None = Unit {0}
SentClear a (Some es) = list_any (occurs a) es ≡ false

abbrev pub SentRel : Pairing → ℕ → Option (List Expr) → Option Place → Type 0
SentRel pairs n None None = Unit {0}
SentRel pairs n (Some es) (Some at) = AllRel pairs n es at.values
SentRel pairs n _ _ = ⊥

-- variables are looked at before a way has sent alone
abbrev pub VarsWhere : Pairing → ℕ → (base vars : List Param) → Path → State → Option Place → Type 0
VarsWhere pairs n base vars p s None = VarsRel pairs n base vars p.vars s.vars
VarsWhere pairs n base vars p s (Some at) = Unit {0}

-- the path and the state hold the same
pub record Sim (d : Design) (base vars : List Param) (pairs : Pairing) (n : ℕ) (p : Path) (s : State) : Type 0 where
  pub vars_are : VarsWhere pairs n base vars p s s.sent
  pub fields_are : FieldsRel pairs n d.headers p.fields s.fields
  pub tokens : p.choices ≡ map (λ (x : ℕ × NewInput). x.0) pairs
  pub inputs : (i : NewInput) → In i s.choices → (a : ℕ) × In (a, i) pairs
  pub numbers : (a : ℕ) (i : NewInput) → In (a, i) pairs → i.number < n
  pub clear : (a : ℕ) (i : NewInput) → In (a, i) pairs → list_any (occurs a) p.conditions ≡ false → SentClear a p.sent → Made (Other i) s.cond
  pub below : Made (Below n) s.cond
  pub sent_are : SentRel pairs n p.sent s.sent

all_more : (pairs : Pairing) (n : ℕ) (more : Pairing) (next : ℕ) → Extends pairs n more next → (es : List Expr) (ts : List Term) → AllRel pairs n es ts → AllRel more next es ts
all_more pairs n more next x [] [] h = tt
all_more pairs n more next x [] (t ∷ ts) h = absurd h
all_more pairs n more next x (e ∷ es) [] h = absurd h
all_more pairs n more next x (e ∷ es) (t ∷ ts) h = (rel_more pairs n more next x e t h.0, all_more pairs n more next x es ts h.1)

sent_more : (pairs : Pairing) (n : ℕ) (more : Pairing) (next : ℕ) → Extends pairs n more next → (o : Option (List Expr)) (at : Option Place) → SentRel pairs n o at → SentRel more next o at
sent_more pairs n more next x None None h = tt
sent_more pairs n more next x None (Some at) h = absurd h
sent_more pairs n more next x (Some es) None h = absurd h
sent_more pairs n more next x (Some es) (Some at) h = all_more pairs n more next x es at.values h

same_pairs : (pairs : Pairing) (n next : ℕ) → n ≤ next → Extends pairs n pairs next
same_pairs pairs n next l = record { grows = l; keeps = λ a i h. h; new = λ a i h. inl h }

one_pair : (pairs : Pairing) (n m : ℕ) (a : ℕ) (i : NewInput) → i.number ≡ m → n ≤ m → Extends pairs n ((a, i) ∷ pairs) (suc m)
one_pair pairs n m a i e l = record {
  grows = omega (arith, l);
  keeps = λ b j h. inr h;
  new = λ b j h. elim h [ inl same ↦ inr (let q : j.number ≡ i.number = ap (λ (x : ℕ × NewInput). x.1.number) same in omega (arith, q, e, l)) | inr k ↦ inl k ];
}

pub extends_join : (a : Pairing) (k : ℕ) (b : Pairing) (m : ℕ) (c : Pairing) (n : ℕ) → Extends a k b m → Extends b m c n → Extends a k c n
extends_join a k b m c n x y = record {
  grows = (let l = x.grows in let q = y.grows in omega (arith, l, q));
  keeps = λ t i h. y.keeps t i (x.keeps t i h);
  new = λ t i h. elim (y.new t i h) [ inl p ↦ x.new t i p | inr l ↦ inr (let q = x.grows in omega (arith, l, q)) ];
}

less_wider : (k n m : ℕ) → k < n → n ≤ m → k < m
less_wider k n m h l = omega (arith, h, l)

-- the same, with a larger next number
sim_wider : (d : Design) (base vars : List Param) (pairs : Pairing) (n next : ℕ) (p : Path) (s : State) → n ≤ next → Sim d base vars pairs n p s → Sim d base vars pairs next p s
sim_wider d base vars pairs n next p s l h = record {
  vars_are = by s.sent h.vars_are;
  fields_are = fields_more pairs n pairs next (same_pairs pairs n next l) d.headers p.fields s.fields h.fields_are;
  tokens = h.tokens;
  inputs = h.inputs;
  numbers = λ a i k. less_wider i.number n next (h.numbers a i k) l;
  clear = h.clear;
  below = made_below n next l s.cond h.below;
  sent_are = sent_more pairs n pairs next (same_pairs pairs n next l) p.sent s.sent h.sent_are;
}
  where
    by : (o : Option Place) → VarsWhere pairs n base vars p s o → VarsWhere pairs next base vars p s o
    by None k = vars_more pairs n pairs next (same_pairs pairs n next l) base vars p.vars s.vars k
    by (Some at) k = tt

none_sent : (pairs : Pairing) (n : ℕ) (o : Option (List Expr)) (at : Option Place) → at ≡ None → SentRel pairs n o at → o ≡ None
none_sent pairs n None None e h = refl
none_sent pairs n None (Some at) e h = absurd h
none_sent pairs n (Some es) None e h = absurd h
none_sent pairs n (Some es) (Some at) e h = absurd (cc)

some_sent : (pairs : Pairing) (n : ℕ) (o : Option (List Expr)) (at : Option Place) → is_some at ≡ true → SentRel pairs n o at → (es : List Expr) × (o ≡ Some es)
some_sent pairs n None None e h = absurd (cc)
some_sent pairs n None (Some at) e h = absurd h
some_sent pairs n (Some es) at e h = (es, refl)

or_left : (a b : Bool) → (a || b) ≡ false → a ≡ false
or_left true b h = h
or_left false b h = refl

or_right : (a b : Bool) → (a || b) ≡ false → b ≡ false
or_right true b h = absurd (cc)
or_right false b h = h

-- the terms of expressions in which a choice does not occur
pub all_clear : (pairs : Pairing) (n : ℕ) (es : List Expr) (ts : List Term) → AllRel pairs n es ts → (a : ℕ) (i : NewInput) → In (a, i) pairs → list_any (occurs a) es ≡ false → AllMade (Other i) ts
all_clear pairs n [] [] h a i j o = tt
all_clear pairs n [] (t ∷ ts) h a i j o = absurd h
all_clear pairs n (e ∷ es) [] h a i j o = absurd h
all_clear pairs n (e ∷ es) (t ∷ ts) h a i j o = (h.0.clear a i j (or_left (occurs a e) (list_any (occurs a) es) o), all_clear pairs n es ts h.1 a i j (or_right (occurs a e) (list_any (occurs a) es) o))

all_below : (pairs : Pairing) (n : ℕ) (es : List Expr) (ts : List Term) → AllRel pairs n es ts → AllMade (Below n) ts
all_below pairs n [] [] h = tt
all_below pairs n [] (t ∷ ts) h = absurd h
all_below pairs n (e ∷ es) [] h = absurd h
all_below pairs n (e ∷ es) (t ∷ ts) h = (h.0.below, all_below pairs n es ts h.1)

-- a path that is reached, with more pairs
pub record Reached (d : Design) (base vars : List Param) (ps : List Path) (t : State) (pairs : Pairing) (n next : ℕ) : Type 0 where
  pub path : Path
  pub within : In path ps
  pub more : Pairing
  pub extends : Extends pairs n more next
  pub sim : Sim d base vars more next path t

kept_in : {A : Type 0} (p : A → Bool) (xs : List A) (x : A) → In x xs → p x ≡ true → In x (list_filter p xs)
kept_in p [] x i h = absurd i
kept_in p (y ∷ xs) x i h = by (kept_in p xs x) (p y) refl i
  where
    by : (In x xs → p x ≡ true → In x (list_filter p xs)) → (b : Bool) → p y ≡ b → In x (y ∷ xs) → In x (cond b (y ∷ list_filter p xs) (list_filter p xs))
    by later true e j = elim j [ inl same ↦ inl same | inr k ↦ inr (later k h) ]
    by later false e j = elim j [
      | inl same ↦ absurd (let f : true ≡ false = sym h ∙ ap p same ∙ e in cc)
      | inr k ↦ later k h
    ]

-- where a state of several is followed
each_at : (f : State → ℕ → Followed) → Grows f → (ss : List State) (n : ℕ) (t : State) → In t (each f ss n).0
    → (s : State) × In s ss × (k : ℕ) × (n ≤ k) × ((f s k).1 ≤ (each f ss n).1) × In t (f s k).0
each_at f g [] n t i = absurd i
each_at f g (s ∷ ss) n t i = elim (in_either t (f s n).0 (each f ss (f s n).1).0 i) [
  | inl j ↦ (s, inl refl, n, omega arith, each_grows f g ss (f s n).1, j)
  | inr j ↦ let r = each_at f g ss (f s n).1 t j in (r.0, inr r.1, r.2, (let l = g s n in let q = r.3 in omega (arith, l, q)), r.4, r.5)
]

-- ---- one statement

module _ (d : Design) (level : ℕ) (base : List Param) where
  abbrev T : TermWorld
  T = term_world level d

  -- an expression in a state that has not sent, beside the path
  value_rel : (vars : List Param) (pairs : Pairing) (n : ℕ) (p : Path) (s : State) → VarsRel pairs n base vars p.vars s.vars → FieldsRel pairs n d.headers p.fields s.fields → (t : _) (e : Expr) → HasType (scope_at d level vars true) t e
      → Rel pairs n (replaced p e) (term_of (term_context d) s.vars s.fields e)
  value_rel vars pairs n p s v f t e h =
      expr_rel pairs n base (everywhere (scope_at d level vars true)) (term_context d) (λ P. calls_made P d) refl p s.vars s.fields v f t e (typed_everywhere (scope_at d level vars true) t e h)

  values_rel : (vars : List Param) (pairs : Pairing) (n : ℕ) (p : Path) (s : State) → VarsRel pairs n base vars p.vars s.vars → FieldsRel pairs n d.headers p.fields s.fields → (ws : List ℕ) (es : Exprs) → HaveWidths (scope_at d level vars true) ws es
      → AllRel pairs n (list_of (all_replaced p es)) (terms_of (term_context d) s.vars s.fields es)
  values_rel vars pairs n p s v f ws es h =
      exprs_rel pairs n base (everywhere (scope_at d level vars true)) (term_context d) (λ P. calls_made P d) refl p s.vars s.fields v f ws es (all_typed_everywhere (scope_at d level vars true) ws es h)

  vars_of : (vars : List Param) (pairs : Pairing) (n : ℕ) (p : Path) (s : State) → s.sent ≡ None → Sim d base vars pairs n p s → VarsRel pairs n base vars p.vars s.vars
  vars_of vars pairs n p s none h = subst (VarsWhere pairs n base vars p s) none h.vars_are

  -- a condition is met
  true_sim : (vars : List Param) (pairs : Pairing) (n : ℕ) (p : Path) (s : State) (e : Expr) (t : Term) → s.sent ≡ None → Sim d base vars pairs n p s → Rel pairs n (replaced p e) t → Sim d base vars pairs n (meets e p) (where_true t s)
  true_sim vars pairs n p s e t none h r = record {
    vars_are = h.vars_are;
    fields_are = h.fields_are;
    tokens = h.tokens;
    inputs = h.inputs;
    numbers = h.numbers;
    clear = λ a i j o q. (h.clear a i j (or_right (occurs a (replaced p e)) (list_any (occurs a) p.conditions) o) q, r.clear a i j (or_left (occurs a (replaced p e)) (list_any (occurs a) p.conditions) o));
    below = (h.below, r.below);
    sent_are = h.sent_are;
  }

  -- an `if` takes a branch
  branch_sim : (b : Bool) (vars : List Param) (pairs : Pairing) (n : ℕ) (p : Path) (s : State) (e : Expr) (t : Term) → s.sent ≡ None → Sim d base vars pairs n p s → Rel pairs n (replaced p e) t → Sim d base vars pairs n (meets e p) (in_branch b t s)
  branch_sim true vars pairs n p s e t none h r = let k = true_sim vars pairs n p s e t none h r in record { vars_are = k.vars_are; fields_are = k.fields_are; tokens = k.tokens; inputs = k.inputs; numbers = k.numbers; clear = k.clear; below = k.below; sent_are = k.sent_are }
  branch_sim false vars pairs n p s e t none h r = let k = true_sim vars pairs n p s e t none h r in record { vars_are = k.vars_are; fields_are = k.fields_are; tokens = k.tokens; inputs = k.inputs; numbers = k.numbers; clear = k.clear; below = k.below; sent_are = k.sent_are }

  chosen_alone : (a b : ℕ) (i : NewInput) (pairs : Pairing) → is_choice_at b (choice a) ≡ true → (j : NewInput) × In (b, j) ((a, i) ∷ pairs) × (input_term i ≡ input_term j)
  chosen_alone a b i pairs h =
      let e : b ≡ a = same_number b a (both_true (b == a) true h).0 in
      (i, inl (λ k. (e k, i)), refl)

  chosen_occurs : (a : ℕ) → occurs a (choice a) ≡ true
  chosen_occurs a = ap (λ b. (b && true) || false) (same_self a)

  less_differ : (k m : ℕ) → k < m → m ≡ k → ⊥
  less_differ k m l e = omega (arith, l, e)

  -- a choice, as an expression and as a term
  choice_rel : (pairs : Pairing) (n m : ℕ) (a : ℕ) (i : NewInput) → i.number ≡ m → n ≤ m → ((b : ℕ) (j : NewInput) → In (b, j) pairs → j.number < n) → Rel ((a, i) ∷ pairs) (suc m) (choice a) (input_term i)
  choice_rel pairs n m a i e l numbers = record {
    clear = λ b j h o. elim h [
      | inl same ↦ absurd (let f : true ≡ false = sym (chosen_occurs a) ∙ ap (λ (x : ℕ × NewInput). occurs x.0 (choice a)) (sym same) ∙ o in cc)
      | inr k ↦ λ q. less_differ j.number i.number (less_wider j.number n i.number (numbers b j k) (let z : i.number ≡ m = e in omega (arith, z, l))) q
    ];
    alone = λ b h. chosen_alone a b i pairs h;
    below = omega (arith, e);
  }

  -- one more choice
  chosen_sim : (vars after : List Param) (pairs : Pairing) (n m : ℕ) (p q : Path) (s t : State) (a : ℕ) (i : NewInput) → i.number ≡ m → n ≤ m → Sim d base vars pairs n p s
      → VarsWhere ((a, i) ∷ pairs) (suc m) base after q t t.sent → FieldsRel ((a, i) ∷ pairs) (suc m) d.headers q.fields t.fields
      → q.choices ≡ a ∷ p.choices → t.choices ≡ s.choices ++ i ∷ [] → q.conditions ≡ p.conditions → t.cond ≡ s.cond → q.sent ≡ p.sent → t.sent ≡ s.sent → Sim d base after ((a, i) ∷ pairs) (suc m) q t
  chosen_sim vars after pairs n m p q s t a i e l h vars_are fields_are choices inputs conditions cond_is psent ssent =
      let x = one_pair pairs n m a i e l in
      record {
        vars_are = vars_are;
        fields_are = fields_are;
        tokens = choices ∙ ap (λ xs. a ∷ xs) h.tokens;
        inputs = λ j k. elim (in_either j s.choices (i ∷ []) (subst (In j) inputs k)) [
          | inl y ↦ let r = h.inputs j y in (r.0, inr r.1)
          | inr y ↦ elim y [ inl same ↦ (a, inl (λ z. (a, same z))) | inr none ↦ absurd none ]
        ];
        numbers = λ b j k. elim k [
          | inl same ↦ (let z : j.number ≡ i.number = ap (λ (y : ℕ × NewInput). y.1.number) same in omega (arith, z, e))
          | inr y ↦ (let z = h.numbers b j y in omega (arith, z, l))
        ];
        clear = λ b j k o y. subst (Made (Other j)) (sym cond_is) (elim k [
          | inl same ↦ made_other n j (let z : j.number ≡ i.number = ap (λ (y : ℕ × NewInput). y.1.number) same in omega (arith, z, e, l)) s.cond h.below
          | inr z ↦ h.clear b j z (ap (list_any (occurs b)) (sym conditions) ∙ o) (subst (SentClear b) psent y)
        ]);
        below = subst (Made (Below (suc m))) (sym cond_is) (made_below n (suc m) (omega (arith, l)) s.cond h.below);
        sent_are = subst (λ o. SentRel ((a, i) ∷ pairs) (suc m) o t.sent) (sym psent) (subst (SentRel ((a, i) ∷ pairs) (suc m) p.sent) (sym ssent) (sent_more pairs n ((a, i) ∷ pairs) (suc m) x p.sent s.sent h.sent_are));
      }

  straight : (vars : List Param) (p : Path) (t : State) (pairs : Pairing) (n m : ℕ) → n ≤ m → Sim d base vars pairs n p t → Reached d base vars (p ∷ []) t pairs n m
  straight vars p t pairs n m l h = record { path = p; within = inl refl; more = pairs; extends = same_pairs pairs n m l; sim = sim_wider d base vars pairs n m p t l h }

  -- a state that is the only one
  of_one : (P : State → Type 0) (z t : State) → In t (z ∷ []) → P z → P t
  of_one P z t i h = elim i [ inl e ↦ subst P (sym e) h | inr l ↦ absurd l ]

  -- back behind a branch
  back_reached : (vars inside : List Param) (ps : List Path) (pairs : Pairing) (n next last : ℕ) (p : Path) (s t : State) → s.sent ≡ None → Sim d base vars pairs n p s → next ≤ last
      → Reached d base inside ps t pairs n next → Reached d base vars (map (leaves p.vars) ps) (states.back_to s.vars t) pairs n last
  back_reached vars inside ps pairs n next last p s t none h l r =
      let w = sim_wider d base inside r.more next last r.path t l r.sim in
      let x = extends_join pairs n r.more next r.more last r.extends (same_pairs r.more next last l) in
      record {
        path = leaves p.vars r.path;
        within = in_map (leaves p.vars) r.path ps r.within;
        more = r.more;
        extends = x;
        sim = record {
          vars_are = by r.more last t.sent (vars_more pairs n r.more last x base vars p.vars s.vars (vars_of vars pairs n p s none h));
          fields_are = w.fields_are;
          tokens = w.tokens;
          inputs = w.inputs;
          numbers = w.numbers;
          clear = w.clear;
          below = w.below;
          sent_are = w.sent_are;
        };
      }
    where
      by : (pairs : Pairing) (k : ℕ) (o : Option Place) → VarsRel pairs k base vars p.vars s.vars → VarsWhere pairs k base vars (leaves p.vars r.path) (states.back_to s.vars t) o
      by pairs k None v = v
      by pairs k (Some at) v = tt

  reached_left : (vars : List Param) (ps qs : List Path) (t : State) (pairs : Pairing) (n next : ℕ) → Reached d base vars ps t pairs n next → Reached d base vars (ps ++ qs) t pairs n next
  reached_left vars ps qs t pairs n next r = record { path = r.path; within = in_left r.path ps qs r.within; more = r.more; extends = r.extends; sim = r.sim }

  reached_right : (vars : List Param) (ps qs : List Path) (t : State) (pairs : Pairing) (n next : ℕ) → Reached d base vars qs t pairs n next → Reached d base vars (ps ++ qs) t pairs n next
  reached_right vars ps qs t pairs n next r = record { path = r.path; within = in_right r.path ps qs r.within; more = r.more; extends = r.extends; sim = r.sim }

  sent_same : (vars after : List Param) (pairs : Pairing) (n : ℕ) (p : Path) (s : State) (at : Place) → s.sent ≡ Some at → Sim d base vars pairs n p s → Sim d base after pairs n p s
  sent_same vars after pairs n p s at e h = record {
    vars_are = subst (VarsWhere pairs n base after p s) (sym e) tt;
    fields_are = h.fields_are;
    tokens = h.tokens;
    inputs = h.inputs;
    numbers = h.numbers;
    clear = h.clear;
    below = h.below;
    sent_are = h.sent_are;
  }

  path_sent : (f : Path → List Path) (p : Path) (es : List Expr) → p.sent ≡ Some es → unless_sent f p ≡ p ∷ []
  path_sent f p es e = ap (λ (o : Option (List Expr)). elim o as (λ x. List Path) [ None ↦ f p | Some xs ↦ p ∷ [] ]) e

  path_unsent : (f : Path → List Path) (p : Path) → p.sent ≡ None → unless_sent f p ≡ f p
  path_unsent f p e = ap (λ (o : Option (List Expr)). elim o as (λ x. List Path) [ None ↦ f p | Some xs ↦ p ∷ [] ]) e

  -- a variable is chosen
  chosen_start : (a : ℕ) (x : List ℕ) (c : NewInput) (vars : List Param) (s : State) → s.sent ≡ None → (pairs : Pairing) (n m : ℕ) (p : Path) → Sim d base vars pairs n p s → n ≤ m → (v : Param) → v.name.text ≡ x → c.number ≡ m
      → Sim d base (v ∷ vars) ((a, c) ∷ pairs) (suc m) (with_var_as v.name (choice a) (chooses a p)) (chosen_as x c s)
  chosen_start a x c vars s none pairs n m p k l v named e =
      let x_ = one_pair pairs n m a c e l in
      let r = choice_rel pairs n m a c e l k.numbers in
      let before = vars_more pairs n ((a, c) ∷ pairs) (suc m) x_ base vars p.vars s.vars (vars_of vars pairs n p s none k) in
      chosen_sim vars (v ∷ vars) pairs n m p (with_var_as v.name (choice a) (chooses a p)) s (chosen_as x c s) a c e l k
      (subst (VarsWhere ((a, c) ∷ pairs) (suc m) base (v ∷ vars) (with_var_as v.name (choice a) (chooses a p)) (chosen_as x c s)) (sym none) (refl, sym named, r, before))
      (fields_more pairs n ((a, c) ∷ pairs) (suc m) x_ d.headers p.fields s.fields k.fields_are)
      refl refl refl refl refl refl

  chosen_reached : (a : ℕ) (x : List ℕ) (c : NewInput) (vars : List Param) (s : State) → s.sent ≡ None → (pairs : Pairing) (n m : ℕ) (p : Path) → Sim d base vars pairs n p s → n ≤ m → (v : Param) → v.name.text ≡ x → c.number ≡ m
      → Reached d base (v ∷ vars) (with_var_as v.name (choice a) (chooses a p) ∷ []) (chosen_as x c s) pairs n (suc m)
  chosen_reached a x c vars s none pairs n m p k l v named e = record {
    path = with_var_as v.name (choice a) (chooses a p);
    within = inl refl;
    more = (a, c) ∷ pairs;
    extends = one_pair pairs n m a c e l;
    sim = chosen_start a x c vars s none pairs n m p k l v named e;
  }

  sent_place : (o : Option Place) → is_some o ≡ true → (at : Place) × (o ≡ Some at)
  sent_place None h = absurd (cc)
  sent_place (Some at) h = (at, refl)

  state_unsent : (f : State → ℕ → Followed) (s : State) (n : ℕ) → s.sent ≡ None → following.unless_sent f s n ≡ f s n
  state_unsent f s n p = ap (λ (o : Option Place). elim o as (λ x. Followed) [ None ↦ f s n | Some to ↦ one s n ]) p

  -- what comes of a block that begins in one state
  abbrev FromOne : Block → (vars after : List Param) → List State → (m : ℕ) → State → (next : ℕ) → Type 0
  FromOne b vars after ss m t next =
      (s : State) × In s ss × ((p : Path) (pairs : Pairing) (n : ℕ) → n ≤ m → Sim d base vars pairs n p s → Reached d base after (unless_sent (paths_in b) p) t pairs n next)

  from_one : (b : Block) (vars after : List Param) (s : State) → s.sent ≡ None → (m : ℕ) (t : State) (next : ℕ) → FromOne b vars after (s ∷ []) m t next
      → (p : Path) (pairs : Pairing) (n : ℕ) → n ≤ m → Sim d base vars pairs n p s → Reached d base after (paths_in b p) t pairs n next
  from_one b vars after s none m t next r p pairs n l k =
      let same : r.0 ≡ s = elim r.1 [ inl e ↦ e | inr other ↦ absurd other ] in
      subst (λ ps. Reached d base after ps t pairs n next) (path_unsent (paths_in b) p (none_sent pairs n p.sent s.sent none k.sent_are))
      (r.2 p pairs n l (subst (Sim d base vars pairs n p) (sym same) k))

  mutual
    stmt_sim : (x : Stmt) (vars : List Param) → IsTypedStmt (scope_at d level vars true) x → (s : State) → s.sent ≡ None → (m : ℕ) (t : State) → In t (follow T x s m).0
        → (p : Path) (pairs : Pairing) (n : ℕ) → n ≤ m → Sim d base vars pairs n p s → Reached d base (after_vars x vars) (paths x p) t pairs n (follow T x s m).1
    stmt_sim (let_ at x w e) vars h s none m t i p pairs n l k =
        let u = term_at T s e in
        let z = states.with_variable x.text u s in
        let v = vars_of vars pairs n p s none k in
        let q = with_var_as x (replaced p e) p in
        let more = record { name = x; width = w } ∷ vars in
        of_one (λ y. Reached d base more (q ∷ []) y pairs n m) z t i
        (straight more q z pairs n m l (record {
          vars_are = subst (VarsWhere pairs n base more q z) (sym none) (refl, refl, value_rel vars pairs n p s v k.fields_are (bits_sort w) e h.1, v);
          fields_are = k.fields_are;
          tokens = k.tokens;
          inputs = k.inputs;
          numbers = k.numbers;
          clear = k.clear;
          below = k.below;
          sent_are = k.sent_are;
        }))
    stmt_sim (set_field at x f e) vars h s none m t i p pairs n l k =
        let u = term_at T s e in
        let z = states.with_field d.headers x.text f.text u s in
        let v = vars_of vars pairs n p s none k in
        let q = with_field_as x f (replaced p e) p in
        of_one (λ y. Reached d base vars (q ∷ []) y pairs n m) z t i
        (straight vars q z pairs n m l (record {
          vars_are = k.vars_are;
          fields_are = set_rel pairs n d.headers p.fields s.fields k.fields_are x f h.0 h.1 (replaced p e) u (value_rel vars pairs n p s v k.fields_are (bits_sort h.0) e h.2);
          tokens = k.tokens;
          inputs = k.inputs;
          numbers = k.numbers;
          clear = k.clear;
          below = k.below;
          sent_are = k.sent_are;
        }))
    stmt_sim (if_ at e first second) vars h s none m t i p pairs n l k =
        let u = term_at T s e in
        let yes = in_branch true u s in
        let other = in_branch false u s in
        let A = follow_all T first (one yes m) in
        let B = follow_all T second (one other A.1) in
        let v = vars_of vars pairs n p s none k in
        let r = value_rel vars pairs n p s v k.fields_are truth_sort e h.0 in
        let up = block_grows T first (yes ∷ []) m in
        let on = block_grows T second (other ∷ []) A.1 in
        let g = map_in (states.back_to s.vars) t (A.0 ++ B.0) i in
        let ps = map (leaves p.vars) (paths_in first (meets e p)) in
        let qs = map (leaves p.vars) (paths_in second (meets e p)) in
        subst (λ y. Reached d base vars (ps ++ qs) y pairs n B.1) (sym g.2) (elim (in_either g.0 A.0 B.0 g.1) [
          | inl j ↦ reached_left vars ps qs (states.back_to s.vars g.0) pairs n B.1
              (back_reached vars (block_vars first vars) (paths_in first (meets e p)) pairs n A.1 B.1 p s g.0 none k on
              (from_one first vars (block_vars first vars) yes none m g.0 A.1 (block_sim first vars h.1 (yes ∷ []) m g.0 j) (meets e p) pairs n l (branch_sim true vars pairs n p s e u none k r)))
          | inr j ↦ reached_right vars ps qs (states.back_to s.vars g.0) pairs n B.1
              (back_reached vars (block_vars second vars) (paths_in second (meets e p)) pairs n B.1 B.1 p s g.0 none k (omega arith)
              (from_one second vars (block_vars second vars) other none A.1 g.0 B.1 (block_sim second vars h.2 (other ∷ []) A.1 g.0 j) (meets e p) pairs n (omega (arith, l, up)) (branch_sim false vars pairs n p s e u none k r)))
        ])
    stmt_sim (filter at e) vars h s none m t i p pairs n l k =
        let v = vars_of vars pairs n p s none k in
        of_one (λ y. Reached d base vars (meets e p ∷ []) y pairs n m) (where_true (term_at T s e) s) t i
        (straight vars (meets e p) (where_true (term_at T s e) s) pairs n m l (true_sim vars pairs n p s e (term_at T s e) none k (value_rel vars pairs n p s v k.fields_are truth_sort e h)))
    stmt_sim (havoc_var at x w) vars h s none m t i p pairs n l k =
        let c = next_input m w in
        let z = chosen_as x.text c s in
        let q = with_var_as x (choice at) (chooses at p) in
        let more : List Param = record { name = x; width = w } ∷ vars in
        of_one (λ y. Reached d base more (q ∷ []) y pairs n (suc m)) z t i (chosen_reached at x.text c vars s none pairs n m p k l (record { name = x; width = w }) refl refl)
    stmt_sim (havoc_field at x f) vars h s none m t i p pairs n l k =
        let c = next_input m (choice_width d.headers x.text f.text) in
        let z = states.with_choice c (states.with_field d.headers x.text f.text (input_term c) s) in
        let q = with_field_as x f (choice at) (chooses at p) in
        let e = one_pair pairs n m at c refl l in
        let r = choice_rel pairs n m at c refl l k.numbers in
        let v = vars_of vars pairs n p s none k in
        of_one (λ y. Reached d base vars (q ∷ []) y pairs n (suc m)) z t i (record {
          path = q;
          within = inl refl;
          more = (at, c) ∷ pairs;
          extends = e;
          sim = chosen_sim vars vars pairs n m p q s z at c refl l k
              (subst (VarsWhere ((at, c) ∷ pairs) (suc m) base vars q z) (sym none) (vars_more pairs n ((at, c) ∷ pairs) (suc m) e base vars p.vars s.vars v))
              (set_rel ((at, c) ∷ pairs) (suc m) d.headers p.fields s.fields (fields_more pairs n ((at, c) ∷ pairs) (suc m) e d.headers p.fields s.fields k.fields_are) x f h.0 h.1 (choice at) (input_term c) r)
              refl refl refl refl refl refl;
        })
    stmt_sim (assume at e) vars h s none m t i p pairs n l k =
        let v = vars_of vars pairs n p s none k in
        of_one (λ y. Reached d base vars (meets e p ∷ []) y pairs n m) (where_true (term_at T s e) s) t i
        (straight vars (meets e p) (where_true (term_at T s e) s) pairs n m l (true_sim vars pairs n p s e (term_at T s e) none k (value_rel vars pairs n p s v k.fields_are truth_sort e h)))
    stmt_sim (fork at x w e body) vars h s none m t i p pairs n l k =
        let c = next_input m w in
        let z = chosen_as x.text c s in
        let q = with_var_as x (choice at) (chooses at p) in
        let more : List Param = record { name = x; width = w } ∷ vars in
        let all = follow_all T body (one (where_true (term_at T z e) z) (suc m)) in
        let a = passed has_sent all.0 t i in
        let sim : Sim d base more ((at, c) ∷ pairs) (suc m) q z = chosen_start at x.text c vars s none pairs n m p k l (record { name = x; width = w }) refl refl in
        let v = vars_of more ((at, c) ∷ pairs) (suc m) q z none sim in
        let y = where_true (term_at T z e) z in
        let b = from_one body more (block_vars body more) y none (suc m) t all.1 (block_sim body more h.2 (y ∷ []) (suc m) t a.0) (meets e q) ((at, c) ∷ pairs) (suc m) (omega arith)
        (true_sim more ((at, c) ∷ pairs) (suc m) q z e (term_at T z e) none sim (value_rel more ((at, c) ∷ pairs) (suc m) q z v sim.fields_are truth_sort e h.1)) in
        let has = some_sent b.more all.1 b.path.sent t.sent a.1 b.sim.sent_are in
        let to = sent_place t.sent a.1 in
        record {
          path = b.path;
          within = kept_in (λ (y : Path). is_some y.sent) (paths_in body (meets e q)) b.path b.within (ap (λ (o : Option (List Expr)). is_some o) has.1);
          more = b.more;
          extends = extends_join pairs n ((at, c) ∷ pairs) (suc m) b.more all.1 (one_pair pairs n m at c refl l) b.extends;
          sim = sent_same (block_vars body more) vars b.more all.1 b.path t to.0 to.1 b.sim;
        }
    stmt_sim (send at r es) vars h s none m t i p pairs n l k =
        let to : Place = record { role = r.text; values = terms_of (term_context d) s.vars s.fields es } in
        let z = sends_to T to s in
        let q = record p { sent = Some (list_of (all_replaced p es)) } in
        let v = vars_of vars pairs n p s none k in
        let rel = values_rel vars pairs n p s v k.fields_are (widths_of h.0.params) es h.2 in
        of_one (λ y. Reached d base vars (q ∷ []) y pairs n m) z t i
        (straight vars q z pairs n m l (record {
          vars_are = tt;
          fields_are = k.fields_are;
          tokens = k.tokens;
          inputs = k.inputs;
          numbers = k.numbers;
          clear = λ a j y o c. (
            k.clear a j y o (subst (SentClear a) (sym (none_sent pairs n p.sent s.sent none k.sent_are)) tt),
            guard_made (Other j) d level to (all_clear pairs n (list_of (all_replaced p es)) to.values rel a j y c),
          );
          below = (k.below, guard_made (Below n) d level to (all_below pairs n (list_of (all_replaced p es)) to.values rel));
          sent_are = rel;
        }))

    -- a block, from states of which each has its path
    pub block_sim : (b : Block) (vars : List Param) → IsTyped (scope_at d level vars true) b → (ss : List State) (m : ℕ) (t : State) → In t (follow_all T b (ss, m)).0
        → (s : State) × In s ss × ((p : Path) (pairs : Pairing) (n : ℕ) → n ≤ m → Sim d base vars pairs n p s → Reached d base (block_vars b vars) (unless_sent (paths_in b) p) t pairs n (follow_all T b (ss, m)).1)
    block_sim no_stmts vars h ss m t i = (t, i, λ p pairs n l k. itself p pairs n l k p.sent refl)
      where
        itself : (p : Path) (pairs : Pairing) (n : ℕ) → n ≤ m → Sim d base vars pairs n p t → (o : Option (List Expr)) → p.sent ≡ o → Reached d base vars (unless_sent (paths_in no_stmts) p) t pairs n m
        itself p pairs n l k None e = subst (λ ps. Reached d base vars ps t pairs n m) (sym (path_unsent (paths_in no_stmts) p e)) (straight vars p t pairs n m l k)
        itself p pairs n l k (Some es) e = subst (λ ps. Reached d base vars ps t pairs n m) (sym (path_sent (paths_in no_stmts) p es e)) (straight vars p t pairs n m l k)
    block_sim (stmt x rest) vars h ss m t i =
        let f = following.unless_sent (follow T x) in
        let mids = each f ss m in
        let mid = after_vars x vars in
        let later : IsTyped (scope_at d level mid true) rest = subst (λ y. IsTyped y rest) (after_scope x (scope_at d level vars true)) h.1 in
        let r = block_sim rest mid later mids.0 mids.1 t i in
        let g = each_at f (followed_grows T x) ss m r.0 r.1 in (
          g.0,
          g.1,
          λ p pairs n l k. elim (unless_in (follow T x) g.0 g.2 r.0 g.5) [
            | inl j ↦
                let none = none_sent pairs n p.sent g.0.sent j.0 k.sent_are in
                let one_step = stmt_sim x vars h.0 g.0 j.0 g.2 r.0 j.1 p pairs n (let q = g.3 in omega (arith, l, q)) k in
                let up : (follow T x g.0 g.2).1 ≤ mids.1 = subst (λ (y : Followed). y.1 ≤ mids.1) (state_unsent (follow T x) g.0 g.2 j.0) g.4 in
                let two = r.2 one_step.path one_step.more (follow T x g.0 g.2).1 up one_step.sim in
                subst (λ ps. Reached d base (block_vars rest mid) ps t pairs n (follow_all T rest mids).1) (sym (path_unsent (paths_in (stmt x rest)) p none)) (record {
                  path = two.path;
                  within = in_flat (unless_sent (paths_in rest)) one_step.path (paths x p) two.path one_step.within two.within;
                  more = two.more;
                  extends = extends_join pairs n one_step.more (follow T x g.0 g.2).1 two.more (follow_all T rest mids).1 one_step.extends two.extends;
                  sim = two.sim;
                })
            | inr j ↦
                let has = some_sent pairs n p.sent g.0.sent (ap (λ (o : Option Place). is_some o) j.1) k.sent_are in
                let up : n ≤ mids.1 = (let q = each_grows f (followed_grows T x) ss m in omega (arith, l, q)) in
                let two = r.2 p pairs n up (subst (Sim d base mid pairs n p) (sym j.2) (sent_same vars mid pairs n p g.0 j.0 j.1 k)) in
                subst (λ ps. Reached d base (block_vars rest mid) ps t pairs n (follow_all T rest mids).1) (path_sent (paths_in rest) p has.0 has.1 ∙ sym (path_sent (paths_in (stmt x rest)) p has.0 has.1)) two
          ],
        )
