-- What a path holds of an expression, and the term that the expression stands for.
use Rattle.std.proofs.Common.{◌≡◌, ◌⊎◌, inl, inr, ℕ, ◌<◌, ◌≤◌, ◌||◌, List, [], ◌∷◌, ◌++◌, Bool, true, false, Some, if◌then◌else◌, refl, sym, ap, ◌∙◌, arith}
use Rattle.std.specs.List.{list_any}
use Rattle.std.proofs.lemmas.List.Folds.{list_any-append}
use Rattle.cocoon_num.specs.Names.{named, same_name}
use Rattle.cocoon_num.specs.Tree.{Param, Expr, name}
use Rattle.cocoon_types.specs.ReadBack.{Var, is_choice_at, occurs, var_value}
use Rattle.bv_terms.specs.TermTrees as term
use Rattle.bv_terms.specs.TermTrees.{Term, Args, no_args, arg}
use Rattle.obligation_laws.specs.TermOf.{TermEnv, variable_term}
use Rattle.sound_types.proofs.Members.{In}
use Rattle.obligation_laws.specs.States.{NewInput, input_term}
use Rattle.obligation_laws.specs.MadeOf.{AllMade, Made, MadeArgs, OfInputs}
use Rattle.obligation_laws.specs.ReadBackLeaves.{Other}

-- choices by token index, each with its input
abbrev pub Pairing : Type 0
Pairing = List (ℕ × NewInput)

abbrev pub Below : ℕ → OfInputs
Below n k w = k < n

-- An expression of a path and a term: inputs of choices that do not occur in the one are not named by the other; if the one is a
-- choice alone, the other is its input; and all inputs have smaller numbers than the next.
pub record Rel (pairs : Pairing) (n : ℕ) (e : Expr) (t : Term) : Type 0 where
  pub clear : (a : ℕ) (i : NewInput) → In (a, i) pairs → occurs a e ≡ false → Made (Other i) t
  pub alone : (a : ℕ) → is_choice_at a e ≡ true → (i : NewInput) × In (a, i) pairs × (t ≡ input_term i)
  pub below : Made (Below n) t

-- more pairs, whose inputs have numbers from the next on
pub record Extends (pairs : Pairing) (n : ℕ) (more : Pairing) (next : ℕ) : Type 0 where
  pub grows : n ≤ next
  pub keeps : (a : ℕ) (i : NewInput) → In (a, i) pairs → In (a, i) more
  pub new : (a : ℕ) (i : NewInput) → In (a, i) more → In (a, i) pairs ⊎ (n ≤ i.number)

mutual
  pub made_map : (P Q : OfInputs) → ((k w : ℕ) → P k w → Q k w) → (t : Term) → Made P t → Made Q t
  made_map P Q f (term.constant w n) h = tt
  made_map P Q f (term.input i w) h = f i w h
  made_map P Q f (term.apply g args w) h = made_map_args P Q f args h
  made_map P Q f (term.not_ a) h = made_map P Q f a h
  made_map P Q f (term.binary op a b) h = (made_map P Q f a h.0, made_map P Q f b h.1)
  made_map P Q f (term.slice a high low) h = made_map P Q f a h
  made_map P Q f (term.pick c a b) h = (made_map P Q f c h.0, made_map P Q f a h.1, made_map P Q f b h.2)

  made_map_args : (P Q : OfInputs) → ((k w : ℕ) → P k w → Q k w) → (ts : Args) → MadeArgs P ts → MadeArgs Q ts
  made_map_args P Q f no_args h = tt
  made_map_args P Q f (arg t ts) h = (made_map P Q f t h.0, made_map_args P Q f ts h.1)

pub all_map : (P Q : OfInputs) → ((k w : ℕ) → P k w → Q k w) → (ts : List Term) → AllMade P ts → AllMade Q ts
all_map P Q f [] h = tt
all_map P Q f (t ∷ ts) h = (made_map P Q f t h.0, all_map P Q f ts h.1)

smaller : (k n m : ℕ) → k < n → n ≤ m → k ≡ m → ⊥
smaller k n m h l e = omega (arith, h, l, e)

larger : (k n m : ℕ) → k < n → n ≤ m → k < m
larger k n m h l = omega (arith, h, l)

pub made_below : (n m : ℕ) → n ≤ m → (t : Term) → Made (Below n) t → Made (Below m) t
made_below n m l t h = made_map (Below n) (Below m) (λ k w p. larger k n m p l) t h

pub made_other : (n : ℕ) (i : NewInput) → n ≤ i.number → (t : Term) → Made (Below n) t → Made (Other i) t
made_other n i l t h = made_map (Below n) (Other i) (λ k w p. smaller k n i.number p l) t h

pub rel_more : (pairs : Pairing) (n : ℕ) (more : Pairing) (next : ℕ) → Extends pairs n more next → (e : Expr) (t : Term) → Rel pairs n e t → Rel more next e t
rel_more pairs n more next x e t h = record {
  clear = λ a i j o. elim (x.new a i j) [ inl k ↦ h.clear a i k o | inr l ↦ made_other n i l t h.below ];
  alone = λ a q. let r = h.alone a q in (r.0, x.keeps a r.0 r.1, r.2);
  below = made_below n next x.grows t h.below;
}

-- ---- occurrences in parts

or_left : (a b : Bool) → (a || b) ≡ false → a ≡ false
or_left true b h = h
or_left false b h = refl

or_right : (a b : Bool) → (a || b) ≡ false → b ≡ false
or_right true b h = absurd (cc)
or_right false b h = h

pub front : (g : Expr → Bool) (xs ys : List Expr) → list_any g (xs ++ ys) ≡ false → list_any g xs ≡ false
front g xs ys h = or_left (list_any g xs) (list_any g ys) (sym (list_any-append g xs ys) ∙ h)

pub back : (g : Expr → Bool) (xs ys : List Expr) → list_any g (xs ++ ys) ≡ false → list_any g ys ≡ false
back g xs ys h = or_right (list_any g xs) (list_any g ys) (sym (list_any-append g xs ys) ∙ h)

-- ---- variables

-- the names that no path has set
abbrev pub BaseRel : Pairing → ℕ → List Param → TermEnv → Type 0
BaseRel pairs n base env = (at : ℕ) (x : List ℕ) (p : Param) → named (λ (q : Param). q.name) x base ≡ Some p → Rel pairs n (name at x) (variable_term env x)

abbrev pub VarsRel : Pairing → ℕ → (base : List Param) → List Param → List Var → TermEnv → Type 0
VarsRel pairs n base ps [] env = (ps ≡ base) × BaseRel pairs n base env
VarsRel pairs n base (p ∷ ps) (v ∷ vs) (b ∷ env) = (p.name.text ≡ v.name) × (b.0 ≡ v.name) × Rel pairs n v.value b.1 × VarsRel pairs n base ps vs env
VarsRel pairs n base [] (v ∷ vs) env = ⊥
VarsRel pairs n base (p ∷ ps) (v ∷ vs) [] = ⊥

pick_rel : (pairs : Pairing) (n : ℕ) (x : List ℕ) (p : Param) (ps : List Param) (a b c r : Bool) (e f : Expr) (t u : Term) → a ≡ r → b ≡ r → c ≡ r → Rel pairs n e t
    → ((q : Param) → named (λ (q : Param). q.name) x ps ≡ Some q → Rel pairs n f u) → (q : Param) → (if a then Some p else named (λ (q : Param). q.name) x ps) ≡ Some q
    → Rel pairs n (if b then e else f) (if c then t else u)
pick_rel pairs n x p ps true true true true e f t u i j k h l q is = h
pick_rel pairs n x p ps false false false false e f t u i j k h l q is = l q is
pick_rel pairs n x p ps false b c true e f t u i j k h l q is = absurd (cc)
pick_rel pairs n x p ps true false c true e f t u i j k h l q is = absurd (cc)
pick_rel pairs n x p ps true true false true e f t u i j k h l q is = absurd (cc)
pick_rel pairs n x p ps true b c false e f t u i j k h l q is = absurd (cc)
pick_rel pairs n x p ps false true c false e f t u i j k h l q is = absurd (cc)
pick_rel pairs n x p ps false false true false e f t u i j k h l q is = absurd (cc)

pub var_rel : (pairs : Pairing) (n : ℕ) (base ps : List Param) (vs : List Var) (env : TermEnv) → VarsRel pairs n base ps vs env → (at : ℕ) (x : List ℕ) (p : Param)
    → named (λ (q : Param). q.name) x ps ≡ Some p → Rel pairs n (var_value vs at x) (variable_term env x)
var_rel pairs n base ps [] env h at x p is = h.1 at x p (ap (named (λ (q : Param). q.name) x) (sym h.0) ∙ is)
var_rel pairs n base [] (v ∷ vs) env h at x p is = absurd h
var_rel pairs n base (q ∷ ps) (v ∷ vs) [] h at x p is = absurd h
var_rel pairs n base (q ∷ ps) (v ∷ vs) (b ∷ env) h at x p is =
    pick_rel pairs n x q ps (same_name x q.name.text) (same_name x v.name) (same_name x b.0) (same_name x v.name) v.value (var_value vs at x) b.1 (variable_term env x)
    (ap (same_name x) h.0) refl (ap (same_name x) h.1) h.2 (λ r. var_rel pairs n base ps vs env h.3 at x r) p is

pub vars_more : (pairs : Pairing) (n : ℕ) (more : Pairing) (next : ℕ) → Extends pairs n more next → (base ps : List Param) (vs : List Var) (env : TermEnv) → VarsRel pairs n base ps vs env → VarsRel more next base ps vs env
vars_more pairs n more next x base ps [] env h = (h.0, λ at y p is. rel_more pairs n more next x (name at y) (variable_term env y) (h.1 at y p is))
vars_more pairs n more next x base [] (v ∷ vs) env h = absurd h
vars_more pairs n more next x base (p ∷ ps) (v ∷ vs) [] h = absurd h
vars_more pairs n more next x base (p ∷ ps) (v ∷ vs) (b ∷ env) h = (h.0, h.1, rel_more pairs n more next x v.value b.1 h.2, vars_more pairs n more next x base ps vs env h.3)
