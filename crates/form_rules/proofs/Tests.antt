-- Tests on lists of states, as the loops over them meet them.
use Rattle.std.specs.Prelude.{◌≡◌, ℕ, ◌<◌, ◌&&◌, ◌||◌, Bool, true, false, List, [], ◌∷◌, ◌++◌, cond, map, length, get_or, refl}
use Rattle.std.specs.List.{list_any, dedup, dedup_from}
use Rattle.std.specs.Bool.{beq, Decides}
use Rattle.std.specs.Cmp.Lexicographic.{pointwise}
use Rattle.std.proofs.Common.{sym, ◌∙◌, ap, ap₂}
use Rattle.std.proofs.lemmas.Bool.{and_parts}
use Rattle.std.proofs.lemmas.Slice.Eq.{slice_eq-Decides}
use Rattle.form_rules.specs.declared.state.Held.{Held}
use Rattle.std.proofs.Math.Bool.{or-false}
use Rattle.std.proofs.lemmas.List.Folds.{list_any-append, list_any_at}
use Rattle.form_rules.specs.declared.state.State.{State}
use Rattle.form_rules.specs.Following.{Holding}
use Rattle.form_rules.specs.Steps.{holding_of, some_holds}
use Rattle.form_rules.proofs.Lists.{either, crossed, any_map}

doubled : (a b c : Bool) → a ≡ b → (a || c) ≡ (a || (b || c))
doubled true b c h = refl
doubled false true c h = absurd cc
doubled false false c h = refl

or_true : (a : Bool) → true ≡ (a || true)
or_true true = refl
or_true false = refl

pub kept : (a b : Bool) → (b ≡ true → a ≡ true) → a ≡ (a || b)
kept true b h = refl
kept false true h = absurd (let e : false ≡ true = h refl in cc)
kept false false h = refl

pub some_append : (t : Holding → Bool) (xs ys : List State) → some_holds t (xs ++ ys) ≡ (some_holds t xs || some_holds t ys)
some_append t xs ys = list_any-append (λ (s : State). t (holding_of s)) xs ys

pub some_push : (t : Holding → Bool) (xs : List State) (s : State) → some_holds t (xs ++ (s ∷ [])) ≡ (some_holds t xs || t (holding_of s))
some_push t xs s = some_append t xs (s ∷ []) ∙ ap (either (some_holds t xs)) (or-false (t (holding_of s)))

-- a state that is there passes for all that are equal to it
pub some_there : (t : Holding → Bool) (xs : List State) (i : ℕ) (s : State) (h : Holding) → i < length xs → s ≡ get_or xs i s → h ≡ holding_of s → t h ≡ true → some_holds t xs ≡ true
some_there t xs i s h below is same holds =
    list_any_at (λ (x : State). t (holding_of x)) xs i s below (ap (λ (x : State). t (holding_of x)) (sym is) ∙ ap t (sym same) ∙ holds)

-- one of the tests passes
pub some_either : (f g : Holding → Bool) (ss : List State) → some_holds (λ s. f s || g s) ss ≡ (some_holds f ss || some_holds g ss)
some_either f g [] = refl
some_either f g (s ∷ ss) = ap (either (f (holding_of s) || g (holding_of s))) (some_either f g ss) ∙ crossed (f (holding_of s)) (g (holding_of s)) (some_holds f ss) (some_holds g ss)

pub none_holds : (ss : List State) → some_holds (λ s. false) ss ≡ false
none_holds [] = refl
none_holds (s ∷ ss) = none_holds ss

taken_out : (a b c : Bool) → ((a || b) || c) ≡ (a || (c || b))
taken_out true b c = refl
taken_out false true c = or_true c
taken_out false false c = sym (or-false c)

-- one state is taken from a list, and another is put into a second one
pub one_more : (t u : Holding → Bool) (found new before rest : List State) (state : State) (h : Holding) → before ≡ rest ++ (state ∷ []) → some_holds t new ≡ (some_holds t found || t h) → t h ≡ u (holding_of state) →
    (some_holds t new || some_holds u rest) ≡ (some_holds t found || some_holds u before)
one_more t u found new before rest state h last pushed same =
    ap (λ b. b || some_holds u rest) pushed
    ∙ taken_out (some_holds t found) (t h) (some_holds u rest)
    ∙ ap (λ b. some_holds t found || (some_holds u rest || b)) same
    ∙ ap (either (some_holds t found)) (sym (some_push u rest state) ∙ ap (some_holds u) (sym last))

pub same_tests : (t : Holding → Bool) (xs ys : List State) → map holding_of xs ≡ map holding_of ys → some_holds t xs ≡ some_holds t ys
same_tests t xs ys h = sym (any_map t holding_of xs) ∙ ap (list_any t) h ∙ any_map t holding_of ys

-- ---- each state once

-- two truth values that are found equal
same_bools : (a b : Bool) → beq a b ≡ true → a ≡ b
same_bools true true h = refl
same_bools false false h = refl
same_bools true false h = absurd cc
same_bools false true h = absurd cc

-- two states that are found equal, as the derived `==` compares them
pub same_states : (E : Held → Held → Bool) → ((a b : Held) → Decides (E a b) (a ≡ b)) → (x y : State) →
    (beq x.made y.made && (beq x.met y.met && (pointwise E x.fields.items y.fields.items && pointwise E x.vars.items y.vars.items))) ≡ true → holding_of x ≡ holding_of y
same_states E decides x y h =
    let made = and_parts (beq x.made y.made) (beq x.met y.met && (pointwise E x.fields.items y.fields.items && pointwise E x.vars.items y.vars.items)) h in
    let met = and_parts (beq x.met y.met) (pointwise E x.fields.items y.fields.items && pointwise E x.vars.items y.vars.items) made.1 in
    let both = and_parts (pointwise E x.fields.items y.fields.items) (pointwise E x.vars.items y.vars.items) met.1 in
    let fields : x.fields.items ≡ y.fields.items = (slice_eq-Decides decides x.fields.items y.fields.items (pointwise E x.fields.items y.fields.items) refl).0 both.0 in
    let vars : x.vars.items ≡ y.vars.items = (slice_eq-Decides decides x.vars.items y.vars.items (pointwise E x.vars.items y.vars.items) refl).0 both.1 in
    let put : Bool → Bool → List Held → List Held → Holding = λ a b fs vs. record { made = a; met = b; fields = fs; vars = vs } in
    ap₂ (λ (a b : Bool). put a b x.fields.items x.vars.items) (same_bools x.made y.made made.0) (same_bools x.met y.met met.0)
    ∙ ap₂ (λ (fs vs : List Held). put y.made y.met fs vs) fields vars

one_kept : (t : Holding → Bool) (k s : State) (b : Bool) (with_k with_s ss : List State) → (b ≡ true → holding_of s ≡ holding_of k) →
    some_holds t with_k ≡ (t (holding_of k) || some_holds t ss) → some_holds t with_s ≡ (t (holding_of s) || some_holds t ss) →
    some_holds t (cond b with_k (k ∷ with_s)) ≡ (t (holding_of k) || (t (holding_of s) || some_holds t ss))
one_kept t k s true with_k with_s ss same first second = first ∙ doubled (t (holding_of k)) (t (holding_of s)) (some_holds t ss) (ap t (sym (same refl)))
one_kept t k s false with_k with_s ss same first second = ap (either (t (holding_of k))) second

kept_once : (t : Holding → Bool) (E : State → State → Bool) → ((x y : State) → E x y ≡ true → holding_of x ≡ holding_of y) → (k : State) (ss : List State) → some_holds t (dedup_from E k ss) ≡ (t (holding_of k) || some_holds t ss)
kept_once t E same k [] = refl
kept_once t E same k (s ∷ ss) = one_kept t k s (E s k) (dedup_from E k ss) (dedup_from E s ss) ss (same s k) (kept_once t E same k ss) (kept_once t E same s ss)

pub each_once : (t : Holding → Bool) (E : State → State → Bool) → ((x y : State) → E x y ≡ true → holding_of x ≡ holding_of y) → (ss : List State) → some_holds t (dedup E ss) ≡ some_holds t ss
each_once t E same [] = refl
each_once t E same (s ∷ ss) = kept_once t E same s ss
