-- A call weighs what its form says: so much of its own, and each argument as often as the body has its parameter.
use Rattle.std.specs.Prelude.{◌≡◌, ℕ, zero, suc, ◌+◌, ◌*◌, Bool, true, false, List, [], ◌∷◌, ◌++◌, length, drop, slice_index, if◌then◌else◌, cond, Option, Some, None, refl}
use Rattle.std.proofs.Common.{sym, ◌∙◌, ap, arith}
use Rattle.cocoon_num.specs.Tree.{Expr, Param, FunctionDecl}
use Rattle.cocoon_num.specs.Names.{same_name}
use Rattle.cocoon_num.specs.Packets.{total}
use Rattle.cocoon_resolve.specs.Forms.{weight, argument_weight, call_weight, slot_weight, CallForm, plain, each_times, form_weight, table, slot_of_body, body_form, form_at}
use Rattle.cocoon_resolve.proofs.Weighing.{Relation, Sums, body_weight, related, calls_related}

-- ---- linear

-- a is k times b and c
abbrev Linear : ℕ → Relation
Linear k a b c = a ≡ k * b + c

linear_sums : (k : ℕ) → Sums (Linear k)
linear_sums k a b c d e f h g = omega arith

linear_none : (k : ℕ) → 0 ≡ k * 0 + 0
linear_none k = omega arith

-- an expression's weight is linear
linear : (fs : List FunctionDecl) (e : Expr) (k o p q : ℕ) (u v w : List ℕ → ℕ) → o ≡ k * p + q → ((x : List ℕ) → u x ≡ k * v x + w x)
    → weight o (call_weight o fs) u e ≡ k * weight p (call_weight p fs) v e + weight q (call_weight q fs) w e
linear fs e k o p q u v w h g =
    related (Linear k) (linear_sums k) o p q h (call_weight o fs) (call_weight p fs) (call_weight q fs)
    (calls_related (Linear k) (linear_sums k) (linear_none k) o p q h fs) u v w g e

-- where nothing weighs anything
abbrev nothing : List ℕ → ℕ
nothing x = 0

weightless : (fs : List FunctionDecl) (e : Expr) → weight 0 (call_weight 0 fs) nothing e ≡ 0
weightless fs e = no_twice _ (linear fs e 1 0 0 0 nothing nothing nothing refl (λ x. refl))
  where
    no_twice : (n : ℕ) → n ≡ 1 * n + n → n ≡ 0
    no_twice n h = omega arith

-- ---- parameter by parameter

-- a parameter weighs nothing
abbrev without : Param → (List ℕ → ℕ) → List ℕ → ℕ
without p v x = if same_name x p.name.text then 0 else v x

-- nor do any of these
abbrev hidden : List Param → (List ℕ → ℕ) → List ℕ → ℕ
hidden [] v = v
hidden (p ∷ hs) v = hidden hs (without p v)

hidden_linear : (hs : List Param) (k : ℕ) (u v w : List ℕ → ℕ) → ((x : List ℕ) → u x ≡ k * v x + w x) → (x : List ℕ) → hidden hs u x ≡ k * hidden hs v x + hidden hs w x
hidden_linear [] k u v w h x = h x
hidden_linear (p ∷ hs) k u v w h x = hidden_linear hs k (without p u) (without p v) (without p w) (λ y. by_name y (same_name y p.name.text)) x
  where
    by_name : (y : List ℕ) (b : Bool) → cond b 0 (u y) ≡ k * cond b 0 (v y) + cond b 0 (w y)
    by_name y true = omega arith
    by_name y false = h y

hidden_nothing : (hs : List Param) (x : List ℕ) → hidden hs nothing x ≡ 0
hidden_nothing hs x = no_twice _ (hidden_linear hs 1 nothing nothing nothing (λ y. refl) x)
  where
    no_twice : (n : ℕ) → n ≡ 1 * n + n → n ≡ 0
    no_twice n h = omega arith

-- a parameter with its argument, and the others
one_argument : (one n : ℕ) (p : Param) (ps : List Param) (ns x : List ℕ) → argument_weight one (p ∷ ps) (n ∷ ns) x ≡ n * slot_weight (p ∷ ps) 0 x + without p (argument_weight one ps ns) x
one_argument one n p ps ns x = by_name (same_name x p.name.text)
  where
    by_name : (b : Bool) → cond b n (argument_weight one ps ns x) ≡ n * cond b 1 0 + cond b 0 (argument_weight one ps ns x)
    by_name true = omega arith
    by_name false = omega arith

no_arguments : (one : ℕ) (ps : List Param) (x : List ℕ) → argument_weight one ps [] x ≡ one
no_arguments one [] x = refl
no_arguments one (p ∷ ps) x = refl

no_argument : (one : ℕ) (p : Param) (ps : List Param) (x : List ℕ) → argument_weight one (p ∷ ps) [] x ≡ one * slot_weight (p ∷ ps) 0 x + without p (argument_weight one ps []) x
no_argument one p ps x = by_name (same_name x p.name.text) ∙ ap (λ m. one * slot_weight (p ∷ ps) 0 x + cond (same_name x p.name.text) 0 m) (sym (no_arguments one ps x))
  where
    by_name : (b : Bool) → one ≡ one * cond b 1 0 + cond b 0 one
    by_name true = omega arith
    by_name false = omega arith

-- the arguments, each so often; those that are missing weigh `one`
abbrev given : (one : ℕ) → List ℕ → List ℕ → ℕ
given one ns [] = 0
given one [] (u ∷ us) = one * u + given one [] us
given one (n ∷ ns) (u ∷ us) = n * u + given one ns us

-- a table begins with its first value
table_front : (f : ℕ → ℕ) (n : ℕ) → table f (suc n) ≡ f 0 ∷ table (λ i. f (suc i)) n
table_front f zero = refl
table_front f (suc n) = ap (λ xs. xs ++ (f (suc n) ∷ [])) (table_front f n)

swapped : (a b c : ℕ) → a + (b + c) ≡ b + (a + c)
swapped a b c = omega arith

module _ (fs : List FunctionDecl) (e : Expr) where
  -- the expression's weight
  abbrev weighs : ℕ → (List ℕ → ℕ) → ℕ
  weighs one v = weight one (call_weight one fs) v e

  abbrev slot_at : List Param → List Param → ℕ → ℕ
  slot_at hs ps i = weighs 0 (hidden hs (slot_weight ps i))

  parts : (one : ℕ) (hs ps : List Param) (ns : List ℕ) → weighs one (hidden hs (argument_weight one ps ns)) ≡ one * weighs 1 (hidden hs (slot_weight ps (length ps))) + given one ns (table (slot_at hs ps) (length ps))
  parts one hs [] ns =
      linear fs e one one 1 0 (hidden hs (argument_weight one [] ns)) (hidden hs (slot_weight [] 0)) nothing (omega arith)
      (λ x. hidden_linear hs one (argument_weight one [] ns) (slot_weight [] 0) nothing (λ y. omega arith) x ∙ ap (λ m. one * hidden hs (slot_weight [] 0) x + m) (hidden_nothing hs x))
      ∙ ap (λ m. one * weighs 1 (hidden hs (slot_weight [] 0)) + m) (weightless fs e)
  parts one hs (p ∷ ps) [] =
      linear fs e one one 0 one (hidden hs (argument_weight one (p ∷ ps) [])) (hidden hs (slot_weight (p ∷ ps) 0)) (hidden (p ∷ hs) (argument_weight one ps [])) (omega arith)
      (hidden_linear hs one (argument_weight one (p ∷ ps) []) (slot_weight (p ∷ ps) 0) (without p (argument_weight one ps [])) (no_argument one p ps))
      ∙ ap (λ m. one * slot_at hs (p ∷ ps) 0 + m) (parts one (p ∷ hs) ps [])
      ∙ swapped (one * slot_at hs (p ∷ ps) 0) _ _
      ∙ ap (λ us. one * weighs 1 (hidden (p ∷ hs) (slot_weight ps (length ps))) + given one [] us) (sym (table_front (slot_at hs (p ∷ ps)) (length ps)))
  parts one hs (p ∷ ps) (n ∷ ns) =
      linear fs e n one 0 one (hidden hs (argument_weight one (p ∷ ps) (n ∷ ns))) (hidden hs (slot_weight (p ∷ ps) 0)) (hidden (p ∷ hs) (argument_weight one ps ns)) (omega arith)
      (hidden_linear hs n (argument_weight one (p ∷ ps) (n ∷ ns)) (slot_weight (p ∷ ps) 0) (without p (argument_weight one ps ns)) (one_argument one n p ps ns))
      ∙ ap (λ m. n * slot_at hs (p ∷ ps) 0 + m) (parts one (p ∷ hs) ps ns)
      ∙ swapped (n * slot_at hs (p ∷ ps) 0) _ _
      ∙ ap (λ us. one * weighs 1 (hidden (p ∷ hs) (slot_weight ps (length ps))) + given one (n ∷ ns) us) (sym (table_front (slot_at hs (p ∷ ps)) (length ps)))

-- ---- as the code adds them up

no_times : (u : ℕ → ℕ) → ((i : ℕ) → u i ≡ 0) → (ns : List ℕ) → each_times u ns ≡ 0
no_times u h [] = refl
no_times u h (n ∷ ns) = rw (h 0, no_times (λ i. u (suc i)) (λ i. h (suc i)) ns) (omega arith)

all_once : (ns : List ℕ) → each_times (λ i. 1) ns ≡ total ns
all_once [] = refl
all_once (n ∷ ns) = rw (all_once ns) (omega arith)

given_sums : (one : ℕ) (ns us : List ℕ) → given one ns us ≡ one * total (drop (length ns) us) + each_times (slice_index us) ns
given_sums one [] [] = omega arith
given_sums one (n ∷ ns) [] = let z : 0 ≡ one * 0 + 0 = omega arith in z ∙ ap (λ m. one * 0 + m) (sym (no_times (slice_index []) (λ i. refl) (n ∷ ns)))
given_sums one [] (u ∷ us) = rw (given_sums one [] us) (omega arith)
given_sums one (n ∷ ns) (u ∷ us) = rw (given_sums one ns us) (omega arith)

plain_call : (one : ℕ) (ns : List ℕ) → one + total ns ≡ one * 1 + each_times (λ i. 1) ns
plain_call one ns = once one (total ns) ∙ ap (λ m. one * 1 + m) (sym (all_once ns))
  where
    once : (a b : ℕ) → a + b ≡ a * 1 + b
    once a b = omega arith

-- the form of a function, by its body
abbrev pub form_of_body : List FunctionDecl → List Param → Option Expr → CallForm
form_of_body fs ps b = elim b [ None ↦ plain | Some e ↦ body_form fs ps e ]

-- a call weighs what its form says
pub weighs_form : (one : ℕ) (fs : List FunctionDecl) (f ns : List ℕ) → call_weight one fs f ns ≡ form_weight one (form_at fs f) ns
weighs_form one [] f ns = plain_call one ns
weighs_form one (d ∷ fs) f ns = by_name (same_name f d.name.text) (weighs_form one fs f ns)
  where
    regroup : (a b c : ℕ) → one * a + (one * b + c) ≡ one * (a + b) + c
    regroup a b c = omega arith

    by_body : (b : Option Expr) → body_weight one fs d.params ns b ≡ form_weight one (form_of_body fs d.params b) ns
    by_body None = plain_call one ns
    by_body (Some e) =
        parts fs e one [] d.params ns
        ∙ ap (λ m. one * slot_of_body fs 1 d.params e (length d.params) + m) (given_sums one ns (table (slot_of_body fs 0 d.params e) (length d.params)))
        ∙ regroup _ _ _

    by_name : (b : Bool) → call_weight one fs f ns ≡ form_weight one (form_at fs f) ns → cond b (body_weight one fs d.params ns d.body) (call_weight one fs f ns) ≡ form_weight one (cond b (form_of_body fs d.params d.body) (form_at fs f)) ns
    by_name true h = by_body d.body
    by_name false h = h
