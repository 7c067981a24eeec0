-- The arguments of applications that fit a pattern have the widths of the parameters.
use Rattle.std.proofs.Common.{◌≡◌, ℕ, zero, suc, ◌+◌, ◌<◌, ◌==◌, Bool, true, false, List, [], ◌∷◌, length, map, Option, Some, None, if◌then◌else◌, refl, ap, sym, ◌∙◌, subst, arith}
use Rattle.std.specs.Prelude.{option_and_then, option_map, slice_get}
use Rattle.std.specs.List.{AllByRecursion, AllZip}
use Rattle.std.proofs.lemmas.Bool.{eqb-true, eq-eqb}
use Rattle.std.proofs.lemmas.Option.{slice_get_within}
use Rattle.cocoon_num.specs.Tree.{FunctionDecl, Design}
use Rattle.cocoon_types.specs.Design.{widths_of}
use Rattle.bv_terms.specs.TermTrees.{Term, Args, constant, input, apply, not_, binary, slice, pick, no_args, arg, arg_widths, width}
use Rattle.fun_instances.specs.AssumptionTerms.{inputs_from}
use Rattle.obligation_laws.specs.Shown.{HasWidth}
use Rattle.query_laws.specs.Over.{AllOver, AreOver, IsOver, IsRuntimeAt}
use Rattle.query_laws.specs.Patterns.{Pattern, arg_count, is_input, pattern_of, place_of, places_from}
use Rattle.query_laws.specs.TupleFits.{HasPlaces}
use Rattle.query_laws.specs.Tuples.{arg_at, tuple_of}

-- ---- the parameters as inputs

abbrev is_width : Option ℕ → ℕ → Bool
is_width None w = false
is_width (Some v) w = v == w

-- the inputs that stand for parameters of these widths
abbrev pub own_inputs : List ℕ → ℕ → ℕ → Bool
own_inputs ws i w = is_width (slice_get ws i) w

own-is : (o : Option ℕ) (w : ℕ) → is_width o w ≡ true → o ≡ Some w
own-is None w h = absurd (cc)
own-is (Some v) w h = ap Some (eqb-true v w h)

is-own : (o : Option ℕ) (w : ℕ) → o ≡ Some w → is_width o w ≡ true
is-own None w h = absurd (cc)
is-own (Some v) w h = let e : v ≡ w = cc in eq-eqb v w e

from-zero : (j : ℕ) → j ≡ 0 + j
from-zero j = omega arith

inputs-are : (d : Design) (inputs : ℕ → ℕ → Bool) (i : ℕ) (ws : List ℕ) → ((j w : ℕ) → slice_get ws j ≡ Some w → inputs (i + j) w ≡ true) → AllOver d inputs (inputs_from i ws)
inputs-are d inputs i [] h = tt
inputs-are d inputs i (w ∷ ws) h = (
  subst (λ n. inputs n w ≡ true) (let e : i + 0 ≡ i = omega arith in e) (h 0 w refl),
  inputs-are d inputs (suc i) ws (λ j v is. subst (λ n. inputs n v ≡ true) (let e : i + suc j ≡ suc i + j = omega arith in e) (h (suc j) v is)),
)

pub own-over : (d : Design) (ws : List ℕ) → AllOver d (own_inputs ws) (inputs_from 0 ws)
own-over d ws = inputs-are d (own_inputs ws) 0 ws (λ j w is. subst (λ n. own_inputs ws n w ≡ true) (from-zero j) (is-own (slice_get ws j) w is))

pub own-wide : (i : ℕ) (ws : List ℕ) → AllZip HasWidth ws (inputs_from i ws)
own-wide i [] = tt
own-wide i (w ∷ ws) = (refl, own-wide (suc i) ws)

-- ---- where they stand

module _ (d : Design) (inputs : ℕ → ℕ → Bool) where
  abbrev Place : ℕ → List ℕ → ℕ → Type 0
  Place i us k = (w : ℕ) × (slice_get us k ≡ Some w) × (inputs i w ≡ true)

  here : (i : ℕ) (t : Term) → is_input i t ≡ true → IsOver d inputs t → inputs i (width t) ≡ true
  here i (input j w) e h = subst (λ n. inputs n w ≡ true) (sym (eqb-true i j e)) h
  here i (constant w n) e h = absurd (cc)
  here i (apply f args w) e h = absurd (cc)
  here i (not_ a) e h = absurd (cc)
  here i (binary op a b) e h = absurd (cc)
  here i (slice a high low) e h = absurd (cc)
  here i (pick c a b) e h = absurd (cc)

  later : (i k : ℕ) (t : Term) (ts : Args) (o : Option ℕ) → ((m : ℕ) → o ≡ Some m → Place i (arg_widths ts) m) → option_map suc o ≡ Some k → Place i (arg_widths (arg t ts)) k
  later i k t ts None at q = absurd (cc)
  later i k t ts (Some m) at q = let n : suc m ≡ k = cc in subst (Place i (arg_widths (arg t ts))) n (at m refl)

  either : (i k : ℕ) (t : Term) (ts : Args) (o : Option ℕ) → ((m : ℕ) → o ≡ Some m → Place i (arg_widths ts) m) → IsOver d inputs t → (b : Bool) → is_input i t ≡ b
      → (if b then Some 0 else option_map suc o) ≡ Some k → Place i (arg_widths (arg t ts)) k
  either i k t ts o at h true p q = let n : 0 ≡ k = cc in subst (Place i (arg_widths (arg t ts))) n (width t, refl, here i t p h)
  either i k t ts o at h false p q = later i k t ts o at q

  place-is : (i : ℕ) (args : Args) → AreOver d inputs args → (k : ℕ) → place_of i args ≡ Some k → Place i (arg_widths args) k
  place-is i no_args h k e = absurd (cc)
  place-is i (arg t ts) h k e = either i k t ts (place_of i ts) (place-is i ts h.1) h.0 (is_input i t) refl e

  abbrev Stand : List ℕ → (ws ks : List ℕ) → Type 0
  Stand us ws ks = AllZip (λ w k. slice_get us k ≡ Some w) ws ks

  one-more : (us : List ℕ) (i w : ℕ) (ws ks : List ℕ) → ((v : ℕ) → inputs i v ≡ true → v ≡ w) → (o : Option ℕ) → ((k : ℕ) → o ≡ Some k → Place i us k)
      → (r : Option (List ℕ)) → ((rest : List ℕ) → r ≡ Some rest → Stand us ws rest) → option_and_then (λ k. option_map (λ ks. k ∷ ks) r) o ≡ Some ks → Stand us (w ∷ ws) ks
  one-more us i w ws ks own None at r rest x = absurd (cc)
  one-more us i w ws ks own (Some k) at None rest x = absurd (cc)
  one-more us i w ws ks own (Some k) at (Some ms) rest x =
      let p = at k refl in
      let is : k ∷ ms ≡ ks = cc in
      subst (Stand us (w ∷ ws)) is (p.1 ∙ ap Some (own p.0 p.2), rest ms refl)

  places-are : (args : Args) → AreOver d inputs args → (i : ℕ) (ws ks : List ℕ) → ((j w : ℕ) → inputs (i + j) w ≡ true → slice_get ws j ≡ Some w)
      → places_from i (length ws) args ≡ Some ks → Stand (arg_widths args) ws ks
  places-are args h i [] ks own e = subst (Stand (arg_widths args) []) (let is : [] ≡ ks = cc in is) tt
  places-are args h i (w ∷ ws) ks own e =
      one-more (arg_widths args) i w ws ks
      (λ v is. let s : Some w ≡ Some v = own 0 v (subst (λ n. inputs n v ≡ true) (let e : i ≡ i + 0 = omega arith in e) is) in cc)
      (place_of i args) (place-is i args h)
      (places_from (suc i) (length ws) args)
      (λ rest q. places-are args h (suc i) ws rest (λ j v is. own (suc j) v (subst (λ n. inputs n v ≡ true) (let e : suc i + j ≡ i + suc j = omega arith in e) is)) q) e

-- ---- patterns

-- the pattern's function takes arguments of the parameters' widths at its places
pub record PatternFits (d : Design) (ws : List ℕ) (p : Pattern) : Type 0 where
  pub widths : List ℕ
  pub result : ℕ
  pub function_ : IsRuntimeAt d p.function widths result
  pub places_ : AllZip (λ w k. slice_get widths k ≡ Some w) ws p.places

pub pattern-fits : (d : Design) (ws : List ℕ) (t : Term) → IsOver d (own_inputs ws) t → (p : Pattern) → pattern_of (length ws) t ≡ Some p → PatternFits d ws p
pattern-fits d ws (apply f args w) h p e = by (arg_count args == length ws) (places_from 0 (length ws) args) refl e
  where
    by : (b : Bool) (o : Option (List ℕ)) → places_from 0 (length ws) args ≡ o
        → (if b then option_map (λ ks. record { function = f; places = ks }) o else None) ≡ Some p → PatternFits d ws p
    by false o q x = absurd (cc)
    by true None q x = absurd (cc)
    by true (Some ks) q x =
        let is : record { function = f; places = ks } ≡ p = cc in
        subst (PatternFits d ws) is (record {
          widths = arg_widths args;
          result = w;
          function_ = h.1;
          places_ = places-are d (own_inputs ws) args h.0 0 ws ks (λ j v k. own-is (slice_get ws j) v (subst (λ n. own_inputs ws n v ≡ true) (sym (from-zero j)) k)) q;
        })
pattern-fits d ws (constant w n) h p e = absurd (cc)
pattern-fits d ws (input i w) h p e = absurd (cc)
pattern-fits d ws (not_ a) h p e = absurd (cc)
pattern-fits d ws (binary op a b) h p e = absurd (cc)
pattern-fits d ws (slice a high low) h p e = absurd (cc)
pattern-fits d ws (pick c a b) h p e = absurd (cc)

-- ---- applications of a goal

within : (us ks : List ℕ) (n : ℕ) → length us ≡ n → (ws : List ℕ) → AllZip (λ w k. slice_get us k ≡ Some w) ws ks → AllByRecursion (λ k. k < n) ks
within us [] n e ws h = tt
within us (k ∷ ks) n e [] h = absurd h
within us (k ∷ ks) n e (w ∷ ws) h = (subst (λ m. k < m) e (slice_get_within us k w h.0), within us ks n e ws h.1)

as-many : (args : Args) → length (arg_widths args) ≡ arg_count args
as-many no_args = refl
as-many (arg t ts) = ap suc (as-many ts)

same-widths : (d : Design) (f : ℕ) (us vs : List ℕ) (v w : ℕ) → IsRuntimeAt d f us v → IsRuntimeAt d f vs w → us ≡ vs
same-widths d f us vs v w h k =
    let same : h.function ≡ k.function = (let x = h.there in let y = k.there in cc) in
    h.params_are ∙ ap (λ (g : FunctionDecl). widths_of g.params) same ∙ sym k.params_are

-- the term is over the design
pub has-places : (d : Design) (ws : List ℕ) (p : Pattern) → PatternFits d ws p → (inputs : ℕ → ℕ → Bool) (t : Term) → IsOver d inputs t → HasPlaces t p
has-places d ws p fit inputs (apply f args w) h = λ e.
    let at : IsRuntimeAt d p.function (arg_widths args) w = subst (λ n. IsRuntimeAt d n (arg_widths args) w) e h.1 in
    let same : fit.widths ≡ arg_widths args = same-widths d p.function fit.widths (arg_widths args) fit.result w fit.function_ at in
    within fit.widths p.places (arg_count args) (ap length same ∙ as-many args) ws fit.places_
has-places d ws p fit inputs (constant w n) h = tt
has-places d ws p fit inputs (input i w) h = tt
has-places d ws p fit inputs (not_ a) h = tt
has-places d ws p fit inputs (binary op a b) h = tt
has-places d ws p fit inputs (slice a high low) h = tt
has-places d ws p fit inputs (pick c a b) h = tt

module _ (d : Design) (R : ℕ → Term → Type 0) where
  -- each argument, at its width
  abbrev pub ArgsAre : Args → Type 0
  ArgsAre no_args = Unit {0}
  ArgsAre (arg t ts) = R (width t) t × ArgsAre ts

  -- the application of a function of the design at such arguments
  abbrev pub AppliedAre : Term → Type 0
  AppliedAre (apply f args w) = ArgsAre args × IsRuntimeAt d f (arg_widths args) w
  AppliedAre t = Unit {0}

  arg-is : (args : Args) → ArgsAre args → (k w : ℕ) → slice_get (arg_widths args) k ≡ Some w → R w (arg_at args k)
  arg-is no_args h k w e = absurd (cc)
  arg-is (arg t ts) h zero w e = let is : width t ≡ w = cc in subst (λ v. R v t) is h.0
  arg-is (arg t ts) h (suc k) w e = arg-is ts h.1 k w e

  args-are : (args : Args) → ArgsAre args → (ws ks : List ℕ) → AllZip (λ w k. slice_get (arg_widths args) k ≡ Some w) ws ks → AllZip R ws (map (arg_at args) ks)
  args-are args h [] [] k = tt
  args-are args h [] (n ∷ ns) k = absurd k
  args-are args h (w ∷ ws) [] k = absurd k
  args-are args h (w ∷ ws) (n ∷ ns) k = (arg-is args h n w k.0, args-are args h ws ns k.1)

  pub tuple-fits : (ws : List ℕ) (p : Pattern) → PatternFits d ws p → (t : Term) → AppliedAre t → (ts : List Term) → tuple_of t p ≡ Some ts → AllZip R ws ts
  tuple-fits ws p fit (apply f args w) h ts e = by (f == p.function) refl e
    where
      by : (b : Bool) → (f == p.function) ≡ b → (if b then Some (map (arg_at args) p.places) else None) ≡ Some ts → AllZip R ws ts
      by false q x = absurd (cc)
      by true q x =
          let at : IsRuntimeAt d p.function (arg_widths args) w = subst (λ n. IsRuntimeAt d n (arg_widths args) w) (eqb-true f p.function q) h.1 in
          let same : fit.widths ≡ arg_widths args = same-widths d p.function fit.widths (arg_widths args) fit.result w fit.function_ at in
          let is : map (arg_at args) p.places ≡ ts = cc in
          subst (AllZip R ws) is (args-are args h.0 ws p.places (subst (λ us. AllZip (λ w k. slice_get us k ≡ Some w) ws p.places) same fit.places_))
  tuple-fits ws p fit (constant w n) h ts e = absurd (cc)
  tuple-fits ws p fit (input i w) h ts e = absurd (cc)
  tuple-fits ws p fit (not_ a) h ts e = absurd (cc)
  tuple-fits ws p fit (binary op a b) h ts e = absurd (cc)
  tuple-fits ws p fit (slice a high low) h ts e = absurd (cc)
  tuple-fits ws p fit (pick c a b) h ts e = absurd (cc)
