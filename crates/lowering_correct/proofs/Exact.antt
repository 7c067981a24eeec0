-- Rows that compare all bits match the numbers that are their values.
use Rattle.std.proofs.Common.{◌≡◌, ℕ, ◌-◌, ◌^◌, ◌==◌, ◌&&◌, bit_and, Bool, true, false, List, [], ◌∷◌, ◌++◌, fold, is_some, if◌then◌else◌, refl, ap, ap₂, ◌∙◌}
use Rattle.std.proofs.Math.Nat.{mod-eq_of_lt}
use Rattle.std.proofs.lemmas.Nat.{and_mask}
use Rattle.cocoon_num.specs.Names.{same_name}
use Rattle.cocoon_num.specs.Rows.{values_match}
use Rattle.cocoon_num.specs.Tree.{Param}
use Rattle.cocoon_num.specs.Values.{fits_width}
use Rattle.cocoon_types.specs.Design.{widths_of}
use Rattle.declarations.specs.NameNumbers.{firsts, index_of, with_name}
use Rattle.lowering.specs.Lower.{before_last_from, params_before_last}
use Rattle.lowering_correct.specs.Groups.{before_last, last_of}
use Rattle.lowering_correct.proofs.Found.{below-width, both-true}
use Rattle.runtime_defs.specs.Fitting.{all_ones}
use Rattle.runtime_defs.specs.Places.{all_fit_widths}

-- a number that fits is itself in the bits of ones
pub kept : (w n : ℕ) → fits_width w n ≡ true → bit_and n (2 ^ w - 1) ≡ n
kept w n h = and_mask n w ∙ mod-eq_of_lt (below-width w n h)

pub ones-match : (ws vs xs : List ℕ) → all_fit_widths ws vs ≡ true → all_fit_widths ws xs ≡ true → values_match vs (all_ones ws) xs ≡ same_name xs vs
ones-match [] [] [] f h = refl
ones-match [] [] (x ∷ xs) f h = absurd cc
ones-match [] (v ∷ vs) xs f h = absurd cc
ones-match (w ∷ ws) [] xs f h = absurd cc
ones-match (w ∷ ws) (v ∷ vs) [] f h = absurd cc
ones-match (w ∷ ws) (v ∷ vs) (x ∷ xs) f h =
    let fs = both-true (fits_width w v) (all_fit_widths ws vs) f in
    let hs = both-true (fits_width w x) (all_fit_widths ws xs) h in
    ap₂ (◌&&◌) (ap₂ (λ a b. a == b) (kept w x hs.0) (kept w v fs.0)) (ones-match ws vs xs fs.1 hs.1)

-- ---- all but the last

before-last-fits-from : (p : Param) (ps : List Param) (v : ℕ) (vs : List ℕ) → all_fit_widths (widths_of (p ∷ ps)) (v ∷ vs) ≡ true → all_fit_widths (widths_of (before_last_from p ps)) (before_last (v ∷ vs)) ≡ true
before-last-fits-from p [] v [] h = refl
before-last-fits-from p [] v (u ∷ vs) h = absurd (both-false (fits_width p.width v) h)
  where
    both-false : (b : Bool) → (b && false) ≡ true → ⊥
    both-false true k = cc
    both-false false k = cc
before-last-fits-from p (q ∷ ps) v [] h = absurd (both-false (fits_width p.width v) h)
  where
    both-false : (b : Bool) → (b && false) ≡ true → ⊥
    both-false true k = cc
    both-false false k = cc
before-last-fits-from p (q ∷ ps) v (u ∷ vs) h =
    let hs = both-true (fits_width p.width v) (all_fit_widths (widths_of (q ∷ ps)) (u ∷ vs)) h in
    ap₂ (◌&&◌) hs.0 (before-last-fits-from q ps u vs hs.1)

pub before-last-fits : (ps : List Param) (vs : List ℕ) → all_fit_widths (widths_of ps) vs ≡ true → all_fit_widths (widths_of (params_before_last ps)) (before_last vs) ≡ true
before-last-fits [] [] h = refl
before-last-fits [] (v ∷ vs) h = absurd cc
before-last-fits (p ∷ ps) [] h = absurd cc
before-last-fits (p ∷ ps) (v ∷ vs) h = before-last-fits-from p ps v vs h

-- a list is all but its last, and its last
pub joined : (v : ℕ) (vs : List ℕ) → before_last (v ∷ vs) ++ (last_of (v ∷ vs) ∷ []) ≡ v ∷ vs
joined v [] = refl
joined v (u ∷ vs) = ap (λ l. v ∷ l) (joined u vs)

pub before-last-is : (ns : List ℕ) (x : ℕ) → before_last (ns ++ (x ∷ [])) ≡ ns
before-last-is [] x = refl
before-last-is (n ∷ []) x = refl
before-last-is (n ∷ m ∷ ns) x = ap (λ l. n ∷ l) (before-last-is (m ∷ ns) x)

pub last-is : (ns : List ℕ) (x : ℕ) → last_of (ns ++ (x ∷ [])) ≡ x
last-is [] x = refl
last-is (n ∷ []) x = refl
last-is (n ∷ m ∷ ns) x = last-is (m ∷ ns) x

-- ---- each of some lists once

-- the numbers of each list fit these widths
abbrev pub EachFits : List ℕ → List (List ℕ) → Type 0
EachFits ws [] = Unit {0}
EachFits ws (x ∷ xs) = (all_fit_widths ws x ≡ true) × EachFits ws xs

each-snoc : (ws : List ℕ) (xs : List (List ℕ)) (x : List ℕ) → EachFits ws xs → all_fit_widths ws x ≡ true → EachFits ws (xs ++ x ∷ [])
each-snoc ws [] x h k = (k, tt)
each-snoc ws (y ∷ xs) x h k = (h.0, each-snoc ws xs x h.1 k)

each-either : (ws : List ℕ) (b : Bool) (xs : List (List ℕ)) (x : List ℕ) → EachFits ws xs → all_fit_widths ws x ≡ true → EachFits ws (if b then xs else xs ++ x ∷ [])
each-either ws true xs x h k = h
each-either ws false xs x h k = each-snoc ws xs x h k

each-folded : (ws : List ℕ) (acc xs : List (List ℕ)) → EachFits ws acc → EachFits ws xs → EachFits ws (fold with_name acc xs)
each-folded ws acc [] h k = h
each-folded ws acc (x ∷ xs) h k = each-folded ws (with_name acc x) xs (each-either ws (is_some (index_of x acc)) acc x h k.0) k.1

pub each-first : (ws : List ℕ) (xs : List (List ℕ)) → EachFits ws xs → EachFits ws (firsts xs)
each-first ws xs h = each-folded ws [] xs tt h
