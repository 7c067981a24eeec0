-- Numbers of inputs, and inputs with some numbers put in.
use Rattle.std.proofs.Common.{◌≡◌, ℕ, suc, ◌+◌, ◌<◌, ◌≤◌, ◌==◌, List, [], ◌∷◌, ◌++◌, length, true, false, if◌then◌else◌, refl, sym, ap, subst, ◌∙◌, arith}
use Rattle.cocoon_num.specs.Values.{FitsWidth}
use Rattle.bv_terms.specs.TermValues.{Inputs}
use Rattle.obligation_laws.specs.States.{NewInput, inputs_from}
use Rattle.obligation_laws.specs.LeafForms.{Ascend}
use Rattle.obligation_laws.specs.Meant.{AllFit, given}

pub numbered_within : (first last : ℕ) (is : List NewInput) → Ascend first last is → first ≤ last
numbered_within first last [] h = h
numbered_within first last (i ∷ is) h = let l = numbered_within (suc i.number) last is h.1 in omega (arith, h.0, l)

pub numbered_wider : (first last low high : ℕ) (is : List NewInput) → low ≤ first → last ≤ high → Ascend first last is → Ascend low high is
numbered_wider first last low high [] l k h = omega (arith, l, k, h)
numbered_wider first last low high (i ∷ is) l k h = (omega (arith, l, h.0), numbered_wider (suc i.number) last (suc i.number) high is (omega arith) k h.1)

pub numbered_join : (first mid last : ℕ) (is js : List NewInput) → Ascend first mid is → Ascend mid last js → Ascend first last (is ++ js)
numbered_join first mid last [] js h k = numbered_wider mid last first last js h (omega arith) k
numbered_join first mid last (i ∷ is) js h k = (h.0, numbered_join (suc i.number) mid last is js h.1 k)

pub numbered_from : (first : ℕ) (ws : List ℕ) → Ascend first (first + length (inputs_from first ws)) (inputs_from first ws)
numbered_from first [] = omega arith
numbered_from first (w ∷ ws) = (omega arith, numbered_wider (suc first) (suc first + length (inputs_from (suc first) ws)) (suc first) (first + suc (length (inputs_from (suc first) ws))) (inputs_from (suc first) ws) (omega arith) (omega arith) (numbered_from (suc first) ws))

-- ---- inputs with numbers put in

-- as many numbers, each of which fits
abbrev pub Fill : List NewInput → List ℕ → Type 0
Fill [] [] = Unit {0}
Fill (i ∷ is) (n ∷ ns) = FitsWidth i.width n × Fill is ns
Fill _ _ = ⊥

pub fill_join : (is js : List NewInput) (ms ns : List ℕ) → Fill is ms → Fill js ns → Fill (is ++ js) (ms ++ ns)
fill_join [] js [] ns h k = k
fill_join [] js (m ∷ ms) ns h k = absurd h
fill_join (i ∷ is) js [] ns h k = absurd h
fill_join (i ∷ is) js (m ∷ ms) ns h k = (h.0, fill_join is js ms ns h.1 k)

pub filled_fit : (ins : Inputs) (is : List NewInput) → Fill is (given ins is) → AllFit ins is
filled_fit ins [] h = tt
filled_fit ins (i ∷ is) h = (h.0, filled_fit ins is h.1)

abbrev pub instead : ℕ → ℕ → Inputs → Inputs
instead k n ins j = if j == k then n else ins j

abbrev pub put : List NewInput → List ℕ → Inputs → Inputs
put (i ∷ is) (n ∷ ns) ins = instead i.number n (put is ns ins)
put _ _ ins = ins

same_self : (n : ℕ) → (n == n) ≡ true
same_self n = grind arith

not_same : (j k : ℕ) → k < j → (j == k) ≡ false
not_same j k l = grind (arith, l)

not_same' : (j k : ℕ) → j < k → (j == k) ≡ false
not_same' j k l = grind (arith, l)

instead_there : (k n : ℕ) (ins : Inputs) → instead k n ins k ≡ n
instead_there k n ins = ap (λ b. if b then n else ins k) (same_self k)

instead_later : (k n : ℕ) (ins : Inputs) (first last : ℕ) (is : List NewInput) → Ascend first last is → k < first → given (instead k n ins) is ≡ given ins is
instead_later k n ins first last [] h l = refl
instead_later k n ins first last (i ∷ is) h l =
    λ j. (if not_same i.number k (omega (arith, h.0, l)) j then n else ins i.number) ∷ instead_later k n ins (suc i.number) last is h.1 (omega (arith, h.0, l)) j

-- the numbers put in are given
pub put_given : (ins : Inputs) (first last : ℕ) (is : List NewInput) (ns : List ℕ) → Ascend first last is → Fill is ns → given (put is ns ins) is ≡ ns
put_given ins first last [] [] h f = refl
put_given ins first last [] (n ∷ ns) h f = absurd f
put_given ins first last (i ∷ is) [] h f = absurd f
put_given ins first last (i ∷ is) (n ∷ ns) h f =
    (λ j. instead_there i.number n (put is ns ins) j ∷ instead_later i.number n (put is ns ins) (suc i.number) last is h.1 (omega arith) j)
    ∙ ap (λ ms. n ∷ ms) (put_given ins (suc i.number) last is ns h.1 f.1)

-- an input before them stays
put_before : (ins : Inputs) (first last : ℕ) (is : List NewInput) (ns : List ℕ) → Ascend first last is → (j : ℕ) → j < first → put is ns ins j ≡ ins j
put_before ins first last [] ns h j l = refl
put_before ins first last (i ∷ is) [] h j l = refl
put_before ins first last (i ∷ is) (n ∷ ns) h j l =
    ap (λ b. if b then n else put is ns ins j) (not_same' j i.number (omega (arith, h.0, l)))
    ∙ put_before ins (suc i.number) last is ns h.1 j (omega (arith, h.0, l))

pub put_kept : (ins : Inputs) (low first last : ℕ) (js is : List NewInput) (ns : List ℕ) → Ascend low first js → Ascend first last is → given (put is ns ins) js ≡ given ins js
put_kept ins low first last [] is ns k h = refl
put_kept ins low first last (j ∷ js) is ns k h =
    let l = numbered_within (suc j.number) first js k.1 in
    λ i. put_before ins first last is ns h j.number (omega (arith, l)) i ∷ put_kept ins (suc j.number) first last js is ns k.1 h i

pub put_fit : (ins : Inputs) (low first last : ℕ) (js is : List NewInput) (ns : List ℕ) → Ascend low first js → Ascend first last is → AllFit ins js → AllFit (put is ns ins) js
put_fit ins low first last [] is ns k h f = tt
put_fit ins low first last (j ∷ js) is ns k h f =
    let l = numbered_within (suc j.number) first js k.1 in
    (subst (FitsWidth j.width) (sym (put_before ins first last is ns h j.number (omega (arith, l)))) f.0, put_fit ins (suc j.number) first last js is ns k.1 h f.1)
