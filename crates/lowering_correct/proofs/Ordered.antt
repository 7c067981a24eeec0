-- Items that are numbered one after another, and the item of a number among them.
use Rattle.std.proofs.Common.{◌≡◌, ℕ, suc, ◌+◌, ◌<◌, ◌≤◌, ◌==◌, ◌&&◌, ◌||◌, true, false, cond, not, List, [], ◌∷◌, ◌++◌, map, length, Some, arith, refl, ap, ap₂, ◌∙◌}
use Rattle.std.specs.List.{find}
use Rattle.std.proofs.lemmas.Bool.Decides.{nat_tests}
use Rattle.cocoon_num.specs.Lists.{has_number, no_repeats}

module _ {X : Type 0} (num : X → ℕ) where
  -- items from a up to b
  abbrev pub Runs : ℕ → List X → ℕ → Type 0
  Runs a [] b = a ≡ b
  Runs a (x ∷ xs) b = (num x ≡ a) × Runs (suc a) xs b

  -- none has a number below the first
  past : (a b : ℕ) (pre post : List X) (x : X) → Runs a (pre ++ x ∷ post) b → a ≤ num x
  past a b [] post x h = let e = h.0 in omega (arith, e)
  past a b (y ∷ pre) post x h = let l = past (suc a) b pre post x h.1 in omega (arith, l)

  differ : (m n : ℕ) → m < n → (m == n) ≡ false
  differ m n h = grind (arith, nat_tests, h)

  same : (n : ℕ) → (n == n) ≡ true
  same n = grind (arith, nat_tests)

  pub found-at : (a b : ℕ) (pre post : List X) (x : X) → Runs a (pre ++ x ∷ post) b → find (λ y. num y == num x) (pre ++ x ∷ post) ≡ Some x
  found-at a b [] post x h = ap (λ c. cond c (Some x) (find (λ y. num y == num x) post)) (same (num x))
  found-at a b (y ∷ pre) post x h =
      let later = past (suc a) b pre post x h.1 in
      let here = h.0 in
      ap (λ c. cond c (Some y) (find (λ z. num z == num x) (pre ++ x ∷ post))) (differ (num y) (num x) (omega (arith, later, here)))
      ∙ found-at (suc a) b pre post x h.1

  absent : (n a b : ℕ) (xs : List X) → Runs a xs b → n < a → has_number n (map num xs) ≡ false
  absent n a b [] h l = refl
  absent n a b (x ∷ xs) h l =
      let here = h.0 in
      ap₂ (◌||◌) (differ n (num x) (omega (arith, l, here))) (absent n (suc a) b xs h.1 (omega (arith, l)))

  pub no-repeats : (a b : ℕ) (xs : List X) → Runs a xs b → no_repeats (map num xs) ≡ true
  no-repeats a b [] h = refl
  no-repeats a b (x ∷ xs) h =
      let here = h.0 in
      ap₂ (λ c d. not c && d) (absent (num x) (suc a) b xs h.1 (omega (arith, here))) (no-repeats (suc a) b xs h.1)

  pub below-end : (a b : ℕ) (xs : List X) → Runs a xs b → a + length xs ≡ b
  below-end a b [] h = omega (arith, h)
  below-end a b (x ∷ xs) h = let l = below-end (suc a) b xs h.1 in omega (arith, l)
