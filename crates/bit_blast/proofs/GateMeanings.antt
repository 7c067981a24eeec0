-- The clauses of each gate against its operation: truth tables, and the laws by them.
use Rattle.std.proofs.Common.{◌≡◌, ◌≢◌, ℤ, pos, Bool, true, false, not, ◌&&◌, ◌||◌, [], ◌∷◌, refl}
use Rattle.std.specs.Prelude.{if◌then◌else◌}
use Rattle.std.specs.Bool.{beq}
use Rattle.std.specs.List.{list_all, list_any}
use Rattle.bit_blast.specs.Gates.{and_gate, or_gate, xor_gate, same_gate, choice_gate, carry_gate}
use Rattle.bit_blast.specs.Meanings.{IsValuation, all_hold}

and-table : (g a b : Bool) → list_all (list_any (λ (x : Bool). x)) ((not g ∷ a ∷ []) ∷ (not g ∷ b ∷ []) ∷ (g ∷ not a ∷ not b ∷ []) ∷ []) ≡ beq g (a && b)
and-table true true true = refl
and-table true true false = refl
and-table true false true = refl
and-table true false false = refl
and-table false true true = refl
and-table false true false = refl
and-table false false true = refl
and-table false false false = refl

or-table : (g a b : Bool) → list_all (list_any (λ (x : Bool). x)) ((g ∷ not a ∷ []) ∷ (g ∷ not b ∷ []) ∷ (not g ∷ a ∷ b ∷ []) ∷ []) ≡ beq g (a || b)
or-table true true true = refl
or-table true true false = refl
or-table true false true = refl
or-table true false false = refl
or-table false true true = refl
or-table false true false = refl
or-table false false true = refl
or-table false false false = refl

xor-table : (g a b : Bool) → list_all (list_any (λ (x : Bool). x)) ((not g ∷ a ∷ b ∷ []) ∷ (not g ∷ not a ∷ not b ∷ []) ∷ (g ∷ not a ∷ b ∷ []) ∷ (g ∷ a ∷ not b ∷ []) ∷ []) ≡ beq g (not (beq a b))
xor-table true true true = refl
xor-table true true false = refl
xor-table true false true = refl
xor-table true false false = refl
xor-table false true true = refl
xor-table false true false = refl
xor-table false false true = refl
xor-table false false false = refl

same-table : (g a b : Bool) → list_all (list_any (λ (x : Bool). x)) ((g ∷ a ∷ b ∷ []) ∷ (g ∷ not a ∷ not b ∷ []) ∷ (not g ∷ not a ∷ b ∷ []) ∷ (not g ∷ a ∷ not b ∷ []) ∷ []) ≡ beq g (beq a b)
same-table true true true = refl
same-table true true false = refl
same-table true false true = refl
same-table true false false = refl
same-table false true true = refl
same-table false true false = refl
same-table false false true = refl
same-table false false false = refl

choice-table : (c g a b : Bool) → list_all (list_any (λ (x : Bool). x)) ((not c ∷ not a ∷ g ∷ []) ∷ (not c ∷ a ∷ not g ∷ []) ∷ (c ∷ not b ∷ g ∷ []) ∷ (c ∷ b ∷ not g ∷ []) ∷ (not a ∷ not b ∷ g ∷ []) ∷ (a ∷ b ∷ not g ∷ []) ∷ []) ≡ beq g (if c then a else b)
choice-table true true true true = refl
choice-table true true true false = refl
choice-table true true false true = refl
choice-table true true false false = refl
choice-table true false true true = refl
choice-table true false true false = refl
choice-table true false false true = refl
choice-table true false false false = refl
choice-table false true true true = refl
choice-table false true true false = refl
choice-table false true false true = refl
choice-table false true false false = refl
choice-table false false true true = refl
choice-table false false true false = refl
choice-table false false false true = refl
choice-table false false false false = refl

carry-table : (g a b c : Bool) → list_all (list_any (λ (x : Bool). x)) ((not a ∷ not b ∷ g ∷ []) ∷ (not a ∷ not c ∷ g ∷ []) ∷ (not b ∷ not c ∷ g ∷ []) ∷ (a ∷ b ∷ not g ∷ []) ∷ (a ∷ c ∷ not g ∷ []) ∷ (b ∷ c ∷ not g ∷ []) ∷ []) ≡ beq g (a && b || a && c || b && c)
carry-table true true true true = refl
carry-table true true true false = refl
carry-table true true false true = refl
carry-table true true false false = refl
carry-table true false true true = refl
carry-table true false true false = refl
carry-table true false false true = refl
carry-table true false false false = refl
carry-table false true true true = refl
carry-table false true true false = refl
carry-table false true false true = refl
carry-table false true false false = refl
carry-table false false true true = refl
carry-table false false true false = refl
carry-table false false false true = refl
carry-table false false false false = refl

pub and-means : (v : ℤ → Bool) → IsValuation v → (g a b : ℤ) → g ≢ pos 0 → a ≢ pos 0 → b ≢ pos 0 → all_hold v (and_gate g a b) ≡ beq (v g) (v a && v b)
and-means v h g a b ng na nb = rw (h g ng, h a na, h b nb) (and-table (v g) (v a) (v b))

pub or-means : (v : ℤ → Bool) → IsValuation v → (g a b : ℤ) → g ≢ pos 0 → a ≢ pos 0 → b ≢ pos 0 → all_hold v (or_gate g a b) ≡ beq (v g) (v a || v b)
or-means v h g a b ng na nb = rw (h g ng, h a na, h b nb) (or-table (v g) (v a) (v b))

pub xor-means : (v : ℤ → Bool) → IsValuation v → (g a b : ℤ) → g ≢ pos 0 → a ≢ pos 0 → b ≢ pos 0 → all_hold v (xor_gate g a b) ≡ beq (v g) (not (beq (v a) (v b)))
xor-means v h g a b ng na nb = rw (h g ng, h a na, h b nb) (xor-table (v g) (v a) (v b))

pub same-means : (v : ℤ → Bool) → IsValuation v → (g a b : ℤ) → g ≢ pos 0 → a ≢ pos 0 → b ≢ pos 0 → all_hold v (same_gate g a b) ≡ beq (v g) (beq (v a) (v b))
same-means v h g a b ng na nb = rw (h g ng, h a na, h b nb) (same-table (v g) (v a) (v b))

pub choice-means : (v : ℤ → Bool) → IsValuation v → (c g a b : ℤ) → c ≢ pos 0 → g ≢ pos 0 → a ≢ pos 0 → b ≢ pos 0 → all_hold v (choice_gate c g a b) ≡ beq (v g) (if v c then v a else v b)
choice-means v h c g a b nc ng na nb = rw (h c nc, h g ng, h a na, h b nb) (choice-table (v c) (v g) (v a) (v b))

pub carry-means : (v : ℤ → Bool) → IsValuation v → (g a b c : ℤ) → g ≢ pos 0 → a ≢ pos 0 → b ≢ pos 0 → c ≢ pos 0 → all_hold v (carry_gate g a b c) ≡ beq (v g) (v a && v b || v a && v c || v b && v c)
carry-means v h g a b c ng na nb nc = rw (h g ng, h a na, h b nb, h c nc) (carry-table (v g) (v a) (v b) (v c))
