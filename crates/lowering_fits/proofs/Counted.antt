-- How many brackets are open, and how many operators have come, after the first tokens of a text.
use Rattle.std.specs.Prelude.{◌≡◌, ℕ, zero, suc, ◌+◌, ◌-◌, ◌≤◌, ◌&&◌, Bool, true, false, IsTrue, List, [], ◌∷◌, codes, refl}
use Rattle.std.proofs.Common.{◌∙◌, ap, subst, arith}
use Rattle.std.proofs.lemmas.Bool.{leb-true}
use Rattle.cocoon_num.specs.Tokens.{Kind, plain, brackets_after, operators_after, none_deep, is_shallow, language_bounds}
use Rattle.cocoon_num.specs.Reads.{Is, Mark}

abbrev pub brackets_from : ℕ → List Kind → ℕ → ℕ
brackets_from n ts zero = n
brackets_from n [] (suc i) = n
brackets_from n (k ∷ ts) (suc i) = brackets_from (brackets_after n k) ts i

abbrev pub operators_from : ℕ → List Kind → ℕ → ℕ
operators_from n ts zero = n
operators_from n [] (suc i) = n
operators_from n (k ∷ ts) (suc i) = operators_from (operators_after language_bounds.operators n k) ts i

abbrev pub brackets_at : List Kind → ℕ → ℕ
brackets_at ts i = brackets_from 0 ts i

abbrev pub operators_at : List Kind → ℕ → ℕ
operators_at ts i = operators_from 0 ts i

-- ---- one token

next_brackets : (n : ℕ) (ts : List Kind) (i : ℕ) (k : Kind) → Is ts i k → brackets_from n ts (suc i) ≡ brackets_after (brackets_from n ts i) k
next_brackets n [] i k h = absurd cc
next_brackets n (t ∷ ts) zero k h = let e : t ≡ k = cc in ap (brackets_after n) e
next_brackets n (t ∷ ts) (suc i) k h = next_brackets (brackets_after n t) ts i k h

next_operators : (n : ℕ) (ts : List Kind) (i : ℕ) (k : Kind) → Is ts i k → operators_from n ts (suc i) ≡ operators_after language_bounds.operators (operators_from n ts i) k
next_operators n [] i k h = absurd cc
next_operators n (t ∷ ts) zero k h = let e : t ≡ k = cc in ap (operators_after language_bounds.operators n) e
next_operators n (t ∷ ts) (suc i) k h = next_operators (operators_after language_bounds.operators n t) ts i k h

-- ---- bounds

left : (a b : Bool) → (a && b) ≡ true → a ≡ true
left true b h = refl
left false b h = h

right : (a b : Bool) → (a && b) ≡ true → b ≡ true
right true b h = h
right false b h = absurd cc

is_true : (b : Bool) → IsTrue b → b ≡ true
is_true true h = refl
is_true false h = h

few_brackets : (n o : ℕ) (ts : List Kind) → none_deep language_bounds n o ts ≡ true → n ≤ 64 → (i : ℕ) → brackets_from n ts i ≤ 64
few_brackets n o ts h l zero = l
few_brackets n o [] h l (suc i) = l
few_brackets n o (k ∷ ts) h l (suc i) =
    few_brackets (brackets_after n k) (operators_after language_bounds.operators o k) ts (right _ _ h)
    (leb-true (brackets_after n k) 64 (left _ _ (left _ _ h))) i

few_operators : (n o : ℕ) (ts : List Kind) → none_deep language_bounds n o ts ≡ true → o ≤ 128 → (i : ℕ) → operators_from o ts i ≤ 128
few_operators n o ts h l zero = l
few_operators n o [] h l (suc i) = l
few_operators n o (k ∷ ts) h l (suc i) =
    few_operators (brackets_after n k) (operators_after language_bounds.operators o k) ts (right _ _ h)
    (leb-true (operators_after language_bounds.operators o k) 128 (right _ _ (left _ _ h))) i

-- at no token are there many
pub record Shallow (ts : List Kind) : Type 0 where
  pub brackets : (i : ℕ) → brackets_at ts i ≤ 64
  pub operators : (i : ℕ) → operators_at ts i ≤ 128

pub shallow : (ts : List Kind) → IsTrue (is_shallow language_bounds ts) → Shallow ts
shallow ts h = record {
  brackets = few_brackets 0 0 ts (is_true _ h) (omega arith);
  operators = few_operators 0 0 ts (is_true _ h) (omega arith);
}

-- ---- phrases

-- from one token to another at least n operators come, and none of the brackets of before is closed
pub record Passes (ts : List Kind) (i j n : ℕ) : Type 0 where
  pub brackets : brackets_at ts i ≤ brackets_at ts j
  pub operators : operators_at ts i + n ≤ operators_at ts j

-- a token that is no bracket and no operator
abbrev pub Silent : Kind → Type 0
Silent k = ((b : ℕ) → brackets_after b k ≡ b) × ((o : ℕ) → operators_after language_bounds.operators o k ≡ o)

-- an operator
abbrev pub Counts : Kind → Type 0
Counts k = ((b : ℕ) → brackets_after b k ≡ b) × ((o : ℕ) → operators_after language_bounds.operators o k ≡ suc o)

pub none_passed : (ts : List Kind) (i : ℕ) → Passes ts i i 0
none_passed ts i = record { brackets = omega arith; operators = omega arith }

pub then_passes : {ts : List Kind} {i j k m n : ℕ} → Passes ts i j m → Passes ts j k n → Passes ts i k (m + n)
then_passes p q = record { brackets = omega (arith, p.brackets, q.brackets); operators = omega (arith, p.operators, q.operators) }

pub fewer : {ts : List Kind} {i j m n : ℕ} → n ≤ m → Passes ts i j m → Passes ts i j n
fewer l p = record { brackets = p.brackets; operators = omega (arith, l, p.operators) }

pub ends_at : {ts : List Kind} {i j k n : ℕ} → j ≡ k → Passes ts i j n → Passes ts i k n
ends_at {ts} {i} {j} {k} {n} e p = subst (λ x. Passes ts i x n) e p

-- the token at i and what it makes of the counts at j, the index after it
pub brackets_next : (ts : List Kind) (i j : ℕ) (k : Kind) → j ≡ suc i → Is ts i k → brackets_at ts j ≡ brackets_after (brackets_at ts i) k
brackets_next ts i j k e h = ap (brackets_at ts) e ∙ next_brackets 0 ts i k h

pub operators_next : (ts : List Kind) (i j : ℕ) (k : Kind) → j ≡ suc i → Is ts i k → operators_at ts j ≡ operators_after language_bounds.operators (operators_at ts i) k
operators_next ts i j k e h = ap (operators_at ts) e ∙ next_operators 0 ts i k h

pub silent : (ts : List Kind) (i j : ℕ) (k : Kind) → Silent k → j ≡ suc i → Is ts i k → Passes ts i j 0
silent ts i j k s e h = record {
  brackets = omega (arith, brackets_next ts i j k e h, s.0 (brackets_at ts i));
  operators = omega (arith, operators_next ts i j k e h, s.1 (operators_at ts i));
}

pub counted : (ts : List Kind) (i j : ℕ) (k : Kind) → Counts k → j ≡ suc i → Is ts i k → Passes ts i j 1
counted ts i j k s e h = record {
  brackets = omega (arith, brackets_next ts i j k e h, s.0 (brackets_at ts i));
  operators = omega (arith, operators_next ts i j k e h, s.1 (operators_at ts i));
}

-- ( and ) and what stands between them
pub in_parentheses : (ts : List Kind) (i k j n : ℕ) → k ≡ suc i → Mark ts i (codes "(") → Passes ts k j n → Mark ts j (codes ")") → Passes ts i (suc j) n
in_parentheses ts i k j n e o p c =
    let a : brackets_at ts k ≡ suc (brackets_at ts i) = brackets_next ts i k _ e o in
    let b : brackets_at ts (suc j) ≡ brackets_at ts j - 1 = brackets_next ts j (suc j) _ refl c in
    let f : operators_at ts k ≡ operators_at ts i = operators_next ts i k _ e o in
    let g : operators_at ts (suc j) ≡ operators_at ts j = operators_next ts j (suc j) _ refl c in
    record { brackets = omega (arith, a, b, p.brackets); operators = omega (arith, f, g, p.operators) }

-- the bounds of a slice
pub slice_bounds : (ts : List Kind) (j high low : ℕ) → Mark ts j (codes "[") → Is ts (j + 1) (plain high) → Mark ts (j + 2) (codes ":") → Is ts (j + 3) (plain low) → Mark ts (j + 4) (codes "]") → Passes ts j (j + 5) 2
slice_bounds ts j high low o h m l c =
    let a : brackets_at ts (j + 1) ≡ suc (brackets_at ts j) = brackets_next ts j (j + 1) _ (omega arith) o in
    let b : operators_at ts (j + 1) ≡ suc (operators_at ts j) = operators_next ts j (j + 1) _ (omega arith) o in
    let p = silent ts (j + 1) (j + 2) _ ((λ x. refl), (λ x. refl)) (omega arith) h in
    let q = counted ts (j + 2) (j + 3) _ ((λ x. refl), (λ x. refl)) (omega arith) m in
    let r = silent ts (j + 3) (j + 4) _ ((λ x. refl), (λ x. refl)) (omega arith) l in
    let f : brackets_at ts (j + 5) ≡ brackets_at ts (j + 4) - 1 = brackets_next ts (j + 4) (j + 5) _ (omega arith) c in
    let g : operators_at ts (j + 5) ≡ operators_at ts (j + 4) = operators_next ts (j + 4) (j + 5) _ (omega arith) c in
    record { brackets = omega (arith, a, f, p.brackets, q.brackets, r.brackets); operators = omega (arith, b, g, p.operators, q.operators, r.operators) }
