-- Cited by the laws on gates, by the definition of the clauses and by private clauses: gates as clauses, and how bits are joined by them, from bit 0 on.
-- A literal is a signed number, as DIMACS writes it. It follows the section "Clauses" of docs/CLAUSES.md, clause by clause.
use Rattle.std.specs.Prelude.{ℕ, ◌+◌, ◌/◌, ◌%◌, ◌==◌, zero, suc, ℤ, pos, negsuc, List, [], ◌∷◌, ◌++◌, if◌then◌else◌}
use Rattle.cnf_core.specs.Literals.{opposite}

-- ---- single gates: g is the gate

abbrev pub and_gate : (g a b : ℤ) → List (List ℤ)
and_gate g a b =
    (opposite g ∷ a ∷ []) ∷ (opposite g ∷ b ∷ []) ∷ (g ∷ opposite a ∷ opposite b ∷ []) ∷ []

abbrev pub or_gate : (g a b : ℤ) → List (List ℤ)
or_gate g a b =
    (g ∷ opposite a ∷ []) ∷ (g ∷ opposite b ∷ []) ∷ (opposite g ∷ a ∷ b ∷ []) ∷ []

abbrev pub xor_gate : (g a b : ℤ) → List (List ℤ)
xor_gate g a b =
    (opposite g ∷ a ∷ b ∷ []) ∷ (opposite g ∷ opposite a ∷ opposite b ∷ [])
    ∷ (g ∷ opposite a ∷ b ∷ []) ∷ (g ∷ a ∷ opposite b ∷ []) ∷ []

-- the two bits are equal
abbrev pub same_gate : (g a b : ℤ) → List (List ℤ)
same_gate g a b =
    (g ∷ a ∷ b ∷ []) ∷ (g ∷ opposite a ∷ opposite b ∷ [])
    ∷ (opposite g ∷ opposite a ∷ b ∷ []) ∷ (opposite g ∷ a ∷ opposite b ∷ []) ∷ []

-- a where c is true, else b
abbrev pub choice_gate : (c g a b : ℤ) → List (List ℤ)
choice_gate c g a b =
    (opposite c ∷ opposite a ∷ g ∷ []) ∷ (opposite c ∷ a ∷ opposite g ∷ [])
    ∷ (c ∷ opposite b ∷ g ∷ []) ∷ (c ∷ b ∷ opposite g ∷ [])
    ∷ (opposite a ∷ opposite b ∷ g ∷ []) ∷ (a ∷ b ∷ opposite g ∷ []) ∷ []

-- at least two of the three are true
abbrev pub carry_gate : (g a b c : ℤ) → List (List ℤ)
carry_gate g a b c =
    (opposite a ∷ opposite b ∷ g ∷ []) ∷ (opposite a ∷ opposite c ∷ g ∷ [])
    ∷ (opposite b ∷ opposite c ∷ g ∷ []) ∷ (a ∷ b ∷ opposite g ∷ [])
    ∷ (a ∷ c ∷ opposite g ∷ []) ∷ (b ∷ c ∷ opposite g ∷ []) ∷ []

-- ---- bits

-- the constant bits: variable 1 and its opposite
abbrev pub true_bit : ℤ
true_bit = pos 1

abbrev pub false_bit : ℤ
false_bit = negsuc 0

-- the bits of a number, from bit 0 on
abbrev pub constant_bits : (width n : ℕ) → List ℤ
constant_bits zero n = []
constant_bits (suc w) n = (if n % 2 == 1 then true_bit else false_bit) ∷ constant_bits w (n / 2)

-- new variables, from n on
abbrev pub fresh : (n width : ℕ) → List ℤ
fresh n zero = []
fresh n (suc w) = pos n ∷ fresh (suc n) w

-- ---- bits by gates

-- bits with the clauses of their gates, and the variable that is free after them
pub record Circuit : Type 0 where
  pub bits : List ℤ
  pub clauses : List (List ℤ)
  pub next : ℕ

-- bits that take no gate
abbrev pub plain : List ℤ → ℕ → Circuit
plain bits n = record { bits = bits; clauses = []; next = n }

-- bits and clauses, and then those of a circuit
abbrev pub before : List ℤ → List (List ℤ) → Circuit → Circuit
before bits clauses p = record { bits = bits ++ p.bits; clauses = clauses ++ p.clauses; next = p.next }

-- one gate a bit
abbrev pub bitwise : (ℤ → ℤ → ℤ → List (List ℤ)) → (n : ℕ) → (xs ys : List ℤ) → Circuit
bitwise gate n (a ∷ xs) (b ∷ ys) = before (pos n ∷ []) (gate (pos n) a b) (bitwise gate (n + 1) xs ys)
bitwise gate n xs ys = plain [] n

-- a sum with a carry from below: the XOR of the operands, the XOR with the carry below, the carry
abbrev pub sums : (n : ℕ) → (below : ℤ) → (xs ys : List ℤ) → Circuit
sums n below (a ∷ xs) (b ∷ ys) =
    before (pos (n + 1) ∷ [])
    (xor_gate (pos n) a b ++ xor_gate (pos (n + 1)) (pos n) below ++ carry_gate (pos (n + 2)) a b below)
    (sums (n + 3) (pos (n + 2)) xs ys)
sums n below xs ys = plain [] n

-- the chain so far, and at each bit the equality and then the AND with the chain
abbrev pub equals_from : (n : ℕ) → (chain : ℤ) → (xs ys : List ℤ) → Circuit
equals_from n chain (a ∷ xs) (b ∷ ys) =
    before [] (same_gate (pos n) a b ++ and_gate (pos (n + 1)) chain (pos n)) (equals_from (n + 2) (pos (n + 1)) xs ys)
equals_from n chain xs ys = plain (chain ∷ []) n

-- the first equality stands for itself
abbrev pub equals : (n : ℕ) → (xs ys : List ℤ) → Circuit
equals n (a ∷ xs) (b ∷ ys) = before [] (same_gate (pos n) a b) (equals_from (n + 1) (pos n) xs ys)
equals n xs ys = plain (true_bit ∷ []) n

-- at each bit the XOR, and then the choice: the second operand's bit where they differ, else the answer below
abbrev pub less_from : (n : ℕ) → (below : ℤ) → (xs ys : List ℤ) → Circuit
less_from n below (a ∷ xs) (b ∷ ys) =
    before [] (xor_gate (pos n) a b ++ choice_gate (pos n) (pos (n + 1)) b below)
    (less_from (n + 2) (pos (n + 1)) xs ys)
less_from n below xs ys = plain (below ∷ []) n
