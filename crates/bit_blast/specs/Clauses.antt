-- Cited by the clauses of `blast`, by the laws on clauses, and by private clauses: the clauses of a goal, in their order. It
-- follows the section "Clauses" of docs/CLAUSES.md.
use Rattle.std.specs.Prelude.{◌≡◌, ℕ, ◌+◌, ◌-◌, ℤ, List, [], ◌∷◌, ◌++◌, map, take, drop, fold, length, if◌then◌else◌, slice_index_or}
use Rattle.bv_terms.specs.declared.node.TermOp.{TermOp}
use Rattle.bv_terms.specs.declared.node.TermOp.TheVariants.{Add, Sub, And, Or, Xor, Concat, Equal, Less}
use Rattle.bv_terms.specs.TermTrees.{Term, constant, input, apply, not_, binary, slice, pick}
use Rattle.bv_terms.specs.Walks.{same_term, walk}
use Rattle.cnf_core.specs.Literals.{opposite}
use Rattle.bit_blast.specs.Gates.{Circuit, and_gate, or_gate, xor_gate, choice_gate, true_bit, false_bit, constant_bits, fresh, plain, bitwise, sums, equals, less_from}

-- ---- the bits of terms

abbrev pub first_bit : List ℤ → ℤ
first_bit bits = slice_index_or bits 0 true_bit

abbrev pub joined : TermOp → (n : ℕ) → (a b : List ℤ) → Circuit
joined Add n a b = sums n false_bit a b
joined Sub n a b = sums n true_bit a (map opposite b)
joined And n a b = bitwise and_gate n a b
joined Or n a b = bitwise or_gate n a b
joined Xor n a b = bitwise xor_gate n a b
joined Concat n a b = plain (b ++ a) n
joined Equal n a b = equals n a b
joined Less n a b = less_from n false_bit a b

-- how many bits the operands have
abbrev pub OperandsMatch : TermOp → ℕ → ℕ → Type 0
OperandsMatch Concat v w = Unit {0}
OperandsMatch op v w = v ≡ w

-- the bits and gates of a term, given the bits of its parts. A goal has no applications
abbrev pub circuit_of : (Term → List ℤ) → (n : ℕ) → Term → Circuit
circuit_of bits n (constant w v) = plain (constant_bits w v) n
circuit_of bits n (input i w) = plain (fresh n w) (n + w)
circuit_of bits n (apply f args w) = plain [] n
circuit_of bits n (not_ a) = plain (map opposite (bits a)) n
circuit_of bits n (binary op a b) = joined op n (bits a) (bits b)
circuit_of bits n (slice a high low) = plain (take (high - low + 1) (drop low (bits a))) n
circuit_of bits n (pick c a b) = bitwise (choice_gate (first_bit (bits c))) n (bits a) (bits b)

-- terms with their bits, the clauses of their gates, and the variable that is free after them
pub record Blasted : Type 0 where
  pub table : List (Term × List ℤ)
  pub clauses : List (List ℤ)
  pub next : ℕ

-- the bits of a term in a table
abbrev pub bits_in : List (Term × List ℤ) → Term → List ℤ
bits_in [] t = []
bits_in (row ∷ rows) t = if same_term row.0 t then row.1 else bits_in rows t

abbrev pub with_circuit : Blasted → Term → Circuit → Blasted
with_circuit s t p = record {
  table = s.table ++ (t, p.bits) ∷ [];
  clauses = s.clauses ++ p.clauses;
  next = p.next;
}

abbrev pub with_term : Blasted → Term → Blasted
with_term s t = with_circuit s t (circuit_of (bits_in s.table) s.next t)

-- variable 1 is the constant
abbrev pub blasted : List Term → Blasted
blasted ts = fold with_term (record { table = []; clauses = []; next = 2 }) ts

-- ---- the whole list

abbrev pub goal_blasted : Term → Blasted
goal_blasted goal = blasted (walk goal [])

abbrev pub goal_bit : Term → ℤ
goal_bit goal = first_bit (bits_in (goal_blasted goal).table goal)

-- the constant, the terms in the walk's order, the goal
abbrev pub clauses_of : Term → List (List ℤ)
clauses_of goal = (true_bit ∷ []) ∷ (goal_blasted goal).clauses ++ (goal_bit goal ∷ []) ∷ []

abbrev pub vars_of : Term → ℕ
vars_of goal = (goal_blasted goal).next - 1

abbrev pub count_of : Term → ℕ
count_of goal = length (clauses_of goal)
