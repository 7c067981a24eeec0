-- Cited by private clauses, and `numbers` by what `InputMap` stands for: the gates that code has made so far, as the
-- definitions see them.
use Rattle.std.specs.Prelude.{◌≡◌, ℕ, ◌+◌, ℤ, pos, List, ◌++◌, map}
use Rattle.cnf_core.specs.Clauses.{literals}
use Rattle.bit_blast.specs.declared.bit.Bit.{Bit}
use Rattle.bit_blast.specs.declared.made.Gates.{Gates}
use Rattle.bit_blast.specs.declared.joining.BitGate.{BitGate}
use Rattle.bit_blast.specs.declared.joining.BitGate.TheVariants.{And, Or, Xor, Choice}
use Rattle.bit_blast.specs.Gates.{Circuit, and_gate, or_gate, xor_gate, choice_gate, carry_gate}

abbrev pub numbers : List Bit → List ℤ
numbers bits = map (λ (b : Bit). b.number) bits

abbrev pub listed : Gates → List (List ℤ)
listed g = map literals g.clauses.items

-- one gate more, with these clauses
pub record IsGate (old new : Gates) (clauses : List (List ℤ)) (bit : ℤ) : Type 0 where
  pub is : bit ≡ pos old.next
  pub next : new.next ≡ old.next + 1
  pub listed_ : listed new ≡ listed old ++ clauses

-- the gates of some bits more
pub record AreGates (old new : Gates) (circuit : Circuit) (bits : List ℤ) : Type 0 where
  pub are : bits ≡ circuit.bits
  pub next : new.next ≡ circuit.next
  pub listed_ : listed new ≡ listed old ++ circuit.clauses

-- one gate a bit, by one of these
abbrev pub gate_of : BitGate → (g a b : ℤ) → List (List ℤ)
gate_of And = and_gate
gate_of Or = or_gate
gate_of Xor = xor_gate
gate_of (Choice c) = choice_gate c.number

-- the sum and the carry of one bit
abbrev pub sum_gates : (n : ℕ) → (below a b : ℤ) → List (List ℤ)
sum_gates n below a b =
    xor_gate (pos n) a b ++ xor_gate (pos (n + 1)) (pos n) below ++ carry_gate (pos (n + 2)) a b below

pub record IsSumBit (old new : Gates) (below a b sum carry : ℤ) : Type 0 where
  pub sum_is : sum ≡ pos (old.next + 1)
  pub carry_is : carry ≡ pos (old.next + 2)
  pub next : new.next ≡ old.next + 3
  pub listed_ : listed new ≡ listed old ++ sum_gates old.next below a b

-- two gates, the second of which is the bit
pub record IsPair (old new : Gates) (clauses : List (List ℤ)) (bit : ℤ) : Type 0 where
  pub is : bit ≡ pos (old.next + 1)
  pub next : new.next ≡ old.next + 2
  pub listed_ : listed new ≡ listed old ++ clauses

-- a circuit whose first bits and gates are made, and the rest is to come
pub record Continues (old now : Gates) (whole rest : Circuit) (made : List ℤ) : Type 0 where
  pub bits_ : whole.bits ≡ made ++ rest.bits
  pub clauses_ : listed old ++ whole.clauses ≡ listed now ++ rest.clauses
  pub next_ : whole.next ≡ rest.next
