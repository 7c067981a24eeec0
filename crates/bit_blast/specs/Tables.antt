-- Cited by private clauses: the bits of a node, given those of its parts.
use Rattle.std.specs.Prelude.{◌≡◌, ℕ, ◌+◌, ◌-◌, ◌<◌, ◌≤◌, ℤ, List, [], map, take, drop, length, option_map, unwrap_or}
use Rattle.std.specs.Ordering.{nat_cmp}
use Rattle.std.specs.BTreeMap.{get}
use Rattle.bv_terms.specs.declared.node.Node.{Node}
use Rattle.bv_terms.specs.declared.node.Node.TheVariants.{Constant, Input, Apply, Not, Binary, Slice, Pick}
use Rattle.cnf_core.specs.Literals.{opposite}
use Rattle.bit_blast.specs.declared.table.Table.{Table}
use Rattle.bit_blast.specs.Gates.{Circuit, choice_gate, constant_bits, fresh, plain, bitwise}
use Rattle.bit_blast.specs.Clauses.{OperandsMatch, first_bit, joined}
use Rattle.bit_blast.specs.Emitted.{numbers}

-- the bits of a term: none, if it has no row
abbrev pub bits_at : Table → ℕ → List ℤ
bits_at t term = unwrap_or (option_map (λ row. numbers row.items) (get nat_cmp t.rows term)) []

abbrev pub count_at : Table → ℕ → ℕ
count_at t term = length (bits_at t term)

-- each part has as many bits as its place takes
abbrev pub HasBits : Table → Node → Type 0
HasBits t (Binary op a b) = OperandsMatch op (count_at t a) (count_at t b) × (0 < count_at t a)
HasBits t (Slice a high low) = (low ≤ high) × (high < count_at t a)
HasBits t (Pick c a b) = (0 < count_at t c) × (count_at t a ≡ count_at t b)
HasBits t node = Unit {0}

-- the bits and gates of a node, by those of its parts, as `circuit_of` gives them of the node's term
abbrev pub circuit_of_node : (ℕ → List ℤ) → (n : ℕ) → Node → Circuit
circuit_of_node bits n (Constant b) = plain (constant_bits b.width b.value) n
circuit_of_node bits n (Input i w) = plain (fresh n w) (n + w)
circuit_of_node bits n (Apply f args w) = plain [] n
circuit_of_node bits n (Not a) = plain (map opposite (bits a)) n
circuit_of_node bits n (Binary op a b) = joined op n (bits a) (bits b)
circuit_of_node bits n (Slice a high low) = plain (take (high - low + 1) (drop low (bits a))) n
circuit_of_node bits n (Pick c a b) = bitwise (choice_gate (first_bit (bits c))) n (bits a) (bits b)
