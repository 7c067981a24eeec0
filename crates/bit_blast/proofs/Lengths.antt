-- How many bits terms have.
use Rattle.std.proofs.Common.{◌≡◌, ℕ, ◌+◌, ◌-◌, ◌<◌, ◌≤◌, ℤ, pos, ◌/◌, List, [], ◌∷◌, length, map, take, drop, refl, sym, ◌∙◌, arith, zero, suc, length-append}
use Rattle.std.proofs.lemmas.List.{length-map, length-take-le, length-drop}
use Rattle.bv_terms.specs.declared.node.TermOp.{TermOp}
use Rattle.bv_terms.specs.declared.node.TermOp.TheVariants.{Add, Sub, And, Or, Xor, Concat, Equal, Less}
use Rattle.bv_terms.specs.TermTrees.{Term, constant, input, apply, not_, binary, slice, pick, width, joined_width, OperandsFit, IsTerm}
use Rattle.cnf_core.specs.Literals.{opposite}
use Rattle.bit_blast.specs.Gates.{bitwise, sums, equals, equals_from, less_from, fresh, constant_bits, and_gate, or_gate, xor_gate, true_bit, false_bit}
use Rattle.bit_blast.specs.Clauses.{joined}

pub constant-length : (w v : ℕ) → length (constant_bits w v) ≡ w
constant-length zero v = refl
constant-length (suc w) v = let h = constant-length w (v / 2) in omega arith

pub fresh-length : (n w : ℕ) → length (fresh n w) ≡ w
fresh-length n zero = refl
fresh-length n (suc w) = let h = fresh-length (suc n) w in omega arith

pub bitwise-length : (gate : ℤ → ℤ → ℤ → List (List ℤ)) (n : ℕ) (xs ys : List ℤ) → length xs ≡ length ys → length (bitwise gate n xs ys).bits ≡ length xs
bitwise-length gate n [] ys e = refl
bitwise-length gate n (x ∷ xs) [] e = absurd (omega arith)
bitwise-length gate n (x ∷ xs) (y ∷ ys) e = let h = bitwise-length gate (n + 1) xs ys (omega arith) in omega arith

pub sums-length : (n : ℕ) (c : ℤ) (xs ys : List ℤ) → length xs ≡ length ys → length (sums n c xs ys).bits ≡ length xs
sums-length n c [] ys e = refl
sums-length n c (x ∷ xs) [] e = absurd (omega arith)
sums-length n c (x ∷ xs) (y ∷ ys) e = let h = sums-length (n + 3) (pos (n + 2)) xs ys (omega arith) in omega arith

equals-from-length : (n : ℕ) (c : ℤ) (xs ys : List ℤ) → length (equals_from n c xs ys).bits ≡ 1
equals-from-length n c [] ys = refl
equals-from-length n c (x ∷ xs) [] = refl
equals-from-length n c (x ∷ xs) (y ∷ ys) = equals-from-length (n + 2) (pos (n + 1)) xs ys

equals-length : (n : ℕ) (xs ys : List ℤ) → length (equals n xs ys).bits ≡ 1
equals-length n [] ys = refl
equals-length n (x ∷ xs) [] = refl
equals-length n (x ∷ xs) (y ∷ ys) = equals-from-length (n + 1) (pos n) xs ys

less-length : (n : ℕ) (c : ℤ) (xs ys : List ℤ) → length (less_from n c xs ys).bits ≡ 1
less-length n c [] ys = refl
less-length n c (x ∷ xs) [] = refl
less-length n c (x ∷ xs) (y ∷ ys) = less-length (n + 2) (pos (n + 1)) xs ys

pub joined-length : (op : TermOp) (n v w : ℕ) (xs ys : List ℤ) → length xs ≡ v → length ys ≡ w → OperandsFit op v w → length (joined op n xs ys).bits ≡ joined_width op v w
joined-length Add n v w xs ys e f h = sums-length n false_bit xs ys (e ∙ h ∙ sym f) ∙ e
joined-length Sub n v w xs ys e f h = sums-length n true_bit xs (map opposite ys) (e ∙ h ∙ sym f ∙ sym (length-map ys opposite)) ∙ e
joined-length And n v w xs ys e f h = bitwise-length and_gate n xs ys (e ∙ h ∙ sym f) ∙ e
joined-length Or n v w xs ys e f h = bitwise-length or_gate n xs ys (e ∙ h ∙ sym f) ∙ e
joined-length Xor n v w xs ys e f h = bitwise-length xor_gate n xs ys (e ∙ h ∙ sym f) ∙ e
joined-length Concat n v w xs ys e f h = omega (arith, length-append ys xs)
joined-length Equal n v w xs ys e f h = equals-length n xs ys
joined-length Less n v w xs ys e f h = less-length n false_bit xs ys

pub slice-length : (xs : List ℤ) (high low w : ℕ) → length xs ≡ w → low ≤ high → high < w → length (take (high - low + 1) (drop low xs)) ≡ high - low + 1
slice-length xs high low w e h k = length-take-le (high - low + 1) (drop low xs) (omega (arith, length-drop low xs))

pub joined-wide : (op : TermOp) (v w : ℕ) → 1 ≤ v → 1 ≤ joined_width op v w
joined-wide Add v w h = h
joined-wide Sub v w h = h
joined-wide And v w h = h
joined-wide Or v w h = h
joined-wide Xor v w h = h
joined-wide Concat v w h = omega arith
joined-wide Equal v w h = omega arith
joined-wide Less v w h = omega arith

pub is-wide : (t : Term) → IsTerm t → 1 ≤ width t
is-wide (constant w n) h = h.0.0
is-wide (input i w) h = h.0
is-wide (apply f args w) h = h.1.0
is-wide (not_ a) h = is-wide a h
is-wide (binary op a b) h = joined-wide op (width a) (width b) (is-wide a h.0)
is-wide (slice a high low) h = omega arith
is-wide (pick c a b) h = is-wide a h.1
