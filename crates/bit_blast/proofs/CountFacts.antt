-- Counts of gates.
use Rattle.std.proofs.Common.{◌≡◌, ℕ, ◌+◌, ◌-◌, ◌*◌, ◌≤◌, ℤ, pos, List, [], ◌∷◌, ◌++◌, length, refl, ap, sym, ◌∙◌, subst, arith, length-append, suc}
use Rattle.bit_blast.specs.Gates.{Circuit, bitwise, sums, equals, equals_from, less_from, and_gate, xor_gate, same_gate, choice_gate}
use Rattle.bit_blast.specs.Emitted.{sum_gates}
use Rattle.bv_terms.specs.declared.node.TermOp.{TermOp}
use Rattle.std.proofs.Common.{map, true, take, get_or, slice_get, Some, ◌<◌}
use Rattle.std.proofs.lemmas.List.{map-append, take_more}
use Rattle.std.proofs.lemmas.List.Elements.{recursion_from_All}
use Rattle.std.proofs.lemmas.Option.{slice_get_within}
use Rattle.bv_terms.specs.declared.node.Node.{Node}
use Rattle.bv_terms.specs.declared.node.Node.TheVariants.{Binary, Pick}
use Rattle.bv_terms.specs.Arenas.{IsArena, term_at, width_at}
use Rattle.std.specs.List.{fold}
use Rattle.std.proofs.lemmas.List.{length-map}
use Rattle.bv_terms.specs.declared.node.TermOp.TheVariants.{Add, Sub, And, Or, Xor, Concat, Equal, Less}
use Rattle.bv_terms.specs.TermTrees.{Term, constant, input, apply, not_, binary, slice, pick, width, OperandsFit, IsTerm}
use Rattle.cnf_core.specs.Literals.{opposite}
use Rattle.bit_blast.specs.Gates.{or_gate, true_bit, false_bit}
use Rattle.bv_terms.specs.Walks.{is_among, walk}
use Rattle.bit_blast.specs.Clauses.{Blasted, bits_in, blasted, count_of, first_bit, goal_bit, goal_blasted, joined, circuit_of, with_term}
use Rattle.bit_blast.specs.Counts.{operator_clauses, term_clauses, total_clauses}
use Rattle.bit_blast.specs.Goals.{IsUnapplied}
use Rattle.bit_blast.proofs.Lengths.{is-wide}
use Rattle.bit_blast.specs.Orders.{OfParts, Ordered, terms_of}
use Rattle.bit_blast.proofs.Tabling.{Tabled, goal-ordered, its-tabled, no-terms, parts-each}

-- a part whose first variable is n
pub record HasCount (p : Circuit) (n vars clauses : ℕ) : Type 0 where
  pub next : p.next ≡ n + vars
  pub count : length p.clauses ≡ clauses

pub bitwise-count : (gate : ℤ → ℤ → ℤ → List (List ℤ)) (k : ℕ) → ((g a b : ℤ) → length (gate g a b) ≡ k) → (n : ℕ) (xs ys : List ℤ) → length xs ≡ length ys
    → HasCount (bitwise gate n xs ys) n (length xs) (k * length xs)
bitwise-count gate k h n [] ys e = record { next = omega arith; count = omega arith }
bitwise-count gate k h n (x ∷ xs) [] e = absurd (omega arith)
bitwise-count gate k h n (x ∷ xs) (y ∷ ys) e =
    let r = bitwise-count gate k h (n + 1) xs ys (omega arith) in
    let a = length-append (gate (pos n) x y) (bitwise gate (n + 1) xs ys).clauses in
    let q = h (pos n) x y in
    let m : k * suc (length xs) ≡ k + k * length xs = omega arith in
    record { next = (let r' = r.next in omega arith); count = (let r' = r.count in omega arith) }

sum-length : (n : ℕ) (c a b : ℤ) → length (sum_gates n c a b) ≡ 14
sum-length n c a b = refl

pub sums-count : (n : ℕ) (c : ℤ) (xs ys : List ℤ) → length xs ≡ length ys → HasCount (sums n c xs ys) n (3 * length xs) (14 * length xs)
sums-count n c [] ys e = record { next = omega arith; count = omega arith }
sums-count n c (x ∷ xs) [] e = absurd (omega arith)
sums-count n c (x ∷ xs) (y ∷ ys) e =
    let r = sums-count (n + 3) (pos (n + 2)) xs ys (omega arith) in
    let a = length-append (sum_gates n c x y) (sums (n + 3) (pos (n + 2)) xs ys).clauses in
    record { next = (let r' = r.next in omega arith); count = (let r' = r.count in let q = sum-length n c x y in omega arith) }

pub equals-from-count : (n : ℕ) (chain : ℤ) (xs ys : List ℤ) → length xs ≡ length ys → HasCount (equals_from n chain xs ys) n (2 * length xs) (7 * length xs)
equals-from-count n chain [] ys e = record { next = omega arith; count = omega arith }
equals-from-count n chain (x ∷ xs) [] e = absurd (omega arith)
equals-from-count n chain (x ∷ xs) (y ∷ ys) e =
    let gates = same_gate (pos n) x y ++ and_gate (pos (n + 1)) chain (pos n) in
    let r = equals-from-count (n + 2) (pos (n + 1)) xs ys (omega arith) in
    let a = length-append gates (equals_from (n + 2) (pos (n + 1)) xs ys).clauses in
    let q : length gates ≡ 7 = refl in
    record { next = (let r' = r.next in omega arith); count = (let r' = r.count in omega arith) }

pub equals-count : (n w : ℕ) (xs ys : List ℤ) → 1 ≤ w → length xs ≡ w → length ys ≡ w → HasCount (equals n xs ys) n (2 * w - 1) (7 * w - 3)
equals-count n w [] ys l e f = absurd (omega arith)
equals-count n w (x ∷ xs) [] l e f = absurd (omega arith)
equals-count n w (x ∷ xs) (y ∷ ys) l e f =
    let gates = same_gate (pos n) x y in
    let r = equals-from-count (n + 1) (pos n) xs ys (omega arith) in
    let a = length-append gates (equals_from (n + 1) (pos n) xs ys).clauses in
    let q : length gates ≡ 4 = refl in
    record { next = (let r' = r.next in omega arith); count = (let r' = r.count in omega arith) }

pub less-count : (n : ℕ) (below : ℤ) (xs ys : List ℤ) → length xs ≡ length ys → HasCount (less_from n below xs ys) n (2 * length xs) (10 * length xs)
less-count n below [] ys e = record { next = omega arith; count = omega arith }
less-count n below (x ∷ xs) [] e = absurd (omega arith)
less-count n below (x ∷ xs) (y ∷ ys) e =
    let gates = xor_gate (pos n) x y ++ choice_gate (pos n) (pos (n + 1)) y below in
    let r = less-count (n + 2) (pos (n + 1)) xs ys (omega arith) in
    let a = length-append gates (less_from (n + 2) (pos (n + 1)) xs ys).clauses in
    let q : length gates ≡ 10 = refl in
    record { next = (let r' = r.next in omega arith); count = (let r' = r.count in omega arith) }

-- ---- by the width

pub bitwise-width : (gate : ℤ → ℤ → ℤ → List (List ℤ)) (k w n : ℕ) (xs ys : List ℤ) → ((g a b : ℤ) → length (gate g a b) ≡ k) → length xs ≡ w → length ys ≡ w
    → HasCount (bitwise gate n xs ys) n w (k * w)
bitwise-width gate k w n xs ys h e f = subst (λ m. HasCount (bitwise gate n xs ys) n m (k * m)) e (bitwise-count gate k h n xs ys (e ∙ sym f))

pub sums-width : (w n : ℕ) (c : ℤ) (xs ys : List ℤ) → length xs ≡ w → length ys ≡ w → HasCount (sums n c xs ys) n (3 * w) (14 * w)
sums-width w n c xs ys e f = subst (λ m. HasCount (sums n c xs ys) n (3 * m) (14 * m)) e (sums-count n c xs ys (e ∙ sym f))

pub less-width : (w n : ℕ) (c : ℤ) (xs ys : List ℤ) → length xs ≡ w → length ys ≡ w → HasCount (less_from n c xs ys) n (2 * w) (10 * w)
less-width w n c xs ys e f = subst (λ m. HasCount (less_from n c xs ys) n (2 * m) (10 * m)) e (less-count n c xs ys (e ∙ sym f))

-- ---- terms

joined-count : (op : TermOp) (n v w : ℕ) (xs ys : List ℤ) → 1 ≤ v → length xs ≡ v → length ys ≡ w → OperandsFit op v w → length (joined op n xs ys).clauses ≡ operator_clauses op v
joined-count Add n v w xs ys l e f h = (sums-width v n false_bit xs ys e (f ∙ sym h)).count
joined-count Sub n v w xs ys l e f h = (sums-width v n true_bit xs (map opposite ys) e (length-map ys opposite ∙ f ∙ sym h)).count
joined-count And n v w xs ys l e f h = (bitwise-width and_gate 3 v n xs ys (λ g x y. refl) e (f ∙ sym h)).count
joined-count Or n v w xs ys l e f h = (bitwise-width or_gate 3 v n xs ys (λ g x y. refl) e (f ∙ sym h)).count
joined-count Xor n v w xs ys l e f h = (bitwise-width xor_gate 4 v n xs ys (λ g x y. refl) e (f ∙ sym h)).count
joined-count Concat n v w xs ys l e f h = refl
joined-count Equal n v w xs ys l e f h = (equals-count n v xs ys l e (f ∙ sym h)).count
joined-count Less n v w xs ys l e f h = (less-width v n false_bit xs ys e (f ∙ sym h)).count

part-count : (bits : Term → List ℤ) (n : ℕ) (t : Term) → IsTerm t → OfParts (λ u. length (bits u) ≡ width u) t → length (circuit_of bits n t).clauses ≡ term_clauses t
part-count bits n (constant w k) h c = refl
part-count bits n (input i w) h c = refl
part-count bits n (apply f args w) h c = refl
part-count bits n (not_ a) h c = refl
part-count bits n (binary op a b) h c = joined-count op n (width a) (width b) (bits a) (bits b) (is-wide a h.0) c.0 c.1 h.2
part-count bits n (slice a high low) h c = refl
part-count bits n (pick c a b) h k = (bitwise-width (choice_gate (first_bit (bits c))) 6 (width a) n (bits a) (bits b) (λ g x y. refl) k.1 (k.2 ∙ sym h.4)).count

all-count : (ts seen : List Term) (s : Blasted) → Ordered seen ts → Tabled seen s → length (fold with_term s ts).clauses ≡ length s.clauses + total_clauses ts
all-count [] seen s o h = omega arith
all-count (t ∷ ts) seen s o h =
    let p = circuit_of (bits_in s.table) s.next t in
    (let r = all-count ts (seen ++ t ∷ []) (with_term s t) o.1 (its-tabled seen s t h o.0) in
    let a = length-append s.clauses p.clauses in
    let c = part-count (bits_in s.table) s.next t o.0.term (parts-each (λ u. is_among seen u ≡ true) (λ u. length (bits_in s.table u) ≡ width u) h.counts t o.0.parts) in omega arith)

pub goal-count : (goal : Term) → IsTerm goal → IsUnapplied goal → total_clauses (walk goal []) + 2 ≡ count_of goal
goal-count goal h u =
    (let c = all-count (walk goal []) [] (blasted []) (goal-ordered goal h u) no-terms in
    let a = length-append (goal_blasted goal).clauses ((goal_bit goal ∷ []) ∷ []) in omega arith)

pub total-more : (ts : List Term) (t : Term) → total_clauses (ts ++ t ∷ []) ≡ total_clauses ts + term_clauses t
total-more [] t = omega arith
total-more (u ∷ ts) t = (let h = total-more ts t in omega arith)

-- ---- the count of an arena's term

pub next-total : (nodes : List Node) (order : List ℕ) (i id d count next : ℕ) → i < length order → id ≡ get_or order i d → count ≡ total_clauses (terms_of nodes (take i order)) + 2
    → next ≡ count + term_clauses (term_at nodes id) → next ≡ total_clauses (terms_of nodes (take (i + 1) order)) + 2
next-total nodes order i id d count next l e h n =
    let taken : terms_of nodes (take (i + 1) order) ≡ terms_of nodes (take i order) ++ term_at nodes id ∷ []
    = ap (terms_of nodes) (take_more order i d l ∙ ap (λ x. take i order ++ x ∷ []) (sym e)) ∙ map-append (term_at nodes) (take i order) (id ∷ []) in
    (let m = total-more (terms_of nodes (take i order)) (term_at nodes id) in let t = ap total_clauses taken in omega arith)

-- the first operand
pub operand : (nodes : List Node) (k : ℕ) (op : TermOp) (a b : ℕ) (node : Node) → IsArena nodes → slice_get nodes k ≡ Some node → node ≡ Binary op a b
    → (a < length nodes) × (1 ≤ width_at nodes a)
operand nodes k op a b node arena n e =
    let there = slice_get_within nodes k node n in
    let at : slice_get nodes k ≡ Some (Binary op a b) = n ∙ ap Some e in
    let below = recursion_from_All (λ p. p < k) (a ∷ b ∷ []) (arena.below k (Binary op a b) at) in
    ((let q = below.0 in omega arith), is-wide (term_at nodes a) (arena.terms a (let q = below.0 in omega arith)))

pub second : (nodes : List Node) (k c a b : ℕ) (node : Node) → IsArena nodes → slice_get nodes k ≡ Some node → node ≡ Pick c a b → a < length nodes
second nodes k c a b node arena n e =
    let there = slice_get_within nodes k node n in
    let below = recursion_from_All (λ p. p < k) (c ∷ a ∷ b ∷ []) (arena.below k (Pick c a b) (n ∙ ap Some e)) in
    (let q = below.1.0 in omega arith)
