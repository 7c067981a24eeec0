-- The gates of terms in their order.
use Rattle.std.proofs.Common.{◌≡◌, ℕ, ◌+◌, ◌-◌, ◌<◌, ◌==◌, ℤ, true, false, List, [], ◌∷◌, ◌++◌, length, map, take, drop, Option, Some, slice_get, refl, ap, sym, ◌∙◌, subst, arith, get_or, inl, inr, append_assoc, suc}
use Rattle.std.specs.Prelude.{Vec}
use Rattle.std.specs.declared.alloc.Global.{Global}
use Rattle.std.specs.List.{AllByRecursion}
use Rattle.std.specs.Option.{option_map, unwrap_or}
use Rattle.std.specs.Ordering.{nat_cmp}
use Rattle.std.specs.BTreeMap.{UpdatesBy, get, is_at}
use Rattle.std.specs.Map.{lookup}
use Rattle.std.proofs.Math.Seq.{drop-cons}
use Rattle.std.proofs.lemmas.List.{append-nil, map-append, take-append-drop, take_more}
use Rattle.std.proofs.lemmas.List.Sums.{fold-append}
use Rattle.std.proofs.lemmas.List.Elements.{recursion_from_All}
use Rattle.std.proofs.lemmas.Option.{slice_get_within}
use Rattle.std.proofs.lemmas.Bool.{cases_Bool, cond-true, cond-false, eqb-true, eq-eqb, false≢true}
use Rattle.bv_terms.specs.declared.node.Node.{Node}
use Rattle.bv_terms.specs.declared.node.Node.TheVariants.{Constant, Input, Apply, Not, Binary, Slice, Pick}
use Rattle.bv_terms.specs.declared.node.TermOp.{TermOp}
use Rattle.bv_terms.specs.declared.node.TermOp.TheVariants.{Add, Sub, And, Or, Xor, Concat, Equal, Less}
use Rattle.bv_terms.specs.TermTrees.{Term, width, OperandsFit, IsTerm}
use Rattle.bv_terms.specs.Arenas.{IsArena, parts, term_at, made_of}
use Rattle.bv_terms.specs.Walks.{is_among, same_term, walk}
use Rattle.bv_terms.proofs.Members.{at-number, both, each}
use Rattle.bv_terms.proofs.OneNumber.{one-number}
use Rattle.bv_terms.proofs.SameTerms.{same-only}
use Rattle.cnf_core.specs.Literals.{opposite}
use Rattle.cnf_core.specs.Clauses.{literals}
use Rattle.cnf_core.specs.declared.clauses.Cnf.{Cnf}
use Rattle.bit_blast.specs.declared.bit.Bit.{Bit}
use Rattle.bit_blast.specs.declared.made.Gates.{Gates}
use Rattle.bit_blast.specs.declared.table.Table.{Table}
use Rattle.bit_blast.specs.Gates.{Circuit, plain, true_bit}
use Rattle.bit_blast.specs.Clauses.{Blasted, OperandsMatch, bits_in, blasted, circuit_of, first_bit, goal_blasted, joined, with_term}
use Rattle.bit_blast.specs.Blasting.{IsClauses}
use Rattle.bit_blast.specs.Emitted.{numbers, listed, AreGates}
use Rattle.bit_blast.specs.Goals.{IsUnapplied}
use Rattle.bit_blast.specs.Orders.{Fresh, IsEmitted, IsOrder, IsWalked, OfParts, Ordered, terms_of}
use Rattle.bit_blast.specs.Tables.{HasBits, bits_at, circuit_of_node, count_at}
use Rattle.bit_blast.proofs.Lengths.{is-wide}
use Rattle.bit_blast.proofs.Tabling.{Tabled, all-tabled, goal-ordered, goal-tabled, goal-there, its-bits, no-terms}

-- ---- what holds of the parts of a node

to-parts : (P : Term → Type 0) (f : ℕ → Term) (node : Node) → IsUnapplied (made_of f node) → OfParts P (made_of f node) → AllByRecursion (λ p. P (f p)) (parts node)
to-parts P f (Constant b) u h = tt
to-parts P f (Input i w) u h = tt
to-parts P f (Apply g args w) u h = absurd u
to-parts P f (Not a) u h = (h, tt)
to-parts P f (Binary op a b) u h = (h.0, (h.1, tt))
to-parts P f (Slice a high low) u h = (h, tt)
to-parts P f (Pick c a b) u h = (h.0, (h.1, (h.2, tt)))

-- ---- the part of a node is that of its term

node-part : (rows : ℕ → List ℤ) (bits : Term → List ℤ) (f : ℕ → Term) (n : ℕ) (node : Node) → AllByRecursion (λ p. bits (f p) ≡ rows p) (parts node)
    → circuit_of bits n (made_of f node) ≡ circuit_of_node rows n node
node-part rows bits f n (Constant b) e = refl
node-part rows bits f n (Input i w) e = refl
node-part rows bits f n (Apply g args w) e = refl
node-part rows bits f n (Not a) e = ap (λ xs. plain (map opposite xs) n) e.0
node-part rows bits f n (Binary op a b) e = ap (λ xs. joined op n xs (bits (f b))) e.0 ∙ ap (joined op n (rows a)) e.1.0
node-part rows bits f n (Slice a high low) e = ap (λ xs. plain (take (high - low + 1) (drop low xs)) n) e.0
node-part rows bits f n (Pick c a b) e = rw (e.0, e.1.0, e.1.1.0) refl

operands-match : (op : TermOp) (v w x y : ℕ) → x ≡ v → y ≡ w → OperandsFit op v w → OperandsMatch op x y
operands-match Add v w x y e f h = e ∙ h ∙ sym f
operands-match Sub v w x y e f h = e ∙ h ∙ sym f
operands-match And v w x y e f h = e ∙ h ∙ sym f
operands-match Or v w x y e f h = e ∙ h ∙ sym f
operands-match Xor v w x y e f h = e ∙ h ∙ sym f
operands-match Concat v w x y e f h = tt
operands-match Equal v w x y e f h = e ∙ h ∙ sym f
operands-match Less v w x y e f h = e ∙ h ∙ sym f

has-bits : (table : Table) (f : ℕ → Term) (node : Node) → AllByRecursion (λ p. count_at table p ≡ width (f p)) (parts node) → IsTerm (made_of f node) → HasBits table node
has-bits table f (Constant b) e h = tt
has-bits table f (Input i w) e h = tt
has-bits table f (Apply g args w) e h = tt
has-bits table f (Not a) e h = tt
has-bits table f (Binary op a b) e h =
    (operands-match op (width (f a)) (width (f b)) (count_at table a) (count_at table b) e.0 e.1.0 h.2, (let q = is-wide (f a) h.0 in let w = e.0 in omega arith))
has-bits table f (Slice a high low) e h = (h.1, (let q = h.2 in let w = e.0 in omega arith))
has-bits table f (Pick c a b) e h = ((let q = h.3 in let w = e.0 in omega arith), e.1.0 ∙ h.4 ∙ sym e.1.1.0)

-- ---- the bits of another term stay

bits-other : (rows : List (Term × List ℤ)) (t u : Term) (bits : List ℤ) → same_term t u ≡ false → bits_in (rows ++ (t, bits) ∷ []) u ≡ bits_in rows u
bits-other [] t u bits e = cond-false (same_term t u) bits [] e
bits-other (r ∷ rows) t u bits e = elim (cases_Bool (same_term r.0 u)) [
  | inl b ↦ cond-true (same_term r.0 u) r.1 (bits_in (rows ++ (t, bits) ∷ []) u) b ∙ sym (cond-true (same_term r.0 u) r.1 (bits_in rows u) b)
  | inr b ↦ cond-false (same_term r.0 u) r.1 (bits_in (rows ++ (t, bits) ∷ []) u) b ∙ bits-other rows t u bits e ∙ sym (cond-false (same_term r.0 u) r.1 (bits_in rows u) b)
]

-- ---- an order up to a term

ordered-split : (seen xs : List Term) (t : Term) (ys : List Term) → Ordered seen (xs ++ t ∷ ys) → Ordered seen xs × Fresh (seen ++ xs) t
ordered-split seen [] t ys h = (tt, subst (λ s. Fresh s t) (sym (append-nil seen)) h.0)
ordered-split seen (x ∷ xs) t ys h =
    let r = ordered-split (seen ++ x ∷ []) xs t ys h.1 in
    ((h.0, r.0), subst (λ s. Fresh s t) (append_assoc seen (x ∷ []) xs) r.1)

module _ (nodes : List Node) (order : List ℕ) (i d : ℕ) (gates : Gates) (table : Table) (node : Node) (arena : IsArena nodes) (o : IsOrder nodes order)
    (h : IsEmitted nodes (terms_of nodes (take i order)) gates table) (l : i < length order) (n : slice_get nodes (get_or order i d) ≡ Some node) where
  abbrev id : ℕ
  id = get_or order i d

  abbrev t : Term
  t = term_at nodes id

  abbrev ts : List Term
  ts = terms_of nodes (take i order)

  abbrev s : Blasted
  s = blasted ts

  inside : id < length nodes
  inside = slice_get_within nodes id node n

  made : t ≡ made_of (term_at nodes) node
  made = arena.made id node n

  split : terms_of nodes order ≡ ts ++ t ∷ terms_of nodes (drop (suc i) order)
  split =
      ap (terms_of nodes) (sym (take-append-drop i order) ∙ ap (λ xs. take i order ++ xs) (drop-cons order i d l))
      ∙ map-append (term_at nodes) (take i order) (id ∷ drop (suc i) order)

  up-to : Ordered [] ts × Fresh ts t
  up-to = ordered-split [] ts t (terms_of nodes (drop (suc i) order)) (subst (Ordered []) split o.ordered)

  tabled : Tabled ts s
  tabled = all-tabled ts [] (blasted []) up-to.0 no-terms

  -- what is known of its parts
  record PartKnown (p : ℕ) : Type 0 where
    bits : bits_in s.table (term_at nodes p) ≡ bits_at table p
    count : count_at table p ≡ width (term_at nodes p)

  parts-known : AllByRecursion PartKnown (parts node)
  parts-known =
      both (λ p. p < id) (λ p. is_among ts (term_at nodes p) ≡ true) PartKnown
      (λ p l k. let b = h.bits_are p (let z = inside in omega arith) in record { bits = sym b; count = ap length b ∙ tabled.counts (term_at nodes p) k }) (parts node)
      (recursion_from_All (λ p. p < id) (parts node) (arena.below id node n))
      (to-parts (λ u. is_among ts u ≡ true) (term_at nodes) node (subst IsUnapplied made up-to.1.unapplied) (subst (OfParts (λ u. is_among ts u ≡ true)) made up-to.1.parts))

  pub emit-ready : HasBits table node
  emit-ready = has-bits table (term_at nodes) node (each (λ p (k : PartKnown p). k.count) (parts node) parts-known) (subst IsTerm made (arena.terms id inside))

  its_part : circuit_of (bits_in s.table) s.next t ≡ circuit_of_node (bits_at table) gates.next node
  its_part =
      ap (λ n. circuit_of (bits_in s.table) n t) (sym h.next_is) ∙ ap (circuit_of (bits_in s.table) gates.next) made
      ∙ node-part (bits_at table) (bits_in s.table) (term_at nodes) gates.next node (each (λ p (k : PartKnown p). k.bits) (parts node) parts-known)

  module _ (new : Gates) (more : Table) (bits : Vec Bit Global) (a : AreGates gates new (circuit_of_node (bits_at table) gates.next node) (numbers bits.items))
      (up : UpdatesBy nat_cmp (nat_cmp id) table.rows more.rows (Some bits)) where
    whole : blasted (ts ++ t ∷ []) ≡ with_term s t
    whole = fold-append with_term (record { table = []; clauses = []; next = 2 }) ts (t ∷ [])

    taken : terms_of nodes (take (i + 1) order) ≡ ts ++ t ∷ []
    taken = ap (terms_of nodes) (take_more order i d l) ∙ map-append (term_at nodes) (take i order) (id ∷ [])

    made-bits : numbers bits.items ≡ bits_in (with_term s t).table t
    made-bits = a.are ∙ ap (λ (c : Circuit). c.bits) (sym its_part) ∙ sym (its-bits ts s t tabled up-to.1)

    next-bits : (k : ℕ) → k < length nodes → bits_at more k ≡ bits_in (with_term s t).table (term_at nodes k)
    next-bits k lk = elim (cases_Bool (id == k)) [
      | inl e ↦
          ap (λ (r : Option (Vec Bit Global)). unwrap_or (option_map (λ row. numbers row.items) r) [])
          (up.0 k ∙ cond-true (is_at (nat_cmp id) k) (Some bits) (get nat_cmp table.rows k) (at-number id k ∙ e))
          ∙ made-bits ∙ ap (λ x. bits_in (with_term s t).table (term_at nodes x)) (eqb-true id k e)
      | inr e ↦
          ap (λ (r : Option (Vec Bit Global)). unwrap_or (option_map (λ row. numbers row.items) r) [])
          (up.0 k ∙ cond-false (is_at (nat_cmp id) k) (Some bits) (get nat_cmp table.rows k) (at-number id k ∙ e))
          ∙ h.bits_are k lk ∙ sym (bits-other s.table t (term_at nodes k) (circuit_of (bits_in s.table) s.next t).bits (apart k lk e))
    ]
      where
        apart : (k : ℕ) → k < length nodes → (id == k) ≡ false → same_term t (term_at nodes k) ≡ false
        apart k lk e = elim (cases_Bool (same_term t (term_at nodes k))) [
          | inl b ↦ absurd (false≢true (sym e ∙ eq-eqb id k (one-number nodes arena id k inside lk (same-only t (term_at nodes k) b))))
          | inr b ↦ b
        ]

    pub emit-step : IsEmitted nodes (terms_of nodes (take (i + 1) order)) new more
    emit-step = subst (λ xs. IsEmitted nodes xs new more) (sym taken) (record {
      bits_are = λ k lk. next-bits k lk ∙ ap (λ (b : Blasted). bits_in b.table (term_at nodes k)) (sym whole);
      clauses_are = a.listed_ ∙ ap (λ cs. cs ++ (circuit_of_node (bits_at table) gates.next node).clauses) h.clauses_are
          ∙ ap (λ (x : Circuit). (true_bit ∷ []) ∷ (s.clauses ++ x.clauses)) (sym its_part) ∙ ap (λ (b : Blasted). (true_bit ∷ []) ∷ b.clauses) (sym whole);
      next_is = a.next ∙ ap (λ (x : Circuit). x.next) (sym its_part) ∙ ap (λ (b : Blasted). b.next) (sym whole);
    })

-- ---- the whole

pub emit-start : (nodes : List Node) (empty gates : Gates) (table : Table) → empty.clauses.items ≡ [] → empty.next ≡ 2 → listed gates ≡ listed empty ++ (true_bit ∷ []) ∷ []
    → gates.next ≡ empty.next → table.rows.entries ≡ [] → IsEmitted nodes [] gates table
emit-start nodes empty gates table c z l n r = record {
  bits_are = λ k lk. ap (λ es. unwrap_or (option_map (λ (row : Vec Bit Global). numbers row.items) (lookup (is_at (nat_cmp k)) es)) []) r;
  clauses_are = l ∙ ap (λ cs. map literals cs ++ (true_bit ∷ []) ∷ []) c;
  next_is = n ∙ z;
}

pub walk-order : (nodes : List Node) (goal : ℕ) (order : List ℕ) → IsWalked nodes goal order → IsOrder nodes order
walk-order nodes goal order w = record {
  there = w.order_.there;
  ordered = subst (Ordered []) (sym w.order_.terms) (goal-ordered (term_at nodes goal) w.goal_.term w.goal_.unapplied);
}

module _ (nodes : List Node) (goal : ℕ) (order : List ℕ) (gates : Gates) (table : Table) (w : IsWalked nodes goal order) (h : IsEmitted nodes (terms_of nodes order) gates table) where
  pub goal-emitted : IsEmitted nodes (walk (term_at nodes goal) []) gates table
  goal-emitted = subst (λ ts. IsEmitted nodes ts gates table) w.order_.terms h

  pub goal-some : count_at table goal ≡ 1
  goal-some =
      let t = term_at nodes goal in
      ap length (goal-emitted.bits_are goal w.there) ∙ (goal-tabled t w.goal_.term w.goal_.unapplied).counts t (goal-there t w.goal_.term w.goal_.unapplied) ∙ w.goal_.truth

  pub whole-clauses : (last : Gates) (bit : ℤ) (cnf : Cnf) → bit ≡ first_bit (bits_at table goal) → listed last ≡ listed gates ++ (bit ∷ []) ∷ [] → last.next ≡ gates.next
      → map literals cnf.clauses ≡ listed last → cnf.vars ≡ last.next - 1 → IsClauses cnf (term_at nodes goal)
  whole-clauses last bit cnf bit-is l n c v =
      let t = term_at nodes goal in
      record {
        clauses_are = c ∙ l ∙ ap (λ cs. cs ++ (bit ∷ []) ∷ []) goal-emitted.clauses_are
            ∙ ap (λ x. ((true_bit ∷ []) ∷ (goal_blasted t).clauses) ++ (x ∷ []) ∷ []) (bit-is ∙ ap first_bit (goal-emitted.bits_are goal w.there));
        vars_are = v ∙ ap (λ x. x - 1) (n ∙ goal-emitted.next_is);
      }

pub numbers-some : (bits : List Bit) → length (numbers bits) ≡ 1 → 0 < length bits
numbers-some [] e = absurd (omega arith)
numbers-some (b ∷ bits) e = omega arith
