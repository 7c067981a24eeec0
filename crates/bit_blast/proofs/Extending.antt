-- The clauses of a goal and its value: both directions.
use Rattle.std.proofs.Common.{◌≡◌, ℕ, ◌+◌, ◌-◌, ◌*◌, ◌/◌, ◌%◌, ◌^◌, ◌<◌, ◌==◌, zero, suc, ℤ, pos, negsuc, Bool, true, false, not, ◌&&◌, ◌||◌, List, [], ◌∷◌, ◌++◌, length, refl, ap, sym, ◌∙◌, subst, arith, inl, inr, append_assoc}
use Rattle.std.specs.Prelude.{slice_index_or}
use Rattle.std.specs.List.{fold}
use Rattle.std.proofs.lemmas.List.{append-nil}
use Rattle.std.proofs.lemmas.Bool.{cases_Bool, cond-true, cond-false, eqb-true, eqb-false, or_cases, false≢true, and_from}
use Rattle.cocoon_num.specs.Values.{number}
use Rattle.bv_terms.specs.TermTrees.{Term, constant, input, apply, not_, binary, slice, pick, width}
use Rattle.bv_terms.specs.TermValues.{Functions, Inputs, number_in, term_value}
use Rattle.cnf_core.specs.Satisfying.{makes_true}
use Rattle.cnf_core.specs.declared.clauses.Assignment.{Assignment}
use Rattle.bit_blast.specs.Gates.{Circuit, fresh, true_bit}
use Rattle.bv_terms.specs.Walks.{is_among, walk}
use Rattle.bit_blast.specs.Clauses.{Blasted, bits_in, blasted, clauses_of, goal_bit, goal_blasted, circuit_of, vars_of, with_term}
use Rattle.bit_blast.specs.Goals.{IsGoal}
use Rattle.bit_blast.specs.Meanings.{IsValuation, all_hold}
use Rattle.bv_terms.specs.Inputs.{InputsFit}
use Rattle.bit_blast.specs.Readings.{Extends, ReadsAs, input_bits, number_read}
use Rattle.bv_terms.proofs.Sights.{among-last, among-more}
use Rattle.bit_blast.specs.Orders.{Fresh, Ordered}
use Rattle.bit_blast.proofs.Defining.{Agree, AllNamed, ClausesNamed, Defines, Named, every-append, hold-both, hold-parts, holds-same, lit, lit-same, lit-valuation, opp, put, put-here, put-other}
use Rattle.bit_blast.proofs.Tabling.{Tabled, among-cases, goal-ordered, goal-tabled, goal-there, its-bits, its-defines, its-tabled, its_circuit, kept-bits, later-bits, no-terms, parts-each}
use Rattle.bit_blast.proofs.BitNumbers.{bit, two-pow}
use Rattle.bit_blast.proofs.Meaning.{InputIs, one-of, part-means}

-- ---- where the clauses hold, all bits are values

clauses-first : (v : ℤ → Bool) (ts : List Term) (s : Blasted) → all_hold v (fold with_term s ts).clauses ≡ true → all_hold v s.clauses ≡ true
clauses-first v [] s h = h
clauses-first v (t ∷ ts) s h = (hold-parts v s.clauses (circuit_of (bits_in s.table) s.next t).clauses (clauses-first v ts (with_term s t) h)).0

abbrev pub Reads : (ℤ → Bool) → Inputs → List Term → Blasted → Type 0
Reads v ins seen s = (i w : ℕ) → is_among seen (input i w) ≡ true → ins i ≡ number_read v (bits_in s.table (input i w))

abbrev pub Mean : (ℤ → Bool) → Functions → Inputs → List Term → Blasted → Type 0
Mean v F ins seen s = (u : Term) → is_among seen u ≡ true → term_value F ins u ≡ number (width u) (number_read v (bits_in s.table u))

module _ (v : ℤ → Bool) (is : IsValuation v) (constant_true : v true_bit ≡ true) where
  input-is : (ins : Inputs) (t : Term) (bits : List ℤ) → ((i w : ℕ) → t ≡ input i w → ins i ≡ number_read v bits) → InputIs v is constant_true ins t bits
  input-is ins (constant w n) bits f = tt
  input-is ins (input i w) bits f = f i w refl
  input-is ins (apply g args w) bits f = tt
  input-is ins (not_ a) bits f = tt
  input-is ins (binary op a b) bits f = tt
  input-is ins (slice a i j) bits f = tt
  input-is ins (pick c a b) bits f = tt

  module _ (F : Functions) (ins : Inputs) where
    next-means : (seen : List Term) (s : Blasted) (t : Term) → Tabled seen s → Fresh seen t → all_hold v (with_term s t).clauses ≡ true
        → ((i w : ℕ) → t ≡ input i w → ins i ≡ number_read v (circuit_of (bits_in s.table) s.next t).bits) → Mean v F ins seen s → Mean v F ins (seen ++ t ∷ []) (with_term s t)
    next-means seen s t h f holds reads mean u k = elim (among-cases seen t u k) [
      | inl e ↦ mean u e ∙ ap (λ bs. number (width u) (number_read v bs)) (sym (kept-bits seen s t h f u e))
      | inr e ↦
          let p = its_circuit seen s t h f in
          let own = part-means v is constant_true F ins (bits_in s.table) s.next t h.next f.term f.unapplied
          (parts-each (λ u. is_among seen u ≡ true) (λ u. AllNamed s.next (bits_in s.table u)) h.named t f.parts)
          (parts-each (λ u. is_among seen u ≡ true) (λ u. length (bits_in s.table u) ≡ width u) h.counts t f.parts)
          (hold-parts v s.clauses p.clauses holds).1
          (parts-each (λ u. is_among seen u ≡ true) (λ u. term_value F ins u ≡ number (width u) (number_read v (bits_in s.table u))) mean t f.parts)
          (input-is ins t p.bits reads) in
          subst (λ x. term_value F ins x ≡ number (width x) (number_read v (bits_in (with_term s t).table x))) e
          (own ∙ ap (λ bs. number (width t) (number_read v bs)) (sym (its-bits seen s t h f)))
    ]

    all-mean : (ts seen : List Term) (s : Blasted) → Ordered seen ts → Tabled seen s → all_hold v (fold with_term s ts).clauses ≡ true
        → Reads v ins (seen ++ ts) (fold with_term s ts) → Mean v F ins seen s → Mean v F ins (seen ++ ts) (fold with_term s ts)
    all-mean [] seen s o h holds reads mean = subst (λ xs. Mean v F ins xs s) (sym (append-nil seen)) mean
    all-mean (t ∷ ts) seen s o h holds reads mean =
        let tabled = its-tabled seen s t h o.0 in
        let there : is_among (seen ++ t ∷ ts) t ≡ true
        = ap (λ xs. is_among xs t) (sym (append_assoc seen (t ∷ []) ts)) ∙ among-more (seen ++ t ∷ []) ts t (among-last seen t) in
        let own : (i w : ℕ) → t ≡ input i w → ins i ≡ number_read v (circuit_of (bits_in s.table) s.next t).bits
        = (λ i w e. reads i w (subst (λ x. is_among (seen ++ t ∷ ts) x ≡ true) e there)
        ∙ ap (λ x. number_read v (bits_in (fold with_term (with_term s t) ts).table x)) (sym e)
        ∙ ap (number_read v) (later-bits ts (seen ++ t ∷ []) (with_term s t) o.1 tabled t (among-last seen t) ∙ its-bits seen s t h o.0)) in
        let next = next-means seen s t h o.0 (clauses-first v ts (with_term s t) holds) own mean in
        subst (λ xs. Mean v F ins xs (fold with_term (with_term s t) ts)) (append_assoc seen (t ∷ []) ts)
        (all-mean ts (seen ++ t ∷ []) (with_term s t) o.1 tabled holds
        (subst (λ xs. Reads v ins xs (fold with_term (with_term s t) ts)) (sym (append_assoc seen (t ∷ []) ts)) reads) next)

    pub goal-means : (goal : Term) → IsGoal goal → all_hold v (goal_blasted goal).clauses ≡ true → Reads v ins (walk goal []) (goal_blasted goal)
        → term_value F ins goal ≡ number 1 (bit (v (goal_bit goal)))
    goal-means goal g holds reads =
        let tabled = goal-tabled goal g.term g.unapplied in
        let there = goal-there goal g.term g.unapplied in
        all-mean (walk goal []) [] (blasted []) (goal-ordered goal g.term g.unapplied) no-terms holds reads (λ u k. absurd (false≢true k)) goal there
        ∙ ap (λ w. number w (number_read v (bits_in (goal_blasted goal).table goal))) g.truth
        ∙ ap (number 1) (one-of v is constant_true (bits_in (goal_blasted goal).table goal) (tabled.counts goal there ∙ g.truth))

-- ---- the clauses of a goal hold

bit-true : (b : Bool) → bit b ≡ 1 → b ≡ true
bit-true true e = refl
bit-true false e = absurd cc

or-false-true : (b : Bool) → (b || false) ≡ true → b ≡ true
or-false-true true h = refl
or-false-true false h = h

pub record GoalHolds (v : ℤ → Bool) (goal : Term) : Type 0 where
  pub constant_ : v true_bit ≡ true
  pub gates : all_hold v (goal_blasted goal).clauses ≡ true
  pub goal_ : v (goal_bit goal) ≡ true

pub goal-holds : (v : ℤ → Bool) (goal : Term) → all_hold v (clauses_of goal) ≡ true → GoalHolds v goal
goal-holds v goal h =
    let p = hold-parts v ((true_bit ∷ []) ∷ []) ((goal_blasted goal).clauses ++ (goal_bit goal ∷ []) ∷ []) h in
    let q = hold-parts v (goal_blasted goal).clauses ((goal_bit goal ∷ []) ∷ []) p.1 in
    record {
      constant_ = or-false-true (v true_bit) (Rattle.std.proofs.lemmas.Bool.and_parts (v true_bit || false) true p.0).0;
      gates = q.0;
      goal_ = or-false-true (v (goal_bit goal)) (Rattle.std.proofs.lemmas.Bool.and_parts (v (goal_bit goal) || false) true q.1).0;
    }

pub holds-goal : (v : ℤ → Bool) (goal : Term) → GoalHolds v goal → all_hold v (clauses_of goal) ≡ true
holds-goal v goal h =
    hold-both v ((true_bit ∷ []) ∷ []) ((goal_blasted goal).clauses ++ (goal_bit goal ∷ []) ∷ []) (one true_bit h.constant_)
    (hold-both v (goal_blasted goal).clauses ((goal_bit goal ∷ []) ∷ []) h.gates (one (goal_bit goal) h.goal_))
  where
    one : (l : ℤ) → v l ≡ true → all_hold v ((l ∷ []) ∷ []) ≡ true
    one l e = ap (λ b. (b || false) && true) e

-- ---- from the inputs to all variables

number-same : (n : ℕ) (v w : ℤ → Bool) → ((l : ℤ) → Named n l → v l ≡ w l) → (bits : List ℤ) → AllNamed n bits → number_read v bits ≡ number_read w bits
number-same n v w f [] h = refl
number-same n v w f (b ∷ bits) h = ap (λ x. bit x + 2 * number_read v bits) (f b h.0) ∙ ap (λ x. bit (w b) + 2 * x) (number-same n v w f bits h.1)

record Set (val : ℕ → Bool) (n w k : ℕ) : Type 0 where
  new : ℕ → Bool
  same : Agree n val new
  reads : k ≡ number_read (lit new) (fresh n w)

low-bit : (k : ℕ) → bit (k % 2 == 1) ≡ k % 2
low-bit k = elim (cases_Bool (k % 2 == 1)) [
  | inl e ↦ ap bit e ∙ sym (eqb-true (k % 2) 1 e)
  | inr e ↦ ap bit e ∙ lowest (k % 2) (omega arith) (eqb-false (k % 2) 1 e)
]
  where
    lowest : (m : ℕ) → m < 2 → (m ≡ 1 → ⊥) → 0 ≡ m
    lowest zero l n = refl
    lowest (suc zero) l n = absurd (n refl)
    lowest (suc (suc m)) l n = absurd (omega arith)

set-bits : (val : ℕ → Bool) (n w k : ℕ) → k < 2 ^ w → Set val n w k
set-bits val n zero k l = record { new = val; same = λ j m. refl; reads = (let p : 2 ^ zero ≡ 1 = refl in omega arith) }
set-bits val n (suc w) k l =
    let first = put val n (k % 2 == 1) in
    let rest = set-bits first (suc n) w (k / 2) (let p = two-pow w in omega arith) in
    let here : rest.new n ≡ (k % 2 == 1) = rest.same n (omega arith) ∙ put-here val n (k % 2 == 1) in
    record {
      new = rest.new;
      same = λ j m. rest.same j (omega arith) ∙ put-other val n (k % 2 == 1) j (λ e. absurd (omega (arith, e, m)));
      reads = (let b = ap bit here in let c = low-bit k in let r = rest.reads in omega arith);
    }

record PartSet (ins : Inputs) (val : ℕ → Bool) (n : ℕ) (t : Term) (p : Circuit) : Type 0 where
  new : ℕ → Bool
  same : Agree n val new
  holds : all_hold (lit new) p.clauses ≡ true
  reads : (i w : ℕ) → t ≡ input i w → ins i ≡ number_read (lit new) p.bits

other : (ins : Inputs) (val : ℕ → Bool) (n : ℕ) (t : Term) (p : Circuit) → Defines n p → ((i w : ℕ) → t ≡ input i w → ⊥) → PartSet ins val n t p
other ins val n t p d no_input = let e = d.extend val in record { new = e.new; same = e.same; holds = e.holds; reads = λ i w x. absurd (no_input i w x) }

set-part : (ins : Inputs) (val : ℕ → Bool) (bits : Term → List ℤ) (n : ℕ) (t : Term) → Defines n (circuit_of bits n t) → ((i w : ℕ) → t ≡ input i w → ins i < 2 ^ w)
    → PartSet ins val n t (circuit_of bits n t)
set-part ins val bits n (input i w) d fit =
    let s = set-bits val n w (ins i) (fit i w refl) in
    record {
      new = s.new;
      same = s.same;
      holds = refl;
      reads = λ j u e. ap ins (let q : j ≡ i = cc in q) ∙ s.reads;
    }
set-part ins val bits n (constant w k) d fit = other ins val n (constant w k) (circuit_of bits n (constant w k)) d (λ i w e. cc)
set-part ins val bits n (apply f args w) d fit = other ins val n (apply f args w) (circuit_of bits n (apply f args w)) d (λ i w e. cc)
set-part ins val bits n (not_ a) d fit = other ins val n (not_ a) (circuit_of bits n (not_ a)) d (λ i w e. cc)
set-part ins val bits n (binary op a b) d fit = other ins val n (binary op a b) (circuit_of bits n (binary op a b)) d (λ i w e. cc)
set-part ins val bits n (slice a x y) d fit = other ins val n (slice a x y) (circuit_of bits n (slice a x y)) d (λ i w e. cc)
set-part ins val bits n (pick c a b) d fit = other ins val n (pick c a b) (circuit_of bits n (pick c a b)) d (λ i w e. cc)

record AllSet (ins : Inputs) (seen : List Term) (s : Blasted) : Type 0 where
  val : ℕ → Bool
  constant_ : val 1 ≡ true
  holds : all_hold (lit val) s.clauses ≡ true
  reads : Reads (lit val) ins seen s

next-set : (ins : Inputs) (seen : List Term) (s : Blasted) (t : Term) → Tabled seen s → Fresh seen t → ((i w : ℕ) → t ≡ input i w → ins i < 2 ^ w) → AllSet ins seen s
    → AllSet ins (seen ++ t ∷ []) (with_term s t)
next-set ins seen s t h f fit a =
    let p = its_circuit seen s t h f in
    let d = its-defines seen s t h f in
    let e = set-part ins a.val (bits_in s.table) s.next t d fit in
    let agree : (l : ℤ) → Named s.next l → lit e.new l ≡ lit a.val l = lit-same s.next a.val e.new e.same in
    record {
      val = e.new;
      constant_ = e.same 1 (let n = h.next in omega arith) ∙ a.constant_;
      holds = hold-both (lit e.new) s.clauses p.clauses (holds-same s.next (lit e.new) (lit a.val) agree s.clauses h.clauses ∙ a.holds) e.holds;
      reads = λ i w k. elim (among-cases seen t (input i w) k) [
        | inl x ↦ a.reads i w x ∙ sym (number-same s.next (lit e.new) (lit a.val) agree (bits_in s.table (input i w)) (h.named (input i w) x))
            ∙ ap (number_read (lit e.new)) (sym (kept-bits seen s t h f (input i w) x))
        | inr x ↦ e.reads i w x ∙ ap (number_read (lit e.new)) (sym (its-bits seen s t h f)) ∙ ap (λ u. number_read (lit e.new) (bits_in (with_term s t).table u)) x
      ];
    }

all-set : (ins : Inputs) (ts seen : List Term) (s : Blasted) → Ordered seen ts → Tabled seen s → ((i w : ℕ) → is_among (seen ++ ts) (input i w) ≡ true → ins i < 2 ^ w) → AllSet ins seen s
    → AllSet ins (seen ++ ts) (fold with_term s ts)
all-set ins [] seen s o h fit a = subst (λ xs. AllSet ins xs s) (sym (append-nil seen)) a
all-set ins (t ∷ ts) seen s o h fit a =
    let there : is_among (seen ++ t ∷ ts) t ≡ true
    = ap (λ xs. is_among xs t) (sym (append_assoc seen (t ∷ []) ts)) ∙ among-more (seen ++ t ∷ []) ts t (among-last seen t) in
    let next = next-set ins seen s t h o.0 (λ i w e. fit i w (subst (λ x. is_among (seen ++ t ∷ ts) x ≡ true) e there)) a in
    subst (λ xs. AllSet ins xs (fold with_term (with_term s t) ts)) (append_assoc seen (t ∷ []) ts)
    (all-set ins ts (seen ++ t ∷ []) (with_term s t) o.1 (its-tabled seen s t h o.0)
    (λ i w k. fit i w (ap (λ xs. is_among xs (input i w)) (sym (append_assoc seen (t ∷ []) ts)) ∙ k)) next)

goal-set : (ins : Inputs) (goal : Term) → IsGoal goal → InputsFit goal ins → AllSet ins (walk goal []) (goal_blasted goal)
goal-set ins goal g fit =
    all-set ins (walk goal []) [] (blasted []) (goal-ordered goal g.term g.unapplied) no-terms fit
    (record { val = λ k. true; constant_ = refl; holds = refl; reads = λ i w k. absurd (false≢true k) })

-- ---- assignments

pub assigned : (a : Assignment) → IsValuation (makes_true a)
assigned a (pos zero) h = absurd (h refl)
assigned a (pos (suc n)) h = ap (λ k. not (slice_index_or a.values k false)) (let q : n ≡ suc n - 1 = omega arith in q)
assigned a (negsuc n) h = ap (λ k. slice_index_or a.values k false) (let q : suc n - 1 ≡ n = omega arith in q) ∙ twice (slice_index_or a.values n false)
  where
    twice : (b : Bool) → b ≡ not (not b)
    twice true = refl
    twice false = refl

listed_from : (ℕ → Bool) → (first count : ℕ) → List Bool
listed_from val k zero = []
listed_from val k (suc c) = val k ∷ listed_from val (suc k) c

listed-length : (val : ℕ → Bool) (k c : ℕ) → length (listed_from val k c) ≡ c
unfolding listed_from
listed-length val k zero = refl
listed-length val k (suc c) = (let h = listed-length val (suc k) c in omega arith)

listed-at : (val : ℕ → Bool) (k c i : ℕ) → i < c → slice_index_or (listed_from val k c) i false ≡ val (i + k)
unfolding listed_from
listed-at val k zero i l = absurd (omega arith)
listed-at val k (suc c) zero l = ap val (let q : k ≡ zero + k = omega arith in q)
listed-at val k (suc c) (suc i) l = listed-at val (suc k) c i (omega arith) ∙ ap val (let q : i + suc k ≡ suc i + k = omega arith in q)

assignment_of : (ℕ → Bool) → ℕ → Assignment
assignment_of val c = record { values = listed_from val 1 c }

assigned-length : (val : ℕ → Bool) (c : ℕ) → length (assignment_of val c).values ≡ c
unfolding assignment_of
assigned-length val c = listed-length val 1 c

assigned-same : (val : ℕ → Bool) (c : ℕ) (l : ℤ) → Named (c + 1) l → makes_true (assignment_of val c) l ≡ lit val l
unfolding assignment_of
assigned-same val c (pos n) h = (let a = h.0 in let b = h.1 in listed-at val 1 c (n - 1) (omega arith) ∙ ap val (let q : n - 1 + 1 ≡ n = omega arith in q))
assigned-same val c (negsuc n) h = (let b = h.1 in ap not (listed-at val 1 c n (omega arith) ∙ ap val (let q : n + 1 ≡ suc n = omega arith in q)))

-- ---- all clauses of a goal are over its variables

pub goal-named : (goal : Term) → IsGoal goal → ClausesNamed (goal_blasted goal).next (clauses_of goal)
goal-named goal g =
    let t = goal-tabled goal g.term g.unapplied in
    let there = goal-there goal g.term g.unapplied in
    let n = t.next in (
      ((omega arith, omega arith), tt),
      every-append (AllNamed (goal_blasted goal).next) (goal_blasted goal).clauses ((goal_bit goal ∷ []) ∷ []) t.clauses
          ((Rattle.bit_blast.proofs.Defining.first-named (goal_blasted goal).next (bits_in (goal_blasted goal).table goal) t.next (t.named goal there), tt), tt),
    )

pub vars-next : (goal : Term) → IsGoal goal → (goal_blasted goal).next ≡ vars_of goal + 1
vars-next goal g = (let n = (goal-tabled goal g.term g.unapplied).next in omega arith)

-- ---- the laws

pub reads-back : (goal : Term) → IsGoal goal → (a : Assignment) → all_hold (makes_true a) (clauses_of goal) ≡ true → (F : Functions) (ins : Inputs)
    → ReadsAs goal (makes_true a) ins → term_value F ins goal ≡ number 1 1
reads-back goal g a h F ins reads =
    let p = goal-holds (makes_true a) goal h in
    goal-means (makes_true a) (assigned a) p.constant_ F ins goal g p.gates reads ∙ ap (λ b. number 1 (bit b)) p.goal_

pub extends-to : (goal : Term) → IsGoal goal → (F : Functions) (ins : Inputs) → InputsFit goal ins → term_value F ins goal ≡ number 1 1 → (a : Assignment) × Extends goal ins a
extends-to goal g F ins fit value =
    let s = goal-set ins goal g fit in
    let m = goal-means (lit s.val) (lit-valuation s.val) s.constant_ F ins goal g s.holds s.reads in
    let goal-true : lit s.val (goal_bit goal) ≡ true = bit-true (lit s.val (goal_bit goal)) (let q = sym m ∙ value in ap number_in q) in
    let holds = holds-goal (lit s.val) goal (record { constant_ = s.constant_; gates = s.holds; goal_ = goal-true }) in
    let c = vars_of goal in
    let a = assignment_of s.val c in
    let t = goal-tabled goal g.term g.unapplied in
    let agree : (l : ℤ) → Named (goal_blasted goal).next l → makes_true a l ≡ lit s.val l = (λ l h. assigned-same s.val c l (subst (λ n. Named n l) (vars-next goal g) h)) in (
      a,
      record {
        values = assigned-length s.val c;
        holds = holds-same (goal_blasted goal).next (makes_true a) (lit s.val) agree (clauses_of goal) (goal-named goal g) ∙ holds;
        reads = λ i w k. s.reads i w k ∙ sym (number-same (goal_blasted goal).next (makes_true a) (lit s.val) agree (input_bits goal i w) (t.named (input i w) k));
      },
    )
