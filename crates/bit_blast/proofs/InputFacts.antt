-- The bits of inputs, and values read from them.
use Rattle.std.proofs.Common.{◌≡◌, ℕ, ◌+◌, ◌-◌, ◌*◌, ◌^◌, ◌<◌, ◌≤◌, zero, suc, ℤ, Bool, true, List, [], ◌∷◌, ◌++◌, length, map, take, drop, Some, slice_get, get_or, refl, ap, sym, ◌∙◌, subst, arith, inl, inr, length-append}
use Rattle.std.specs.List.{All, AllByRecursion, fold}
use Rattle.std.proofs.lemmas.List.{length-map, map-append, length-drop, take_all}
use Rattle.std.proofs.lemmas.List.Elements.{All-from_recursion, recursion_from_All}
use Rattle.std.proofs.lemmas.Option.{slice_get-get_or, slice_get_within}
use Rattle.std.proofs.lemmas.Bool.{cases_Bool, cases_lt, and_from, and_parts}
use Rattle.bv_terms.specs.declared.node.Node.{Node}
use Rattle.bv_terms.specs.declared.node.Node.TheVariants.{Constant, Input, Apply, Not, Binary, Slice, Pick}
use Rattle.bv_terms.specs.TermTrees.{Term, width}
use Rattle.bv_terms.specs.Arenas.{IsArena, IsInputTerm, count_input, inputs_in, term_at, width_at}
use Rattle.bv_terms.proofs.Seams.{snoc-cases}
use Rattle.cnf_core.specs.Clauses.{literals}
use Rattle.cnf_core.specs.Literals.{Names}
use Rattle.cnf_core.specs.Satisfying.{Satisfies, WellNamed, makes_true, satisfies_clause}
use Rattle.cnf_core.specs.declared.clauses.Assignment.{Assignment}
use Rattle.bit_blast.specs.Meanings.{all_hold}
use Rattle.cnf_core.specs.declared.clauses.Clause.{Clause}
use Rattle.cnf_core.specs.declared.clauses.Cnf.{Cnf}
use Rattle.bit_blast.specs.declared.bit.Bit.{Bit}
use Rattle.bit_blast.specs.declared.input_bits.InputBits.{InputBits}
use Rattle.bit_blast.specs.declared.made.Gates.{Gates}
use Rattle.bit_blast.specs.declared.table.Table.{Table}
use Rattle.bit_blast.specs.Blasting.{InputRow, IsClauses, IsFault, MapsInputs, most_clauses, row_of}
use Rattle.bit_blast.specs.declared.blasting.BlastFault.TheVariants.{Clauses}
use Rattle.bv_terms.specs.Walks.{AreNumbersOf, is_among, walk}
use Rattle.bit_blast.specs.Clauses.{bits_in, clauses_of, count_of, goal_blasted}
use Rattle.bit_blast.specs.Counts.{total_clauses}
use Rattle.bit_blast.specs.Emitted.{numbers}
use Rattle.bit_blast.specs.Goals.{IsGoal, IsUnapplied}
use Rattle.bit_blast.specs.InputTables.{CanMap, IsInputRow, IsMapped}
use Rattle.bit_blast.specs.Orders.{IsEmitted, IsWalked, terms_of}
use Rattle.bit_blast.specs.Readings.{input_bits, number_read}
use Rattle.bit_blast.specs.Tables.{bits_at}
use Rattle.bit_blast.proofs.BitNumbers.{bit, bit-small, two-pow}
use Rattle.bit_blast.proofs.CountFacts.{goal-count}
use Rattle.bit_blast.proofs.Defining.{ClausesNamed, Named, every}
use Rattle.bit_blast.proofs.Extending.{goal-named, vars-next}
use Rattle.bit_blast.proofs.Emitting.{goal-emitted}
use Rattle.bit_blast.proofs.Tabling.{Tabled, goal-tabled, no-bits}

-- ---- each input has one term

grows : (ns : List Node) (n : ℕ) → n ≤ fold count_input n ns
grows [] n = omega arith
grows (Input i w ∷ ns) n = (let h = grows ns (suc n) in omega arith)
grows (Constant b ∷ ns) n = grows ns n
grows (Apply f args w ∷ ns) n = grows ns n
grows (Not a ∷ ns) n = grows ns n
grows (Binary op a b ∷ ns) n = grows ns n
grows (Slice a i j ∷ ns) n = grows ns n
grows (Pick c a b ∷ ns) n = grows ns n

later : (ns : List Node) (k l n i w : ℕ) → k < l → slice_get ns k ≡ Some (Input i w) → fold count_input n (take k ns) < fold count_input n (take l ns)
later [] k l n i w h e = absurd cc
later (x ∷ ns) zero zero n i w h e = absurd (omega arith)
later (x ∷ ns) zero (suc l) n i w h e =
    let q : x ≡ Input i w = cc in
    let g = grows (take l ns) (suc n) in
    subst (λ y. n < fold count_input n (y ∷ take l ns)) (sym q) (omega (arith, g))
later (x ∷ ns) (suc k) zero n i w h e = absurd (omega arith)
later (x ∷ ns) (suc k) (suc l) n i w h e = later ns k l (count_input n x) i w (omega arith) e

pub one-input : (nodes : List Node) (k l i w u : ℕ) → IsArena nodes → slice_get nodes k ≡ Some (Input i w) → slice_get nodes l ≡ Some (Input i u) → k ≡ l
one-input nodes k l i w u a h g =
    let p = a.inputs k i w h in
    let q = a.inputs l i u g in
    elim (cases_lt k l) [
      | inl less ↦ absurd (let m = later nodes k l 0 i w less h in omega arith)
      | inr more ↦ elim (cases_lt l k) [
        | inl less ↦ absurd (let m = later nodes l k 0 i u less g in omega arith)
        | inr same ↦ omega arith
      ]
    ]

pub input-row : (nodes : List Node) (table : Table) (i id width : ℕ) (bits : List Bit) → IsArena nodes → IsInputTerm nodes i id → width ≡ width_at nodes id
    → numbers bits ≡ bits_at table id → IsInputRow nodes table i (record { width = width; bits = numbers bits })
input-row nodes table i id v bits arena t e n k w h =
    let same : id ≡ k = one-input nodes id k i t.0 w arena t.1 h in
    let wide : v ≡ w = e ∙ ap width (arena.made id (Input i t.0) t.1) ∙ (let q : Some (Input i t.0) ≡ Some (Input i w) = sym t.1 ∙ ap (slice_get nodes) same ∙ h in cc) in
    let row : numbers bits ≡ bits_at table k = n ∙ ap (bits_at table) same in
    rw (wide, row) refl

pub map-push : (nodes : List Node) (table : Table) (i : ℕ) (old new : List InputBits) (b : InputBits) → new ≡ old ++ b ∷ [] → IsInputRow nodes table i (row_of b)
    → IsMapped nodes table i (map row_of old) → IsMapped nodes table (i + 1) (map row_of new)
map-push nodes table i old new b e r m =
    let more : map row_of new ≡ map row_of old ++ row_of b ∷ [] = ap (map row_of) e ∙ map-append row_of old (b ∷ []) in
    let c = m.count in
    record {
      count = ap length more ∙ (let l = length-append (map row_of old) (row_of b ∷ []) in omega arith);
      each_ = λ j row h. elim (snoc-cases (map row_of old) (row_of b) j row (ap (λ rs. slice_get rs j) (sym more) ∙ h)) [
        | inl x ↦ m.each_ j row x.1
        | inr x ↦ subst (λ n. IsInputRow nodes table n row) (c ∙ sym c ∙ sym x.0 ∙ refl) (subst (IsInputRow nodes table (length (map row_of old))) x.1 (subst (λ n. IsInputRow nodes table n (row_of b)) (sym c) r))
      ];
    }

-- ---- the bits of a term of the arena

input-within : (ns : List Node) (k i w : ℕ) → IsArena ns → slice_get ns k ≡ Some (Input i w) → i < inputs_in ns
input-within ns k i w a h =
    let e = a.inputs k i w h in
    let l = slice_get_within ns k (Input i w) h in
    let m = later ns k (length ns) 0 i w l h in
    let t : inputs_in (take (length ns) ns) ≡ inputs_in ns = ap inputs_in (take_all (length ns) ns (omega arith)) in
    omega arith

module _ (nodes : List Node) (goal : ℕ) (order : List ℕ) (gates : Gates) (table : Table) (w : IsWalked nodes goal order) (h : IsEmitted nodes (terms_of nodes order) gates table) where
  abbrev t : Term
  t = term_at nodes goal

  tabled : Tabled (walk t []) (goal_blasted t)
  tabled = goal-tabled t w.goal_.term w.goal_.unapplied

  bits-are : (k : ℕ) → k < length nodes → bits_at table k ≡ bits_in (goal_blasted t).table (term_at nodes k)
  bits-are = (goal-emitted nodes goal order gates table w h).bits_are

  pub can-map : CanMap nodes table
  can-map = record {
    arena = w.arena;
    few = λ k l. elim (cases_Bool (is_among (walk t []) (term_at nodes k))) [
      | inl b ↦ (let c = ap length (bits-are k l) ∙ tabled.counts (term_at nodes k) b in omega arith)
      | inr b ↦ (let c = ap length (bits-are k l ∙ no-bits (walk t []) (goal_blasted t) tabled (term_at nodes k) b) in omega arith)
    ];
  }

  pub maps-inputs : (rows : List InputRow) → IsMapped nodes table (inputs_in nodes) rows → MapsInputs nodes t rows
  maps-inputs rows m = record {
    count = m.count;
    each_ = λ i k w' e.
        let bits : bits_at table k ≡ input_bits t i w' = bits-are k (slice_get_within nodes k (Input i w') e) ∙ ap (bits_in (goal_blasted t).table) (w.arena.made k (Input i w') e) in
        let within : i < length rows = (let c = m.count in let l = input-within nodes k i w' w.arena e in omega arith) in
        let row = get_or rows i (record { width = 0; bits = [] }) in
        let at : slice_get rows i ≡ Some row = slice_get-get_or rows i (record { width = 0; bits = [] }) within in
        at ∙ ap Some (m.each_ i row at k w' e ∙ ap (λ bs. record { width = w'; bits = bs }) bits);
  }

-- ---- the whole

pub goal-is : (nodes : List Node) (goal : ℕ) → IsArena nodes → goal < length nodes → width_at nodes goal ≡ 1 → IsUnapplied (term_at nodes goal) → IsGoal (term_at nodes goal)
goal-is nodes goal arena l e u = record { term = arena.terms goal l; truth = e; unapplied = u }

pub goal-walked : (nodes : List Node) (goal : ℕ) (order : List ℕ) → IsArena nodes → goal < length nodes → width_at nodes goal ≡ 1 → IsUnapplied (term_at nodes goal)
    → AreNumbersOf nodes (walk (term_at nodes goal) []) order → IsWalked nodes goal order
goal-walked nodes goal order arena l e u o = record { arena = arena; there = l; goal_ = goal-is nodes goal arena l e u; order_ = o }

pub count-is : (nodes : List Node) (goal : ℕ) (order : List ℕ) (count : ℕ) → IsWalked nodes goal order → count ≡ total_clauses (terms_of nodes order) + 2 → count ≡ count_of (term_at nodes goal)
count-is nodes goal order count w e = e ∙ ap (λ ts. total_clauses ts + 2) w.order_.terms ∙ goal-count (term_at nodes goal) w.goal_.term w.goal_.unapplied

pub too-many : (nodes : List Node) (goal : ℕ) (order : List ℕ) (count : ℕ) → IsWalked nodes goal order → count ≡ total_clauses (terms_of nodes order) + 2 → most_clauses < count
    → IsFault (term_at nodes goal) (Clauses count)
too-many nodes goal order count w e more = (count-is nodes goal order count w e, more)

pub few-enough : (nodes : List Node) (goal : ℕ) (order : List ℕ) (count : ℕ) → IsWalked nodes goal order → count ≡ total_clauses (terms_of nodes order) + 2 → count ≤ most_clauses
    → count_of (term_at nodes goal) ≤ most_clauses
few-enough nodes goal order count w e less = subst (λ n. n ≤ most_clauses) (count-is nodes goal order count w e) less

names-all : (n vars : ℕ) (cs : List Clause) → n ≡ vars + 1 → ClausesNamed n (map literals cs) → AllByRecursion (λ c. All (Names vars) (literals c)) cs
names-all n vars [] e h = tt
names-all n vars (c ∷ cs) e h =
    (All-from_recursion (Names vars) (literals c) (every (λ (l : ℤ) (x : Named n l). (x.0, (let q = x.1 in omega arith))) (literals c) h.0), names-all n vars cs e h.1)

pub well-named : (cnf : Cnf) (goal : Term) → IsGoal goal → cnf.vars < 2 ^ 31 → IsClauses cnf goal → WellNamed cnf
well-named cnf goal g l c = (
  l,
  All-from_recursion (λ x. All (Names cnf.vars) (literals x)) cnf.clauses
      (names-all (goal_blasted goal).next cnf.vars cnf.clauses (vars-next goal g ∙ ap (λ v. v + 1) (sym c.vars_are)) (subst (ClausesNamed (goal_blasted goal).next) (sym c.clauses_are) (goal-named goal g))),
)

-- ---- values

number-drop : (v : ℤ → Bool) (bits : List Bit) (at : ℕ) (b : Bit) → at < length bits → b ≡ get_or bits at b
    → number_read v (numbers (drop at bits)) ≡ bit (v b.number) + 2 * number_read v (numbers (drop (at + 1) bits))
number-drop v bits at b l e = ap (number_read v) (Rattle.bit_blast.proofs.BitSteps.next-number bits at b l e)

number-below : (v : ℤ → Bool) (bits : List ℤ) (n : ℕ) → length bits ≤ n → number_read v bits < 2 ^ n
number-below v [] n l = (let p = Rattle.std.proofs.lemmas.Nat.pow_pos n in omega arith)
number-below v (b ∷ bits) zero l = absurd (omega arith)
number-below v (b ∷ bits) (suc n) l = (let s = bit-small (v b) in let p = two-pow n in let h = number-below v bits n (omega arith) in omega arith)

pub record Valuing (v : ℤ → Bool) (bits : List Bit) (at value : ℕ) : Type 0 where
  pub within : at ≤ length bits
  pub is : value ≡ number_read v (numbers (drop at bits))

pub value-below : (v : ℤ → Bool) (bits : List Bit) (at value : ℕ) → Valuing v bits at value → length bits ≤ 128 → 0 < at → value < 2 ^ 127
value-below v bits at value h l p =
    let n : length (numbers (drop at bits)) ≤ 127
    = (let m : length (numbers (drop at bits)) ≡ length (drop at bits) = length-map (drop at bits) (λ (b : Bit). b.number) in let d = length-drop at bits in omega arith) in
    (let b = number-below v (numbers (drop at bits)) 127 n in let e = h.is in omega arith)

pub value-step : (v : ℤ → Bool) (bits : List Bit) (at value next : ℕ) (b : Bit) (holds : Bool) → Valuing v bits at value → 0 < at → b ≡ get_or bits (at - 1) b → holds ≡ v b.number
    → next ≡ value * 2 + bit holds → Valuing v bits (at - 1) next
value-step v bits at value next b holds h p e k n =
    let w = h.within in
    let m : at - 1 + 1 ≡ at = omega arith in
    let d = number-drop v bits (at - 1) b (omega arith) e in
    record {
      within = omega arith;
      is = n ∙ (let i = h.is ∙ ap (λ x. number_read v (numbers (drop x bits))) (sym m) in let j = ap bit k in omega arith);
    }

pub value-fits : (v : ℤ → Bool) (bits : List ℤ) (w : ℕ) → length bits ≤ w → number_read v bits < 2 ^ w
value-fits v bits w l = number-below v bits w l

pub value-start : (v : ℤ → Bool) (bits : List Bit) (at : ℕ) → at ≡ length bits → Valuing v bits at 0
value-start v bits at e = record {
  within = omega arith;
  is = ap (number_read v) (sym (Rattle.bit_blast.proofs.BitSteps.no-more bits at (omega arith)));
}

-- ---- satisfying

all-hold : (a : Assignment) (cs : List Clause) → AllByRecursion (λ c. satisfies_clause a c ≡ true) cs → all_hold (makes_true a) (map literals cs) ≡ true
all-hold a [] h = refl
all-hold a (c ∷ cs) h = and_from (satisfies_clause a c) (all_hold (makes_true a) (map literals cs)) h.0 (all-hold a cs h.1)

hold-all : (a : Assignment) (cs : List Clause) → all_hold (makes_true a) (map literals cs) ≡ true → AllByRecursion (λ c. satisfies_clause a c ≡ true) cs
hold-all a [] h = tt
hold-all a (c ∷ cs) h = let p = and_parts (satisfies_clause a c) (all_hold (makes_true a) (map literals cs)) h in (p.0, hold-all a cs p.1)

pub satisfies-hold : (cnf : Cnf) (goal : Term) (a : Assignment) → IsClauses cnf goal → Satisfies a cnf → all_hold (makes_true a) (clauses_of goal) ≡ true
satisfies-hold cnf goal a e h =
    ap (all_hold (makes_true a)) (sym e.clauses_are) ∙ all-hold a cnf.clauses (recursion_from_All (λ c. satisfies_clause a c ≡ true) cnf.clauses h)

pub hold-satisfies : (cnf : Cnf) (goal : Term) (a : Assignment) → IsClauses cnf goal → all_hold (makes_true a) (clauses_of goal) ≡ true → Satisfies a cnf
hold-satisfies cnf goal a e h =
    All-from_recursion (λ c. satisfies_clause a c ≡ true) cnf.clauses (hold-all a cnf.clauses (ap (all_hold (makes_true a)) e.clauses_are ∙ h))
