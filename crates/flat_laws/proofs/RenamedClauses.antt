-- The clauses of a goal with other names for its inputs.
use Rattle.std.proofs.Common.{◌≡◌, ℕ, ◌+◌, ◌-◌, true, false, ℤ, List, [], ◌∷◌, ◌++◌, map, take, drop, refl, ap, sym, ◌∙◌, subst, inl, inr}
use Rattle.std.specs.Prelude.{if◌then◌else◌, fold}
use Rattle.std.specs.List.{AllByRecursion}
use Rattle.std.proofs.lemmas.List.{map-append}
use Rattle.bv_terms.specs.TermTrees.{Term, Args, constant, input, apply, not_, binary, slice, pick}
use Rattle.bv_terms.specs.Inputs.{AreApart, Mentions, renamed}
use Rattle.bv_terms.specs.Walks.{is_among, same_term, walk}
use Rattle.bv_terms.proofs.Subterms.{Each, walk-all, walk-has}
use Rattle.bit_blast.specs.Gates.{Circuit, bitwise, choice_gate, plain}
use Rattle.bit_blast.specs.Clauses.{Blasted, bits_in, blasted, circuit_of, clauses_of, first_bit, goal_bit, goal_blasted, joined, vars_of, with_circuit, with_term}
use Rattle.bit_blast.specs.Readings.{input_bits}
use Rattle.flat_laws.proofs.RenamedTerms.{same-renamed, walk-kept}

-- a row of a table, and what is made of terms, with other names
abbrev row_renamed : (ℕ → ℕ) → (Term × List ℤ) → (Term × List ℤ)
row_renamed name row = (renamed name row.0, row.1)

abbrev pub made_renamed : (ℕ → ℕ) → Blasted → Blasted
made_renamed name s = record { table = map (row_renamed name) s.table; clauses = s.clauses; next = s.next }

abbrev RowOf : (Term → Type 0) → (Term × List ℤ) → Type 0
RowOf P row = Each P row.0

module _ (P : Term → Type 0) (name : ℕ → ℕ) (apart : (i j v w : ℕ) → P (input i v) → P (input j w) → name i ≡ name j → i ≡ j) where
  pub bits-renamed : (rows : List (Term × List ℤ)) (t : Term) → AllByRecursion (λ row. Each P row.0) rows → Each P t
      → bits_in (map (row_renamed name) rows) (renamed name t) ≡ bits_in rows t
  bits-renamed [] t h k = refl
  bits-renamed (row ∷ rows) t h k =
      ap (λ b. if b then row.1 else bits_in (map (row_renamed name) rows) (renamed name t)) (same-renamed P name apart row.0 t h.0 k)
      ∙ ap (λ bits. if same_term row.0 t then row.1 else bits) (bits-renamed rows t h.1 k)

  circuit-renamed : (rows : List (Term × List ℤ)) (n : ℕ) (t : Term) → AllByRecursion (λ row. Each P row.0) rows → Each P t
      → circuit_of (bits_in (map (row_renamed name) rows)) n (renamed name t) ≡ circuit_of (bits_in rows) n t
  circuit-renamed rows n (constant w v) h k = refl
  circuit-renamed rows n (input i w) h k = refl
  circuit-renamed rows n (apply f args w) h k = refl
  circuit-renamed rows n (not_ a) h k = ap (λ bits. circuit_of (λ u. bits) n (not_ a)) (bits-renamed rows a h k.0)
  circuit-renamed rows n (binary op a b) h k =
      ap (λ bits. joined op n bits (bits_in (map (row_renamed name) rows) (renamed name b))) (bits-renamed rows a h k.0)
      ∙ ap (joined op n (bits_in rows a)) (bits-renamed rows b h k.1)
  circuit-renamed rows n (slice a high low) h k = ap (λ bits. plain (take (high - low + 1) (drop low bits)) n) (bits-renamed rows a h k.0)
  circuit-renamed rows n (pick c a b) h k =
      ap (λ bits. bitwise (choice_gate (first_bit bits)) n (bits_in (map (row_renamed name) rows) (renamed name a)) (bits_in (map (row_renamed name) rows) (renamed name b)))
      (bits-renamed rows c h k.0)
      ∙ ap (λ bits. bitwise (choice_gate (first_bit (bits_in rows c))) n bits (bits_in (map (row_renamed name) rows) (renamed name b))) (bits-renamed rows a h k.1)
      ∙ ap (bitwise (choice_gate (first_bit (bits_in rows c))) n (bits_in rows a)) (bits-renamed rows b h k.2)

  -- one term more
  circuit-more : (s : Blasted) (t : Term) (p : Circuit) → with_circuit (made_renamed name s) (renamed name t) p ≡ made_renamed name (with_circuit s t p)
  circuit-more s t p =
      ap (λ rows. record { table = rows; clauses = s.clauses ++ p.clauses; next = p.next })
      (sym (map-append (row_renamed name) s.table ((t, p.bits) ∷ [])))

  term-renamed : (s : Blasted) (t : Term) → AllByRecursion (λ row. Each P row.0) s.table → Each P t → with_term (made_renamed name s) (renamed name t) ≡ made_renamed name (with_term s t)
  term-renamed s t h k =
      ap (with_circuit (made_renamed name s) (renamed name t)) (circuit-renamed s.table s.next t h k) ∙ circuit-more s t (circuit_of (bits_in s.table) s.next t)

  rows-more : (rows : List (Term × List ℤ)) (t : Term) (bits : List ℤ) → AllByRecursion (λ row. Each P row.0) rows → Each P t
      → AllByRecursion (λ row. Each P row.0) (rows ++ (t, bits) ∷ [])
  rows-more [] t bits h k = (k, tt)
  rows-more (row ∷ rows) t bits h k = (h.0, rows-more rows t bits h.1 k)

  all-renamed : (ts : List Term) (s : Blasted) → AllByRecursion (λ row. Each P row.0) s.table → AllByRecursion (Each P) ts
      → fold with_term (made_renamed name s) (map (renamed name) ts) ≡ made_renamed name (fold with_term s ts)
  all-renamed [] s h k = refl
  all-renamed (t ∷ ts) s h k =
      ap (λ m. fold with_term m (map (renamed name) ts)) (term-renamed s t h k.0)
      ∙ all-renamed ts (with_term s t) (rows-more s.table t (circuit_of (bits_in s.table) s.next t).bits h k.0) k.1

  rows-all : (ts : List Term) (s : Blasted) → AllByRecursion (λ row. Each P row.0) s.table → AllByRecursion (Each P) ts → AllByRecursion (λ row. Each P row.0) (fold with_term s ts).table
  rows-all [] s h k = h
  rows-all (t ∷ ts) s h k = rows-all ts (with_term s t) (rows-more s.table t (circuit_of (bits_in s.table) s.next t).bits h k.0) k.1

  pub blasted-renamed : (ts : List Term) → AllByRecursion (Each P) ts → blasted (map (renamed name) ts) ≡ made_renamed name (blasted ts)
  blasted-renamed ts k = all-renamed ts (record { table = []; clauses = []; next = 2 }) tt k

  pub blasted-rows : (ts : List Term) → AllByRecursion (Each P) ts → AllByRecursion (λ row. Each P row.0) (blasted ts).table
  blasted-rows ts k = rows-all ts (record { table = []; clauses = []; next = 2 }) tt k

module _ (goal : Term) (name : ℕ → ℕ) (apart : AreApart name goal) where
  abbrev In : Term → Type 0
  In u = is_among (walk goal []) u ≡ true

  walked : AllByRecursion (Each (λ u. is_among (walk goal []) u ≡ true)) (walk goal [])
  walked = walk-all (λ u. is_among (walk goal []) u ≡ true) goal [] (walk-has goal []) tt

  pub goal-renamed : goal_blasted (renamed name goal) ≡ made_renamed name (goal_blasted goal)
  goal-renamed = ap blasted (walk-kept goal name apart) ∙ blasted-renamed (λ u. is_among (walk goal []) u ≡ true) name apart (walk goal []) walked

  bits-of : (t : Term) → Each (λ u. is_among (walk goal []) u ≡ true) t → bits_in (goal_blasted (renamed name goal)).table (renamed name t) ≡ bits_in (goal_blasted goal).table t
  bits-of t k =
      ap (λ (s : Blasted). bits_in s.table (renamed name t)) goal-renamed
      ∙ bits-renamed (λ u. is_among (walk goal []) u ≡ true) name apart (goal_blasted goal).table t
      (blasted-rows (λ u. is_among (walk goal []) u ≡ true) name apart (walk goal []) walked) k

  pub clauses-renamed : clauses_of (renamed name goal) ≡ clauses_of goal
  clauses-renamed =
      let clauses : (goal_blasted (renamed name goal)).clauses ≡ (goal_blasted goal).clauses = ap (λ (s : Blasted). s.clauses) goal-renamed in
      let bit : goal_bit (renamed name goal) ≡ goal_bit goal = ap first_bit (bits-of goal (walk-has goal [])) in
      cc

  pub vars-renamed : vars_of (renamed name goal) ≡ vars_of goal
  vars-renamed = ap (λ (s : Blasted). s.next - 1) goal-renamed

  pub input-renamed : (i w : ℕ) → Mentions goal i w → input_bits (renamed name goal) (name i) w ≡ input_bits goal i w
  input-renamed i w m = bits-of (input i w) m
