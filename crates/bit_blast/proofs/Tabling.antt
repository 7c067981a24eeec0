-- The bits of terms so far: as many as a term is wide, over variables that are used, and the first equal term keeps its own.
use Rattle.std.proofs.Common.{◌≡◌, ℕ, ◌≤◌, ℤ, true, false, List, [], ◌∷◌, ◌++◌, length, map, refl, ap, sym, ◌∙◌, subst, arith, inl, inr, append_assoc, ◌⊎◌}
use Rattle.std.specs.List.{fold}
use Rattle.std.proofs.lemmas.List.{append-nil, map-append, length-map}
use Rattle.std.proofs.lemmas.List.Folds.{list_any-append}
use Rattle.std.proofs.lemmas.Bool.{cases_Bool, cond-true, cond-false, or_cases, or_parts, or_left, false≢true}
use Rattle.bv_terms.specs.TermTrees.{Term, constant, input, apply, not_, binary, slice, pick, width, IsTerm}
use Rattle.cnf_core.specs.Literals.{opposite}
use Rattle.bit_blast.specs.Gates.{Circuit, choice_gate}
use Rattle.bv_terms.specs.Walks.{is_among, same_term, walk}
use Rattle.bit_blast.specs.Clauses.{Blasted, bits_in, blasted, first_bit, goal_blasted, circuit_of, with_term}
use Rattle.bit_blast.specs.Goals.{IsUnapplied}
use Rattle.bv_terms.proofs.SameTerms.{same-itself, same-only}
use Rattle.bit_blast.specs.Orders.{Fresh, OfParts, Ordered}
use Rattle.bit_blast.proofs.Lengths.{bitwise-length, constant-length, fresh-length, joined-length, slice-length}
use Rattle.bit_blast.proofs.Ordered.{walk-grows}
use Rattle.bit_blast.proofs.Defining.{AllNamed, ClausesNamed, Defines, all-more, clauses-more, every-append, part-defines}

-- ---- rows

abbrev pub row_terms : List (Term × List ℤ) → List Term
row_terms rows = map (λ (r : Term × List ℤ). r.0) rows

bits-old : (rows more : List (Term × List ℤ)) (u : Term) → is_among (row_terms rows) u ≡ true → bits_in (rows ++ more) u ≡ bits_in rows u
bits-old [] more u h = absurd (false≢true h)
bits-old (r ∷ rows) more u h = elim (cases_Bool (same_term r.0 u)) [
  | inl b ↦ cond-true (same_term r.0 u) r.1 (bits_in (rows ++ more) u) b ∙ sym (cond-true (same_term r.0 u) r.1 (bits_in rows u) b)
  | inr b ↦ cond-false (same_term r.0 u) r.1 (bits_in (rows ++ more) u) b
      ∙ bits-old rows more u (elim (or_cases (same_term r.0 u) (is_among (row_terms rows) u) h) [
        | inl e ↦ absurd (false≢true (sym b ∙ e))
        | inr e ↦ e
      ])
      ∙ sym (cond-false (same_term r.0 u) r.1 (bits_in rows u) b)
]

bits-new : (rows : List (Term × List ℤ)) (t : Term) (bits : List ℤ) → is_among (row_terms rows) t ≡ false → bits_in (rows ++ (t, bits) ∷ []) t ≡ bits
bits-new [] t bits h = cond-true (same_term t t) bits [] (same-itself t)
bits-new (r ∷ rows) t bits h = let p = or_parts (same_term r.0 t) (is_among (row_terms rows) t) h in
    cond-false (same_term r.0 t) r.1 (bits_in (rows ++ (t, bits) ∷ []) t) p.0 ∙ bits-new rows t bits p.1

bits-absent : (rows : List (Term × List ℤ)) (t : Term) → is_among (row_terms rows) t ≡ false → bits_in rows t ≡ []
bits-absent [] t h = refl
bits-absent (r ∷ rows) t h = let p = or_parts (same_term r.0 t) (is_among (row_terms rows) t) h in
    cond-false (same_term r.0 t) r.1 (bits_in rows t) p.0 ∙ bits-absent rows t p.1

-- ---- what the parts of a term have

pub parts-each : (P Q : Term → Type 0) → ((u : Term) → P u → Q u) → (t : Term) → OfParts P t → OfParts Q t
parts-each P Q f (constant w n) h = tt
parts-each P Q f (input i w) h = tt
parts-each P Q f (apply g args w) h = tt
parts-each P Q f (not_ a) h = f a h
parts-each P Q f (binary op a b) h = (f a h.0, f b h.1)
parts-each P Q f (slice a i j) h = f a h
parts-each P Q f (pick c a b) h = (f c h.0, f a h.1, f b h.2)

pub term-length : (bits : Term → List ℤ) (n : ℕ) (t : Term) → OfParts (λ u. length (bits u) ≡ width u) t → IsTerm t → IsUnapplied t → length (circuit_of bits n t).bits ≡ width t
term-length bits n (constant w v) e h u = constant-length w v
term-length bits n (input i w) e h u = fresh-length n w
term-length bits n (apply f args w) e h u = absurd u
term-length bits n (not_ a) e h u = length-map (bits a) opposite ∙ e
term-length bits n (binary op a b) e h u = joined-length op n (width a) (width b) (bits a) (bits b) e.0 e.1 h.2
term-length bits n (slice a high low) e h u = slice-length (bits a) high low (width a) e h.1 h.2
term-length bits n (pick c a b) e h u = bitwise-length (choice_gate (first_bit (bits c))) n (bits a) (bits b) (e.1 ∙ h.4 ∙ sym e.2) ∙ e.1

-- ---- a state of the making

pub record Tabled (seen : List Term) (s : Blasted) : Type 0 where
  pub next : 2 ≤ s.next
  pub clauses : ClausesNamed s.next s.clauses
  pub terms : row_terms s.table ≡ seen
  pub counts : (u : Term) → is_among seen u ≡ true → length (bits_in s.table u) ≡ width u
  pub named : (u : Term) → is_among seen u ≡ true → AllNamed s.next (bits_in s.table u)

pub no-bits : (seen : List Term) (s : Blasted) → Tabled seen s → (u : Term) → is_among seen u ≡ false → bits_in s.table u ≡ []
no-bits seen s h u n = bits-absent s.table u (ap (λ ts. is_among ts u) h.terms ∙ n)

pub among-cases : (seen : List Term) (t u : Term) → is_among (seen ++ t ∷ []) u ≡ true → (is_among seen u ≡ true) ⊎ (t ≡ u)
among-cases seen t u h = elim (or_cases (is_among seen u) (is_among (t ∷ []) u) (sym (list_any-append (λ (x : Term). same_term x u) seen (t ∷ [])) ∙ h)) [
  | inl e ↦ inl e
  | inr e ↦ elim (or_cases (same_term t u) false e) [ inl f ↦ inr (same-only t u f) | inr f ↦ absurd (false≢true f) ]
]

module _ (seen : List Term) (s : Blasted) (t : Term) (h : Tabled seen s) (f : Fresh seen t) where
  abbrev pub its_circuit : Circuit
  its_circuit = circuit_of (bits_in s.table) s.next t

  pub its-defines : Defines s.next its_circuit
  its-defines = part-defines (bits_in s.table) s.next t h.next f.unapplied (parts-each (λ u. is_among seen u ≡ true) (λ u. AllNamed s.next (bits_in s.table u)) h.named t f.parts)

  pub kept-bits : (u : Term) → is_among seen u ≡ true → bits_in (with_term s t).table u ≡ bits_in s.table u
  kept-bits u k = bits-old s.table ((t, its_circuit.bits) ∷ []) u (ap (λ ts. is_among ts u) h.terms ∙ k)

  pub its-bits : bits_in (with_term s t).table t ≡ its_circuit.bits
  its-bits = bits-new s.table t its_circuit.bits (ap (λ ts. is_among ts t) h.terms ∙ f.new)

  pub its-length : length its_circuit.bits ≡ width t
  its-length = term-length (bits_in s.table) s.next t (parts-each (λ u. is_among seen u ≡ true) (λ u. length (bits_in s.table u) ≡ width u) h.counts t f.parts) f.term f.unapplied

  pub its-tabled : Tabled (seen ++ t ∷ []) (with_term s t)
  its-tabled =
      let d = its-defines in
      record {
        next = (let g = d.grows in let n = h.next in omega arith);
        clauses = every-append (AllNamed its_circuit.next) s.clauses its_circuit.clauses (clauses-more s.next its_circuit.next d.grows s.clauses h.clauses) d.clauses;
        terms = map-append (λ (r : Term × List ℤ). r.0) s.table ((t, its_circuit.bits) ∷ []) ∙ ap (λ ts. ts ++ t ∷ []) h.terms;
        counts = λ u k. elim (among-cases seen t u k) [
          | inl e ↦ ap length (kept-bits u e) ∙ h.counts u e
          | inr e ↦ subst (λ x. length (bits_in (with_term s t).table x) ≡ width x) e (ap length its-bits ∙ its-length)
        ];
        named = λ u k. elim (among-cases seen t u k) [
          | inl e ↦ subst (AllNamed its_circuit.next) (sym (kept-bits u e)) (all-more s.next its_circuit.next d.grows (bits_in s.table u) (h.named u e))
          | inr e ↦ subst (λ x. AllNamed its_circuit.next (bits_in (with_term s t).table x)) e (subst (AllNamed its_circuit.next) (sym its-bits) d.bits)
        ];
      }

-- ---- all terms

pub all-tabled : (ts seen : List Term) (s : Blasted) → Ordered seen ts → Tabled seen s → Tabled (seen ++ ts) (fold with_term s ts)
all-tabled [] seen s o h = subst (λ xs. Tabled xs s) (sym (append-nil seen)) h
all-tabled (t ∷ ts) seen s o h =
    subst (λ xs. Tabled xs (fold with_term (with_term s t) ts)) (append_assoc seen (t ∷ []) ts)
    (all-tabled ts (seen ++ t ∷ []) (with_term s t) o.1 (its-tabled seen s t h o.0))

pub no-terms : Tabled [] (blasted [])
no-terms = record { next = omega arith; clauses = tt; terms = refl; counts = λ u h. absurd (false≢true h); named = λ u h. absurd (false≢true h) }

pub goal-ordered : (goal : Term) → IsTerm goal → IsUnapplied goal → Ordered [] (walk goal [])
goal-ordered goal h u = let g = walk-grows goal [] h u in subst (Ordered []) (sym g.is) g.ordered

pub goal-tabled : (goal : Term) → IsTerm goal → IsUnapplied goal → Tabled (walk goal []) (goal_blasted goal)
goal-tabled goal h u = all-tabled (walk goal []) [] (blasted []) (goal-ordered goal h u) no-terms

pub goal-there : (goal : Term) → IsTerm goal → IsUnapplied goal → is_among (walk goal []) goal ≡ true
goal-there goal h u = (walk-grows goal [] h u).there

-- ---- what stays while more terms are made

pub later-bits : (ts seen : List Term) (s : Blasted) → Ordered seen ts → Tabled seen s → (u : Term) → is_among seen u ≡ true → bits_in (fold with_term s ts).table u ≡ bits_in s.table u
later-bits [] seen s o h u k = refl
later-bits (t ∷ ts) seen s o h u k =
    later-bits ts (seen ++ t ∷ []) (with_term s t) o.1 (its-tabled seen s t h o.0) u
    (list_any-append (λ (x : Term). same_term x u) seen (t ∷ []) ∙ or_left (is_among seen u) (is_among (t ∷ []) u) k)
    ∙ kept-bits seen s t h o.0 u k
