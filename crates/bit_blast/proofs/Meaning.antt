-- Where the clauses of a term hold, its bits are its value.
use Rattle.std.proofs.Common.{◌≡◌, ◌≢◌, ℕ, ◌+◌, ◌-◌, ◌*◌, ◌/◌, ◌%◌, ◌^◌, ◌<◌, ◌≤◌, ◌==◌, zero, suc, ℤ, pos, Bool, true, false, not, ◌&&◌, ◌||◌, List, [], ◌∷◌, ◌++◌, length, map, take, drop, refl, ap, sym, ◌∙◌, subst, arith, inl, inr}
use Rattle.std.specs.Prelude.{if◌then◌else◌, bit_and, bit_or, bit_xor, nat_lt}
use Rattle.std.specs.Bool.{beq}
use Rattle.std.proofs.lemmas.Nat.{div-mul-add, mod-mul-add}
use Rattle.std.proofs.lemmas.List.{length-map, length-take-le, length-drop, take-append-drop}
use Rattle.std.proofs.lemmas.Bool.{cases_Bool, cond-true, cond-false, eq-eqb, le-leb}
use Rattle.cocoon_num.specs.Values.{Value, number, apply_unary, apply_slice, flip}
use Rattle.bv_terms.specs.declared.node.TermOp.{TermOp}
use Rattle.bv_terms.specs.declared.node.TermOp.TheVariants.{Add, Sub, And, Or, Xor, Concat, Equal, Less}
use Rattle.bv_terms.specs.TermTrees.{Term, constant, input, apply, not_, binary, slice, pick, width, joined_width, OperandsFit, IsTerm}
use Rattle.bv_terms.specs.TermValues.{Functions, Inputs, term_number, number_in, operated, term_value}
use Rattle.bv_terms.proofs.ValueFacts.{compared, computed, sliced-width}
use Rattle.cnf_core.specs.Literals.{opposite}
use Rattle.bit_blast.specs.Gates.{and_gate, or_gate, xor_gate, same_gate, choice_gate, carry_gate, bitwise, sums, equals, equals_from, less_from, constant_bits, true_bit, false_bit}
use Rattle.bit_blast.specs.Clauses.{first_bit, joined, circuit_of}
use Rattle.bit_blast.specs.Goals.{IsUnapplied}
use Rattle.bit_blast.specs.Meanings.{IsValuation, all_hold}
use Rattle.bit_blast.specs.Readings.{number_read}
use Rattle.bit_blast.proofs.GateMeanings.{and-means, or-means, xor-means, same-means, choice-means, carry-means}
use Rattle.bit_blast.specs.Orders.{OfParts}
use Rattle.bit_blast.proofs.Defining.{AllNamed, Named, all-more, all-opposite, first-named, hold-parts, named-more, not-zero}
use Rattle.bit_blast.proofs.BitNumbers.{add-bits, and-bits, and-true, beq-same, bit, equal-bits, less-bits, or-bits, pair-below, sum-mod, two-pow, xor-bits}

choose-bits : (k x y : Bool) (a b : ℕ) → bit (if k then x else y) + 2 * (if k then a else b) ≡ (if k then bit x + 2 * a else (bit y + 2 * b))
choose-bits true x y a b = refl
choose-bits false x y a b = refl

choose-none : (k : Bool) → ◌≡◌ {A = ℕ} 0 (if k then 0 else 0)
choose-none true = refl
choose-none false = refl

choose-value : (k : Bool) (x y : Value) → (if bit k == 1 then x else y) ≡ (if k then x else y)
choose-value true x y = refl
choose-value false x y = refl

choose-number : (k : Bool) (x y : Value) (w u a b : ℕ) → x ≡ number w a → y ≡ number u b → w ≡ u → (if k then x else y) ≡ number w (if k then a else b)
choose-number true x y w u a b e f g = e
choose-number false x y w u a b e f g = f ∙ ap (λ n. number n b) (sym g)

module _ (v : ℤ → Bool) (is : IsValuation v) where
  -- ---- numbers

  pub below : (bits : List ℤ) → number_read v bits < 2 ^ length bits
  below [] = omega arith
  below (b ∷ bits) = pair-below (v b) (number_read v bits) (length bits) (below bits)

  both-lists : (xs ys : List ℤ) → number_read v (xs ++ ys) ≡ number_read v ys * 2 ^ length xs + number_read v xs
  both-lists [] ys = omega arith
  both-lists (x ∷ xs) ys =
      (let h = both-lists xs ys in let p = two-pow (length xs) in
      let e : number_read v ys * 2 ^ suc (length xs) ≡ 2 * (number_read v ys * 2 ^ length xs) = ap (λ k. number_read v ys * k) p ∙ (grind arith) in omega arith)

  flip-bit : (b : ℤ) → b ≢ pos 0 → bit (v (opposite b)) + bit (v b) ≡ 1
  flip-bit b n = ap (λ x. bit x + bit (v b)) (is b n) ∙ turned (v b)
    where
      turned : (x : Bool) → bit (not x) + bit x ≡ 1
      turned true = refl
      turned false = refl

  flipped : (n : ℕ) (bits : List ℤ) → AllNamed n bits → number_read v (map opposite bits) + number_read v bits + 1 ≡ 2 ^ length bits
  flipped n [] h = refl
  flipped n (b ∷ bits) h = (let f = flip-bit b (not-zero n b h.0) in let r = flipped n bits h.1 in let p = two-pow (length bits) in omega arith)

  taken : (k m : ℕ) (bits : List ℤ) → k + m ≤ length bits → number_read v (take m (drop k bits)) ≡ number_read v bits / 2 ^ k % 2 ^ m
  taken k m bits l =
      let prefix = take k bits in
      let rest = drop k bits in
      let n : length prefix ≡ k = length-take-le k bits (omega arith) in
      let r : length rest ≡ length bits - k = length-drop k bits in
      let whole : number_read v bits ≡ number_read v rest * 2 ^ k + number_read v prefix
      = ap (number_read v) (sym (take-append-drop k bits)) ∙ both-lists prefix rest ∙ ap (λ x. number_read v rest * 2 ^ x + number_read v prefix) n in
      let some : number_read v rest ≡ number_read v bits / 2 ^ k
      = sym (ap (λ x. x / 2 ^ k) whole ∙ div-mul-add (number_read v rest) (2 ^ k) (number_read v prefix) (subst (λ x. number_read v prefix < 2 ^ x) n (below prefix))) in
      let part = take m rest in
      let last = drop m rest in
      let c : length part ≡ m = length-take-le m rest (omega arith) in
      let split : number_read v rest ≡ number_read v last * 2 ^ m + number_read v part
      = ap (number_read v) (sym (take-append-drop m rest)) ∙ both-lists part last ∙ ap (λ x. number_read v last * 2 ^ x + number_read v part) c in
      sym (ap (λ x. x % 2 ^ m) (sym some ∙ split) ∙ mod-mul-add (number_read v last) (2 ^ m) (number_read v part) (subst (λ x. number_read v part < 2 ^ x) c (below part)))

  -- ---- gates bit by bit

  bitwise-means : (gate : ℤ → ℤ → ℤ → List (List ℤ)) (f : Bool → Bool → Bool) (g : ℕ → ℕ → ℕ) (from : ℕ)
      → ((n : ℕ) (a b : ℤ) → from ≤ n → Named n a → Named n b → all_hold v (gate (pos n) a b) ≡ true → v (pos n) ≡ f (v a) (v b))
      → ((x y : Bool) (a b : ℕ) → bit (f x y) + 2 * g a b ≡ g (bit x + 2 * a) (bit y + 2 * b)) → 0 ≡ g 0 0
      → (n : ℕ) (xs ys : List ℤ) → from ≤ n → AllNamed n xs → AllNamed n ys → length xs ≡ length ys → all_hold v (bitwise gate n xs ys).clauses ≡ true
      → number_read v (bitwise gate n xs ys).bits ≡ g (number_read v xs) (number_read v ys)
  bitwise-means gate f g from means joins none n [] [] l hx hy e h = none
  bitwise-means gate f g from means joins none n [] (y ∷ ys) l hx hy e h = absurd (omega arith)
  bitwise-means gate f g from means joins none n (x ∷ xs) [] l hx hy e h = absurd (omega arith)
  bitwise-means gate f g from means joins none n (x ∷ xs) (y ∷ ys) l hx hy e h =
      let p = hold-parts v (gate (pos n) x y) (bitwise gate (n + 1) xs ys).clauses h in
      let here = means n x y l hx.0 hy.0 p.0 in
      let rest = bitwise-means gate f g from means joins none (n + 1) xs ys (omega arith) (all-more n (n + 1) (omega arith) xs hx.1) (all-more n (n + 1) (omega arith) ys hy.1) (omega arith) p.1 in
      ap (λ b. bit b + 2 * number_read v (bitwise gate (n + 1) xs ys).bits) here ∙ ap (λ k. bit (f (v x) (v y)) + 2 * k) rest
      ∙ joins (v x) (v y) (number_read v xs) (number_read v ys)

  module _ (n m : ℕ) (some : 1 ≤ n) where
    new : pos n ≢ pos 0
    new = not-zero (n + 1) (pos n) (some, omega arith)

    and-is : (a b : ℤ) → Named m a → Named m b → all_hold v (and_gate (pos n) a b) ≡ true → v (pos n) ≡ (v a && v b)
    and-is a b ha hb h = beq-same _ _ (sym (and-means v is (pos n) a b new (not-zero m a ha) (not-zero m b hb)) ∙ h)

    or-is : (a b : ℤ) → Named m a → Named m b → all_hold v (or_gate (pos n) a b) ≡ true → v (pos n) ≡ (v a || v b)
    or-is a b ha hb h = beq-same _ _ (sym (or-means v is (pos n) a b new (not-zero m a ha) (not-zero m b hb)) ∙ h)

    xor-is : (a b : ℤ) → Named m a → Named m b → all_hold v (xor_gate (pos n) a b) ≡ true → v (pos n) ≡ not (beq (v a) (v b))
    xor-is a b ha hb h = beq-same _ _ (sym (xor-means v is (pos n) a b new (not-zero m a ha) (not-zero m b hb)) ∙ h)

    same-is : (a b : ℤ) → Named m a → Named m b → all_hold v (same_gate (pos n) a b) ≡ true → v (pos n) ≡ beq (v a) (v b)
    same-is a b ha hb h = beq-same _ _ (sym (same-means v is (pos n) a b new (not-zero m a ha) (not-zero m b hb)) ∙ h)

    choice-is : (c a b : ℤ) → Named m c → Named m a → Named m b → all_hold v (choice_gate c (pos n) a b) ≡ true → v (pos n) ≡ (if v c then v a else v b)
    choice-is c a b hc ha hb h = beq-same _ _ (sym (choice-means v is c (pos n) a b (not-zero m c hc) new (not-zero m a ha) (not-zero m b hb)) ∙ h)

    carry-is : (a b c : ℤ) → Named m a → Named m b → Named m c → all_hold v (carry_gate (pos n) a b c) ≡ true → v (pos n) ≡ (v a && v b || v a && v c || v b && v c)
    carry-is a b c ha hb hc h = beq-same _ _ (sym (carry-means v is (pos n) a b c new (not-zero m a ha) (not-zero m b hb) (not-zero m c hc)) ∙ h)

  sums-mean : (n : ℕ) (c : ℤ) (xs ys : List ℤ) → 1 ≤ n → Named n c → AllNamed n xs → AllNamed n ys → length xs ≡ length ys → all_hold v (sums n c xs ys).clauses ≡ true
      → (q : ℕ) × (number_read v (sums n c xs ys).bits + 2 ^ length xs * q ≡ number_read v xs + number_read v ys + bit (v c))
  sums-mean n c [] [] l hc hx hy e h = (bit (v c), omega arith)
  sums-mean n c [] (y ∷ ys) l hc hx hy e h = absurd (omega arith)
  sums-mean n c (x ∷ xs) [] l hc hx hy e h = absurd (omega arith)
  sums-mean n c (x ∷ xs) (y ∷ ys) l hc hx hy e h =
      let rest = sums (n + 3) (pos (n + 2)) xs ys in
      let p = hold-parts v (xor_gate (pos n) x y ++ xor_gate (pos (n + 1)) (pos n) c ++ carry_gate (pos (n + 2)) x y c) rest.clauses h in
      let first = hold-parts v (xor_gate (pos n) x y) (xor_gate (pos (n + 1)) (pos n) c ++ carry_gate (pos (n + 2)) x y c) p.0 in
      let second = hold-parts v (xor_gate (pos (n + 1)) (pos n) c) (carry_gate (pos (n + 2)) x y c) first.1 in
      let up = named-more n (n + 1) (omega arith) in
      let differ = xor-is n n l x y hx.0 hy.0 first.0 in
      let sum : v (pos (n + 1)) ≡ not (beq (not (beq (v x) (v y))) (v c))
      = xor-is (n + 1) (n + 1) (omega arith) (pos n) c (l, omega arith) (up c hc) second.0 ∙ ap (λ d. not (beq d (v c))) differ in
      let carry = carry-is (n + 2) n (omega arith) x y c hx.0 hy.0 hc second.1 in
      let r = sums-mean (n + 3) (pos (n + 2)) xs ys (omega arith) (omega arith, omega arith) (all-more n (n + 3) (omega arith) xs hx.1) (all-more n (n + 3) (omega arith) ys hy.1) (omega arith) p.1 in (
        r.0,
        ap (λ b. (bit b + 2 * number_read v rest.bits) + 2 ^ suc (length xs) * r.0) sum
            ∙ add-bits (v x) (v y) (v c) (number_read v xs) (number_read v ys) (number_read v rest.bits) r.0 (length xs) (r.1 ∙ ap (λ b. number_read v xs + number_read v ys + bit b) carry),
      )

  one : (b : ℤ) (x : Bool) → v b ≡ x → number_read v (b ∷ []) ≡ bit x
  one b x e = (let q = ap bit e in omega arith)

  equals-from-means : (n : ℕ) (c : ℤ) (xs ys : List ℤ) → 1 ≤ n → Named n c → AllNamed n xs → AllNamed n ys → length xs ≡ length ys → all_hold v (equals_from n c xs ys).clauses ≡ true
      → number_read v (equals_from n c xs ys).bits ≡ bit (v c && number_read v xs == number_read v ys)
  equals-from-means n c [] [] l hc hx hy e h = one c (v c && true) (sym (and-true (v c)))
  equals-from-means n c [] (y ∷ ys) l hc hx hy e h = absurd (omega arith)
  equals-from-means n c (x ∷ xs) [] l hc hx hy e h = absurd (omega arith)
  equals-from-means n c (x ∷ xs) (y ∷ ys) l hc hx hy e h =
      let rest = equals_from (n + 2) (pos (n + 1)) xs ys in
      let p = hold-parts v (same_gate (pos n) x y ++ and_gate (pos (n + 1)) c (pos n)) rest.clauses h in
      let first = hold-parts v (same_gate (pos n) x y) (and_gate (pos (n + 1)) c (pos n)) p.0 in
      let same = same-is n n l x y hx.0 hy.0 first.0 in
      let chain : v (pos (n + 1)) ≡ (v c && beq (v x) (v y))
      = and-is (n + 1) (n + 1) (omega arith) c (pos n) (named-more n (n + 1) (omega arith) c hc) (l, omega arith) first.1 ∙ ap (λ b. v c && b) same in
      equals-from-means (n + 2) (pos (n + 1)) xs ys (omega arith) (omega arith, omega arith) (all-more n (n + 2) (omega arith) xs hx.1) (all-more n (n + 2) (omega arith) ys hy.1) (omega arith) p.1
      ∙ ap (λ b. bit (b && number_read v xs == number_read v ys)) chain
      ∙ ap bit (regroup (v c) (beq (v x) (v y)) (number_read v xs == number_read v ys) ∙ ap (λ b. v c && b) (equal-bits (v x) (v y) (number_read v xs) (number_read v ys)))
    where
      regroup : (a b c : Bool) → ((a && b) && c) ≡ (a && (b && c))
      regroup true b c = refl
      regroup false b c = refl

  equals-mean : (n : ℕ) (xs ys : List ℤ) → 1 ≤ n → AllNamed n xs → AllNamed n ys → length xs ≡ length ys → 1 ≤ length xs → all_hold v (equals n xs ys).clauses ≡ true
      → number_read v (equals n xs ys).bits ≡ bit (number_read v xs == number_read v ys)
  equals-mean n [] ys l hx hy e s h = absurd (omega arith)
  equals-mean n (x ∷ xs) [] l hx hy e s h = absurd (omega arith)
  equals-mean n (x ∷ xs) (y ∷ ys) l hx hy e s h =
      let p = hold-parts v (same_gate (pos n) x y) (equals_from (n + 1) (pos n) xs ys).clauses h in
      let same = same-is n n l x y hx.0 hy.0 p.0 in
      equals-from-means (n + 1) (pos n) xs ys (omega arith) (l, omega arith) (all-more n (n + 1) (omega arith) xs hx.1) (all-more n (n + 1) (omega arith) ys hy.1) (omega arith) p.1
      ∙ ap (λ b. bit (b && number_read v xs == number_read v ys)) same
      ∙ ap bit (equal-bits (v x) (v y) (number_read v xs) (number_read v ys))

  less-means : (n : ℕ) (c : ℤ) (xs ys : List ℤ) → 1 ≤ n → Named n c → AllNamed n xs → AllNamed n ys → length xs ≡ length ys → all_hold v (less_from n c xs ys).clauses ≡ true
      → number_read v (less_from n c xs ys).bits ≡ bit (nat_lt (number_read v xs) (number_read v ys) || number_read v xs == number_read v ys && v c)
  less-means n c [] [] l hc hx hy e h = one c (v c) refl
  less-means n c [] (y ∷ ys) l hc hx hy e h = absurd (omega arith)
  less-means n c (x ∷ xs) [] l hc hx hy e h = absurd (omega arith)
  less-means n c (x ∷ xs) (y ∷ ys) l hc hx hy e h =
      let rest = less_from (n + 2) (pos (n + 1)) xs ys in
      let p = hold-parts v (xor_gate (pos n) x y ++ choice_gate (pos n) (pos (n + 1)) y c) rest.clauses h in
      let first = hold-parts v (xor_gate (pos n) x y) (choice_gate (pos n) (pos (n + 1)) y c) p.0 in
      let up = named-more n (n + 1) (omega arith) in
      let differ = xor-is n n l x y hx.0 hy.0 first.0 in
      let answer : v (pos (n + 1)) ≡ (if not (beq (v x) (v y)) then v y else v c)
      = choice-is (n + 1) (n + 1) (omega arith) (pos n) y c (l, omega arith) (up y hy.0) (up c hc) first.1 ∙ ap (λ d. if d then v y else v c) differ in
      less-means (n + 2) (pos (n + 1)) xs ys (omega arith) (omega arith, omega arith) (all-more n (n + 2) (omega arith) xs hx.1) (all-more n (n + 2) (omega arith) ys hy.1) (omega arith) p.1
      ∙ ap (λ b. bit (nat_lt (number_read v xs) (number_read v ys) || number_read v xs == number_read v ys && b)) answer
      ∙ ap bit (less-bits (v x) (v y) (v c) (number_read v xs) (number_read v ys))

  -- ---- the value of a term

  module _ (constant_true : v true_bit ≡ true) where
    constant_false : v false_bit ≡ false
    constant_false = is true_bit (λ e. cc) ∙ ap not constant_true

    constant-means : (w k : ℕ) → k < 2 ^ w → number_read v (constant_bits w k) ≡ k
    constant-means zero k l = (let p : 2 ^ zero ≡ 1 = refl in omega arith)
    constant-means (suc w) k l =
        let p = two-pow w in
        let rest = constant-means w (k / 2) (omega arith) in
        elim (cases_Bool (k % 2 == 1)) [
          | inl e ↦
              let odd = Rattle.std.proofs.lemmas.Bool.eqb-true (k % 2) 1 e in
              let here : v (if k % 2 == 1 then true_bit else false_bit) ≡ true = ap v (cond-true (k % 2 == 1) true_bit false_bit e) ∙ constant_true in
              (let b = ap bit here in omega arith)
          | inr e ↦
              let even = Rattle.std.proofs.lemmas.Bool.eqb-false (k % 2) 1 e in
              let here : v (if k % 2 == 1 then true_bit else false_bit) ≡ false = ap v (cond-false (k % 2 == 1) true_bit false_bit e) ∙ constant_false in
              let zero_bit : k % 2 ≡ 0 = lowest k even in
              (let b = ap bit here in omega arith)
        ]
      where
        lowest : (k : ℕ) → (k % 2 ≡ 1 → ⊥) → k % 2 ≡ 0
        lowest k n = elim (Rattle.std.proofs.lemmas.Bool.cases_eq (k % 2) 0) [ inl e ↦ e | inr e ↦ absurd (n (let a : 1 ≤ k % 2 = positive (k % 2) e in omega arith)) ]
          where
            positive : (m : ℕ) → (m ≡ 0 → ⊥) → 1 ≤ m
            positive zero n = absurd (n refl)
            positive (suc m) n = omega arith

    joined-means : (op : TermOp) (n wa wb : ℕ) (xs ys : List ℤ) → 2 ≤ n → AllNamed n xs → AllNamed n ys → length xs ≡ wa → length ys ≡ wb → 1 ≤ wa → OperandsFit op wa wb
        → all_hold v (joined op n xs ys).clauses ≡ true
        → operated op (number wa (number_read v xs)) (number wb (number_read v ys)) ≡ number (joined_width op wa wb) (number_read v (joined op n xs ys).bits)
    joined-means Add n wa wb xs ys l hx hy ex ey s fit h =
        let m = sums-mean n false_bit xs ys (omega arith) (omega arith, l) hx hy (ex ∙ fit ∙ sym ey) h in
        let less : number_read v (sums n false_bit xs ys).bits < 2 ^ length xs
        = subst (λ k. number_read v (sums n false_bit xs ys).bits < 2 ^ k) (Rattle.bit_blast.proofs.Lengths.sums-length n false_bit xs ys (ex ∙ fit ∙ sym ey)) (below (sums n false_bit xs ys).bits) in
        let total : number_read v (sums n false_bit xs ys).bits + 2 ^ length xs * m.0 ≡ number_read v xs + number_read v ys
        = (let a = m.1 in let b = ap bit constant_false in omega arith) in
        computed (λ w a b. (a + b) % 2 ^ w) wa wb (number_read v xs) (number_read v ys) fit
        ∙ ap (number wa) (sym (sum-mod _ m.0 _ (2 ^ length xs) less total ∙ ap (λ k. (number_read v xs + number_read v ys) % 2 ^ k) (ex ∙ fit)))
    joined-means Sub n wa wb xs ys l hx hy ex ey s fit h =
        let zs = map opposite ys in
        let same : length xs ≡ length zs = ex ∙ fit ∙ sym ey ∙ sym (length-map ys opposite) in
        let m = sums-mean n true_bit xs zs (omega arith) (omega arith, l) hx (all-opposite n ys hy) same h in
        let less : number_read v (sums n true_bit xs zs).bits < 2 ^ length xs
        = subst (λ k. number_read v (sums n true_bit xs zs).bits < 2 ^ k) (Rattle.bit_blast.proofs.Lengths.sums-length n true_bit xs zs same) (below (sums n true_bit xs zs).bits) in
        let turned : number_read v zs + number_read v ys + 1 ≡ 2 ^ wb = flipped n ys hy ∙ ap (λ k. 2 ^ k) ey in
        let total : number_read v (sums n true_bit xs zs).bits + 2 ^ length xs * m.0 ≡ number_read v xs + 2 ^ wb - number_read v ys
        = (let a = m.1 in let b = ap bit constant_true in omega arith) in
        computed (λ w a b. (a + 2 ^ w - b) % 2 ^ w) wa wb (number_read v xs) (number_read v ys) fit
        ∙ ap (number wa) (sym (sum-mod _ m.0 _ (2 ^ length xs) less total ∙ ap (λ k. (number_read v xs + 2 ^ wb - number_read v ys) % 2 ^ k) (ex ∙ fit)))
    joined-means And n wa wb xs ys l hx hy ex ey s fit h =
        computed (λ w a b. bit_and a b) wa wb (number_read v xs) (number_read v ys) fit
        ∙ ap (number wa) (sym (bitwise-means and_gate (λ x y. x && y) bit_and n (λ k a b g ha hb. and-is k k (omega arith) a b ha hb) and-bits refl n xs ys (omega arith) hx hy (ex ∙ fit ∙ sym ey) h))
    joined-means Or n wa wb xs ys l hx hy ex ey s fit h =
        computed (λ w a b. bit_or a b) wa wb (number_read v xs) (number_read v ys) fit
        ∙ ap (number wa) (sym (bitwise-means or_gate (λ x y. x || y) bit_or n (λ k a b g ha hb. or-is k k (omega arith) a b ha hb) or-bits refl n xs ys (omega arith) hx hy (ex ∙ fit ∙ sym ey) h))
    joined-means Xor n wa wb xs ys l hx hy ex ey s fit h =
        computed (λ w a b. bit_xor a b) wa wb (number_read v xs) (number_read v ys) fit
        ∙ ap (number wa) (sym (bitwise-means xor_gate (λ x y. not (beq x y)) bit_xor n (λ k a b g ha hb. xor-is k k (omega arith) a b ha hb) xor-bits refl n xs ys (omega arith) hx hy (ex ∙ fit ∙ sym ey) h))
    joined-means Concat n wa wb xs ys l hx hy ex ey s fit h =
        rw (le-leb (wa + wb) 128 fit) (ap (number (wa + wb)) (sym (both-lists ys xs ∙ ap (λ k. number_read v xs * 2 ^ k + number_read v ys) ey)))
    joined-means Equal n wa wb xs ys l hx hy ex ey s fit h =
        compared (λ a b. a == b) wa wb (number_read v xs) (number_read v ys) fit
        ∙ ap (number 1) (sym (equals-mean n xs ys (omega arith) hx hy (ex ∙ fit ∙ sym ey) (omega arith) h))
    joined-means Less n wa wb xs ys l hx hy ex ey s fit h =
        compared (λ a b. nat_lt a b) wa wb (number_read v xs) (number_read v ys) fit
        ∙ ap (number 1) (sym (less-means n false_bit xs ys (omega arith) (omega arith, l) hx hy (ex ∙ fit ∙ sym ey) h
        ∙ ap (λ b. bit (nat_lt (number_read v xs) (number_read v ys) || number_read v xs == number_read v ys && b)) constant_false
        ∙ ap bit (no-below (nat_lt (number_read v xs) (number_read v ys)) (number_read v xs == number_read v ys))))
      where
        no-below : (a b : Bool) → (a || b && false) ≡ a
        no-below true b = refl
        no-below false true = refl
        no-below false false = refl

    pub one-of : (bs : List ℤ) → length bs ≡ 1 → number_read v bs ≡ bit (v (first_bit bs))
    one-of [] e = absurd (omega arith)
    one-of (b ∷ []) e = omega arith
    one-of (b ∷ c ∷ bs) e = absurd (omega arith)

    -- an input is the number of its bits
    abbrev pub InputIs : Inputs → Term → List ℤ → Type 0
    InputIs ins (input i w) bits = ins i ≡ number_read v bits
    InputIs ins t bits = Unit {0}

    module _ (F : Functions) (ins : Inputs) (bits : Term → List ℤ) where
      abbrev pub Meant : Term → Type 0
      Meant t = term_value F ins t ≡ number (width t) (number_read v (bits t))

      pub part-means : (n : ℕ) (t : Term) → 2 ≤ n → IsTerm t → IsUnapplied t → OfParts (λ u. AllNamed n (bits u)) t → OfParts (λ u. length (bits u) ≡ width u) t
          → all_hold v (circuit_of bits n t).clauses ≡ true → OfParts Meant t → InputIs ins t (circuit_of bits n t).bits
          → term_value F ins t ≡ number (width t) (number_read v (circuit_of bits n t).bits)
      part-means n (constant w k) l h u named counts holds parts reads = ap (number w) (sym (constant-means w k h.1))
      part-means n (input i w) l h u named counts holds parts reads = ap (number w) reads
      part-means n (apply f args w) l h u named counts holds parts reads = absurd u
      part-means n (not_ a) l h u named counts holds parts reads =
          ap (λ x. term_number (apply_unary flip x)) parts
          ∙ ap (number (width a)) (let f = flipped n (bits a) named in let p = ap (λ k. 2 ^ k) counts in omega arith)
      part-means n (binary op a b) l h u named counts holds parts reads =
          ap (λ x. operated op x (term_value F ins b)) parts.0 ∙ ap (operated op (number (width a) (number_read v (bits a)))) parts.1
          ∙ joined-means op n (width a) (width b) (bits a) (bits b) l named.0 named.1 counts.0 counts.1 (Rattle.bit_blast.proofs.Lengths.is-wide a h.0) h.2 holds
      part-means n (slice a high low) l h u named counts holds parts reads =
          ap (λ x. term_number (apply_slice x high low)) parts ∙ sliced-width (width a) (number_read v (bits a)) high low h.1 h.2
          ∙ ap (number (high - low + 1)) (sym (taken low (high - low + 1) (bits a) (let q = h.2 in let r = h.1 in omega arith)))
      part-means n (pick c a b) l h u named counts holds parts reads =
          let choice = first_bit (bits c) in
          let k = v choice in
          let there = first-named n (bits c) l named.0 in
          let chosen = bitwise-means (choice_gate choice) (λ x y. if k then x else y) (λ x y. if k then x else y) n
          (λ m x y g hx hy. choice-is m m (omega arith) choice x y (named-more n m g choice there) hx hy) (choose-bits k) (choose-none k)
          n (bits a) (bits b) (omega arith) named.1 named.2 (counts.1 ∙ h.4 ∙ sym counts.2) holds in
          ap (λ x. if number_in x == 1 then term_value F ins a else term_value F ins b) parts.0
          ∙ ap (λ m. if m == 1 then term_value F ins a else term_value F ins b) (one-of (bits c) (counts.0 ∙ h.3))
          ∙ choose-value k (term_value F ins a) (term_value F ins b)
          ∙ choose-number k (term_value F ins a) (term_value F ins b) (width a) (width b) (number_read v (bits a)) (number_read v (bits b)) parts.1 parts.2 h.4
          ∙ ap (number (width a)) (sym chosen)
