-- Gates that are made bit by bit.
use Rattle.std.proofs.Common.{◌≡◌, ℕ, ◌+◌, ◌<◌, ◌≤◌, ℤ, pos, List, [], ◌∷◌, ◌++◌, length, drop, take, refl, ap, sym, ◌∙◌, subst, arith, get_or, suc, append_assoc}
use Rattle.std.proofs.lemmas.List.{append-nil, map-append, take-map, drop-map}
use Rattle.std.proofs.Math.Seq.{drop-cons}
use Rattle.std.proofs.Math.ListN.{drop_of_length-le}
use Rattle.bit_blast.specs.declared.bit.Bit.{Bit}
use Rattle.bit_blast.specs.declared.made.Gates.{Gates}
use Rattle.std.specs.Prelude.{if◌then◌else◌, ◌==◌, ◌%◌, ◌/◌, ◌-◌}
use Rattle.bit_blast.specs.Gates.{constant_bits, true_bit, false_bit, fresh, Circuit, plain, before, bitwise, sums, equals_from, less_from, same_gate, and_gate, xor_gate, choice_gate}
use Rattle.bit_blast.specs.Emitted.{numbers, listed, IsGate, AreGates, IsPair, IsSumBit, sum_gates, Continues}

pub continues-start : (old : Gates) (whole : Circuit) → Continues old old whole whole []
continues-start old whole = record { bits_ = refl; clauses_ = refl; next_ = refl }

pub continues-end : (old now : Gates) (whole rest : Circuit) (made bits : List ℤ) → rest ≡ plain bits now.next → Continues old now whole rest made
    → AreGates old now whole (made ++ bits)
continues-end old now whole rest made bits e h = record {
  are = sym (h.bits_ ∙ ap (λ (p : Circuit). made ++ p.bits) e);
  next = sym (h.next_ ∙ ap (λ (p : Circuit). p.next) e);
  listed_ = sym (h.clauses_ ∙ ap (λ (p : Circuit). listed now ++ p.clauses) e ∙ append-nil (listed now));
}

continues-step : (old now new : Gates) (whole rest after : Circuit) (made bits : List ℤ) (clauses : List (List ℤ)) → Continues old now whole rest made
    → rest ≡ before bits clauses after → listed new ≡ listed now ++ clauses → Continues old new whole after (made ++ bits)
continues-step old now new whole rest after made bits clauses h e l = record {
  bits_ = h.bits_ ∙ ap (λ (p : Circuit). made ++ p.bits) e ∙ sym (append_assoc made bits after.bits);
  clauses_ = h.clauses_ ∙ ap (λ (p : Circuit). listed now ++ p.clauses) e ∙ sym (append_assoc (listed now) clauses after.clauses) ∙ ap (λ cs. cs ++ after.clauses) (sym l);
  next_ = h.next_ ∙ ap (λ (p : Circuit). p.next) e;
}

-- ---- the bits to come

pub next-number : (bits : List Bit) (i : ℕ) (b : Bit) → i < length bits → b ≡ get_or bits i b → numbers (drop i bits) ≡ b.number ∷ numbers (drop (i + 1) bits)
next-number bits i b l e =
    ap numbers (drop-cons bits i b l) ∙ ap (λ (x : Bit). x.number ∷ numbers (drop (suc i) bits)) (sym e)
    ∙ ap (λ k. b.number ∷ numbers (drop k bits)) (let q : suc i ≡ i + 1 = omega arith in q)

pub no-more : (bits : List Bit) (i : ℕ) → length bits ≤ i → numbers (drop i bits) ≡ []
no-more bits i l = ap numbers (drop_of_length-le bits l)

-- ---- one gate a bit

pub bitwise-step : (gate : ℤ → ℤ → ℤ → List (List ℤ)) (old now new : Gates) (whole : Circuit) (xs ys : List Bit) (i : ℕ) (a b : Bit) (g : ℤ) (made : List ℤ)
    → i < length xs → length xs ≡ length ys → a ≡ get_or xs i a → b ≡ get_or ys i b
    → Continues old now whole (bitwise gate now.next (numbers (drop i xs)) (numbers (drop i ys))) made → IsGate now new (gate (pos now.next) a.number b.number) g
    → Continues old new whole (bitwise gate new.next (numbers (drop (i + 1) xs)) (numbers (drop (i + 1) ys))) (made ++ g ∷ [])
bitwise-step gate old now new whole xs ys i a b g made l e ea eb h is =
    let after = bitwise gate (now.next + 1) (numbers (drop (i + 1) xs)) (numbers (drop (i + 1) ys)) in
    let rest : bitwise gate now.next (numbers (drop i xs)) (numbers (drop i ys)) ≡ before (pos now.next ∷ []) (gate (pos now.next) a.number b.number) after
    = ap (λ bs. bitwise gate now.next bs (numbers (drop i ys))) (next-number xs i a l ea)
    ∙ ap (bitwise gate now.next (a.number ∷ numbers (drop (i + 1) xs))) (next-number ys i b (omega arith) eb) in
    subst (λ x. Continues old new whole (bitwise gate new.next (numbers (drop (i + 1) xs)) (numbers (drop (i + 1) ys))) (made ++ x ∷ [])) (sym is.is)
    (subst (λ n. Continues old new whole (bitwise gate n (numbers (drop (i + 1) xs)) (numbers (drop (i + 1) ys))) (made ++ pos now.next ∷ [])) (sym is.next)
    (continues-step old now new whole _ after made (pos now.next ∷ []) (gate (pos now.next) a.number b.number) h rest is.listed_))

pub bitwise-whole : (gate : ℤ → ℤ → ℤ → List (List ℤ)) (old now : Gates) (whole : Circuit) (xs ys : List Bit) (i : ℕ) (made : List ℤ) → length xs ≤ i
    → Continues old now whole (bitwise gate now.next (numbers (drop i xs)) (numbers (drop i ys))) made → AreGates old now whole made
bitwise-whole gate old now whole xs ys i made l h =
    subst (AreGates old now whole) (append-nil made)
    (continues-end old now whole _ made [] (ap (λ bs. bitwise gate now.next bs (numbers (drop i ys))) (no-more xs i l)) h)

-- ---- sums

pub sums-step : (old now new : Gates) (whole : Circuit) (xs ys : List Bit) (i : ℕ) (a b : Bit) (below sum carry : ℤ) (made : List ℤ)
    → i < length xs → length xs ≡ length ys → a ≡ get_or xs i a → b ≡ get_or ys i b
    → Continues old now whole (sums now.next below (numbers (drop i xs)) (numbers (drop i ys))) made → IsSumBit now new below a.number b.number sum carry
    → Continues old new whole (sums new.next carry (numbers (drop (i + 1) xs)) (numbers (drop (i + 1) ys))) (made ++ sum ∷ [])
sums-step old now new whole xs ys i a b below sum carry made l e ea eb h is =
    let n = now.next in
    let after = sums (n + 3) (pos (n + 2)) (numbers (drop (i + 1) xs)) (numbers (drop (i + 1) ys)) in
    let rest : sums n below (numbers (drop i xs)) (numbers (drop i ys)) ≡ before (pos (n + 1) ∷ []) (sum_gates n below a.number b.number) after
    = ap (λ bs. sums n below bs (numbers (drop i ys))) (next-number xs i a l ea)
    ∙ ap (sums n below (a.number ∷ numbers (drop (i + 1) xs))) (next-number ys i b (omega arith) eb) in
    subst (λ x. Continues old new whole (sums new.next carry (numbers (drop (i + 1) xs)) (numbers (drop (i + 1) ys))) (made ++ x ∷ [])) (sym is.sum_is)
    (subst (λ c. Continues old new whole (sums new.next c (numbers (drop (i + 1) xs)) (numbers (drop (i + 1) ys))) (made ++ pos (n + 1) ∷ [])) (sym is.carry_is)
    (subst (λ m. Continues old new whole (sums m (pos (n + 2)) (numbers (drop (i + 1) xs)) (numbers (drop (i + 1) ys))) (made ++ pos (n + 1) ∷ [])) (sym is.next)
    (continues-step old now new whole _ after made (pos (n + 1) ∷ []) (sum_gates n below a.number b.number) h rest is.listed_)))

pub sums-whole : (old now : Gates) (whole : Circuit) (xs ys : List Bit) (i : ℕ) (below : ℤ) (made : List ℤ) → length xs ≤ i
    → Continues old now whole (sums now.next below (numbers (drop i xs)) (numbers (drop i ys))) made → AreGates old now whole made
sums-whole old now whole xs ys i below made l h =
    subst (AreGates old now whole) (append-nil made)
    (continues-end old now whole _ made [] (ap (λ bs. sums now.next below bs (numbers (drop i ys))) (no-more xs i l)) h)

-- ---- chains

pub equals-step : (old now new : Gates) (whole : Circuit) (xs ys : List Bit) (i : ℕ) (a b : Bit) (chain g : ℤ)
    → i < length xs → length xs ≡ length ys → a ≡ get_or xs i a → b ≡ get_or ys i b
    → Continues old now whole (equals_from now.next chain (numbers (drop i xs)) (numbers (drop i ys))) []
    → IsPair now new (same_gate (pos now.next) a.number b.number ++ and_gate (pos (now.next + 1)) chain (pos now.next)) g
    → Continues old new whole (equals_from new.next g (numbers (drop (i + 1) xs)) (numbers (drop (i + 1) ys))) []
equals-step old now new whole xs ys i a b chain g l e ea eb h is =
    let n = now.next in
    let clauses = same_gate (pos n) a.number b.number ++ and_gate (pos (n + 1)) chain (pos n) in
    let after = equals_from (n + 2) (pos (n + 1)) (numbers (drop (i + 1) xs)) (numbers (drop (i + 1) ys)) in
    let rest : equals_from n chain (numbers (drop i xs)) (numbers (drop i ys)) ≡ before [] clauses after
    = ap (λ bs. equals_from n chain bs (numbers (drop i ys))) (next-number xs i a l ea)
    ∙ ap (equals_from n chain (a.number ∷ numbers (drop (i + 1) xs))) (next-number ys i b (omega arith) eb) in
    subst (λ x. Continues old new whole (equals_from new.next x (numbers (drop (i + 1) xs)) (numbers (drop (i + 1) ys))) []) (sym is.is)
    (subst (λ m. Continues old new whole (equals_from m (pos (n + 1)) (numbers (drop (i + 1) xs)) (numbers (drop (i + 1) ys))) []) (sym is.next)
    (continues-step old now new whole _ after [] [] clauses h rest is.listed_))

pub equals-whole : (old now : Gates) (whole : Circuit) (xs ys : List Bit) (i : ℕ) (chain : ℤ) → length xs ≤ i
    → Continues old now whole (equals_from now.next chain (numbers (drop i xs)) (numbers (drop i ys))) [] → AreGates old now whole (chain ∷ [])
equals-whole old now whole xs ys i chain l h =
    continues-end old now whole _ [] (chain ∷ []) (ap (λ bs. equals_from now.next chain bs (numbers (drop i ys))) (no-more xs i l)) h

pub less-step : (old now new : Gates) (whole : Circuit) (xs ys : List Bit) (i : ℕ) (a b : Bit) (below g : ℤ)
    → i < length xs → length xs ≡ length ys → a ≡ get_or xs i a → b ≡ get_or ys i b
    → Continues old now whole (less_from now.next below (numbers (drop i xs)) (numbers (drop i ys))) []
    → IsPair now new (xor_gate (pos now.next) a.number b.number ++ choice_gate (pos now.next) (pos (now.next + 1)) b.number below) g
    → Continues old new whole (less_from new.next g (numbers (drop (i + 1) xs)) (numbers (drop (i + 1) ys))) []
less-step old now new whole xs ys i a b below g l e ea eb h is =
    let n = now.next in
    let clauses = xor_gate (pos n) a.number b.number ++ choice_gate (pos n) (pos (n + 1)) b.number below in
    let after = less_from (n + 2) (pos (n + 1)) (numbers (drop (i + 1) xs)) (numbers (drop (i + 1) ys)) in
    let rest : less_from n below (numbers (drop i xs)) (numbers (drop i ys)) ≡ before [] clauses after
    = ap (λ bs. less_from n below bs (numbers (drop i ys))) (next-number xs i a l ea)
    ∙ ap (less_from n below (a.number ∷ numbers (drop (i + 1) xs))) (next-number ys i b (omega arith) eb) in
    subst (λ x. Continues old new whole (less_from new.next x (numbers (drop (i + 1) xs)) (numbers (drop (i + 1) ys))) []) (sym is.is)
    (subst (λ m. Continues old new whole (less_from m (pos (n + 1)) (numbers (drop (i + 1) xs)) (numbers (drop (i + 1) ys))) []) (sym is.next)
    (continues-step old now new whole _ after [] [] clauses h rest is.listed_))

pub less-whole : (old now : Gates) (whole : Circuit) (xs ys : List Bit) (i : ℕ) (below : ℤ) → length xs ≤ i
    → Continues old now whole (less_from now.next below (numbers (drop i xs)) (numbers (drop i ys))) [] → AreGates old now whole (below ∷ [])
less-whole old now whole xs ys i below l h =
    continues-end old now whole _ [] (below ∷ []) (ap (λ bs. less_from now.next below bs (numbers (drop i ys))) (no-more xs i l)) h

-- ---- the loops

pub start-at : (old : Gates) (whole rest : Circuit) (made : List ℤ) → rest ≡ whole → made ≡ [] → Continues old old whole rest made
start-at old whole rest made e m =
    subst (λ r. Continues old old whole r made) (sym e) (subst (Continues old old whole whole) (sym m) (continues-start old whole))

pub numbers-push : (bits more : List Bit) (b : Bit) → more ≡ bits ++ b ∷ [] → numbers more ≡ numbers bits ++ b.number ∷ []
numbers-push bits more b e = ap numbers e ∙ map-append (λ (x : Bit). x.number) bits (b ∷ [])

pub less-pair : (old mid new : Gates) (a b below d g : ℤ) → IsGate old mid (xor_gate (pos old.next) a b) d → IsGate mid new (choice_gate d (pos mid.next) b below) g
    → IsPair old new (xor_gate (pos old.next) a b ++ choice_gate (pos old.next) (pos (old.next + 1)) b below) g
less-pair old mid new a b below d g h k = record {
  is = k.is ∙ ap pos h.next;
  next = (let e = h.next in let e' = k.next in omega arith);
  listed_ = k.listed_ ∙ ap (λ cs. cs ++ choice_gate d (pos mid.next) b below) h.listed_
      ∙ append_assoc (listed old) (xor_gate (pos old.next) a b) (choice_gate d (pos mid.next) b below)
      ∙ ap (λ x. listed old ++ (xor_gate (pos old.next) a b ++ choice_gate x (pos mid.next) b below)) h.is
      ∙ ap (λ n. listed old ++ (xor_gate (pos old.next) a b ++ choice_gate (pos old.next) (pos n) b below)) h.next;
}

-- ---- constants and inputs

pub constant-step : (made : List ℤ) (w i rest : ℕ) (whole : List ℤ) (b : ℤ) → i < w → whole ≡ made ++ constant_bits (w - i) rest
    → b ≡ (if rest % 2 == 1 then true_bit else false_bit) → whole ≡ (made ++ b ∷ []) ++ constant_bits (w - (i + 1)) (rest / 2)
constant-step made w i rest whole b l h e =
    let k : w - i ≡ suc (w - (i + 1)) = omega arith in
    h ∙ ap (λ n. made ++ constant_bits n rest) k ∙ ap (λ x. made ++ x ∷ constant_bits (w - (i + 1)) (rest / 2)) (sym e)
    ∙ sym (append_assoc made (b ∷ []) (constant_bits (w - (i + 1)) (rest / 2)))

pub constant-whole : (made : List ℤ) (w i rest : ℕ) (whole : List ℤ) → w ≤ i → whole ≡ made ++ constant_bits (w - i) rest → made ≡ whole
constant-whole made w i rest whole l h =
    sym (h ∙ ap (λ n. made ++ constant_bits n rest) (let k : w - i ≡ 0 = omega arith in k) ∙ append-nil made)

-- what the loop over an input's bits knows
pub record Freshening (old now : Gates) (w i : ℕ) (made : List ℤ) : Type 0 where
  pub bits_ : fresh old.next w ≡ made ++ fresh now.next (w - i)
  pub next_ : now.next ≡ old.next + i
  pub listed_ : listed now ≡ listed old
  pub within : i ≤ w

pub fresh-start : (old : Gates) (w i : ℕ) (made : List ℤ) → i ≡ 0 → made ≡ [] → Freshening old old w i made
fresh-start old w i made z e = record {
  bits_ = ap (fresh old.next) (let k : w ≡ w - i = omega arith in k) ∙ ap (λ m. m ++ fresh old.next (w - i)) (sym e);
  next_ = omega arith;
  listed_ = refl;
  within = omega arith;
}

pub fresh-step : (old now new : Gates) (w i j : ℕ) (made more : List ℤ) (b : ℤ) → i < w → j ≡ i + 1 → Freshening old now w i made → IsGate now new [] b → more ≡ made ++ b ∷ []
    → Freshening old new w j more
fresh-step old now new w i j made more b l e h is m =
    let k : w - i ≡ suc (w - j) = omega arith in
    let n : suc now.next ≡ new.next = (let q = is.next in omega arith) in
    record {
      bits_ = h.bits_ ∙ ap (λ x. made ++ fresh now.next x) k ∙ ap (λ x. made ++ x ∷ fresh (suc now.next) (w - j)) (sym is.is)
          ∙ ap (λ x. made ++ b ∷ fresh x (w - j)) n ∙ sym (append_assoc made (b ∷ []) (fresh new.next (w - j))) ∙ ap (λ x. x ++ fresh new.next (w - j)) (sym m);
      next_ = (let q = is.next in let r = h.next_ in omega arith);
      listed_ = is.listed_ ∙ append-nil (listed now) ∙ h.listed_;
      within = omega arith;
    }

pub fresh-whole : (old now : Gates) (w i : ℕ) (made : List ℤ) → w ≤ i → Freshening old now w i made → AreGates old now (plain (fresh old.next w) (old.next + w)) made
fresh-whole old now w i made l h = record {
  are = sym (h.bits_ ∙ ap (λ x. made ++ fresh now.next x) (let k : w - i ≡ 0 = omega arith in k) ∙ append-nil made);
  next = (let r = h.next_ in let q = h.within in omega arith);
  listed_ = h.listed_ ∙ sym (append-nil (listed old));
}

pub constant-more : (bits more : List Bit) (w i j rest : ℕ) (whole : List ℤ) (b : Bit) → i < w → j ≡ i + 1 → more ≡ bits ++ b ∷ []
    → whole ≡ numbers bits ++ constant_bits (w - i) rest → b.number ≡ (if rest % 2 == 1 then true_bit else false_bit)
    → whole ≡ numbers more ++ constant_bits (w - j) (rest / 2)
constant-more bits more w i j rest whole b l e m h is =
    constant-step (numbers bits) w i rest whole b.number l h is
    ∙ ap (λ k. (numbers bits ++ b.number ∷ []) ++ constant_bits (w - k) (rest / 2)) (sym e)
    ∙ ap (λ ns. ns ++ constant_bits (w - j) (rest / 2)) (sym (numbers-push bits more b m))

pub numbers-slice : (bits : List Bit) (n m low : ℕ) → n ≡ m → numbers (take n (drop low bits)) ≡ take m (drop low (numbers bits))
numbers-slice bits n m low e =
    sym (take-map (λ (b : Bit). b.number) n (drop low bits))
    ∙ ap (λ xs. take n xs) (sym (drop-map (λ (b : Bit). b.number) low bits))
    ∙ ap (λ k. take k (drop low (numbers bits))) e
