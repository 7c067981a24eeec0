-- Numbers packed by their widths, cut again, and cut into bits.
use Rattle.std.specs.Prelude.{◌≡◌, ℕ, zero, suc, ◌+◌, ◌-◌, ◌*◌, ◌/◌, ◌%◌, ◌^◌, ◌<◌, ◌≤◌, List, [], ◌∷◌, ◌++◌, length, take, drop, refl}
use Rattle.std.proofs.Common.{sym, ◌∙◌, ap, subst, arith, get_or, add-one}
use Rattle.std.proofs.lemmas.List.{take-append-drop, replicate-append-replicate, length-replicate, length-drop, get_or-drop, drop-replicate, take-replicate, drop_more, length-take-le, append_assoc}
use Rattle.std.proofs.lemmas.Nat.{pow-add, mod_low, shr_high, shr-shr}
use Rattle.std.proofs.Math.Pow.{pow_pos}
use Rattle.std.proofs.Math.Nat.{mod-eq_of_lt, mod-lt, pow-le-pow_right, pow-suc}
use Rattle.cocoon_num.specs.Packets.{total, packed, cut, eights}
use Rattle.cocoon_num.specs.PacketForms.{FieldsFit}
use Rattle.cocoon_num.proofs.Packing.{cut_same, packed-cut, packed_below}
use Rattle.reference_programs.specs.Widths.{ones, bits_of}

-- what is cut fits
pub cut_fits : (ws : List ℕ) (n : ℕ) → FieldsFit ws (cut ws n)
cut_fits [] n = tt
cut_fits (w ∷ ws) n = (mod-lt (n / 2 ^ total ws) (pow_pos w), cut_fits ws n)

pub total-ones : (n : ℕ) → total (ones n) ≡ n
total-ones zero = refl
total-ones (suc n) = rw (total-ones n) (omega arith)

pub total-eights : (n : ℕ) → total (eights n) ≡ 8 * n
total-eights zero = refl
total-eights (suc n) = rw (total-eights n) (omega arith)

total-append : (us vs : List ℕ) → total (us ++ vs) ≡ total us + total vs
total-append [] vs = omega arith
total-append (u ∷ us) vs = rw (total-append us vs) (omega arith)

-- the first widths cut the upper bits, the others the lower ones
pub cut-append : (us vs : List ℕ) (n : ℕ) → cut (us ++ vs) n ≡ cut us (n / 2 ^ total vs) ++ cut vs n
cut-append [] vs n = refl
cut-append (u ∷ us) vs n =
    let e : total (us ++ vs) ≡ total vs + total us = total-append us vs ∙ omega arith in
    rw (e, ← shr-shr n (total vs) (total us), cut-append us vs n) refl

ones-add : (a b : ℕ) → ones (a + b) ≡ ones a ++ ones b
ones-add a b = sym (replicate-append-replicate a b 1)

-- of two numbers that are packed the bits of the first come first
pub bits_of_pair : (w k n p : ℕ) → p < 2 ^ k → cut (ones (w + k)) (n * 2 ^ k + p) ≡ cut (ones w) n ++ cut (ones k) p
bits_of_pair w k n p h =
    let t : total (ones k) ≡ k = total-ones k in
    let upper : (n * 2 ^ k + p) / 2 ^ total (ones k) ≡ n = rw t (shr_high n k p h) in
    let lower : cut (ones k) (n * 2 ^ k + p) ≡ cut (ones k) p = cut_same (ones k) (n * 2 ^ k + p) p (rw t (mod_low n k p h ∙ sym (mod-eq_of_lt h))) in
    rw (ones-add w k, cut-append (ones w) (ones k) (n * 2 ^ k + p), upper, lower) refl

-- the first field's bits, and those of the others
pub bits_of-cons : (w n : ℕ) (ws ns : List ℕ) → FieldsFit ws ns → bits_of (w ∷ ws) (n ∷ ns) ≡ cut (ones w) n ++ bits_of ws ns
bits_of-cons w n ws ns f = bits_of_pair w (total ws) n (packed ws ns) (packed_below ws ns f)

-- one bit more
pub bits_next : (k n : ℕ) → cut (ones (k + 1)) n ≡ n / 2 ^ k % 2 ∷ cut (ones k) n
bits_next k n = rw (add-one k, total-ones k) refl

-- ---- numbers of bits

packed-append : (us vs ns ms : List ℕ) → length us ≡ length ns → packed (us ++ vs) (ns ++ ms) ≡ packed us ns * 2 ^ total vs + packed vs ms
packed-append [] vs [] ms h = omega arith
packed-append [] vs (n ∷ ns) ms h = cc h
packed-append (u ∷ us) vs [] ms h = cc h
packed-append (u ∷ us) vs (n ∷ ns) ms h =
    let e : packed (us ++ vs) (ns ++ ms) ≡ packed us ns * 2 ^ total vs + packed vs ms = packed-append us vs ns ms (cc h) in
    let t : total (us ++ vs) ≡ total us + total vs = total-append us vs in
    rw (e, t, pow-add 2 (total us) (total vs)) (omega arith)

-- the numbers of the first k bits and of the others
pub number_of_pair : (w k : ℕ) (bits : List ℕ) → w + k ≡ length bits → packed (ones (w + k)) bits ≡ packed (ones w) (take w bits) * 2 ^ k + packed (ones k) (drop w bits)
number_of_pair w k bits h =
    let split : take w bits ++ drop w bits ≡ bits = take-append-drop w bits in
    let long : length (ones w) ≡ length (take w bits) = length-replicate w 1 ∙ sym (length-take-le w bits (omega arith)) in
    let e : packed (ones w ++ ones k) (take w bits ++ drop w bits) ≡ packed (ones w) (take w bits) * 2 ^ total (ones k) + packed (ones k) (drop w bits) = packed-append (ones w) (ones k) (take w bits) (drop w bits) long in
    rw (ones-add w k) (ap (packed (ones w ++ ones k)) (sym split) ∙ e ∙ rw (total-ones k) refl)

pub fit-take : (ws ns : List ℕ) (k : ℕ) → FieldsFit ws ns → FieldsFit (take k ws) (take k ns)
fit-take ws ns zero f = tt
fit-take [] [] (suc k) f = tt
fit-take [] (n ∷ ns) (suc k) f = absurd f
fit-take (w ∷ ws) [] (suc k) f = absurd f
fit-take (w ∷ ws) (n ∷ ns) (suc k) f = (f.0, fit-take ws ns k f.1)

pub fit-drop : (ws ns : List ℕ) (k : ℕ) → FieldsFit ws ns → FieldsFit (drop k ws) (drop k ns)
fit-drop ws ns zero f = f
fit-drop [] [] (suc k) f = tt
fit-drop [] (n ∷ ns) (suc k) f = absurd f
fit-drop (w ∷ ws) [] (suc k) f = absurd f
fit-drop (w ∷ ws) (n ∷ ns) (suc k) f = fit-drop ws ns k f.1

pub fit_length : (ws ns : List ℕ) → FieldsFit ws ns → length ws ≡ length ns
fit_length [] [] f = refl
fit_length [] (n ∷ ns) f = absurd f
fit_length (w ∷ ws) [] f = absurd f
fit_length (w ∷ ws) (n ∷ ns) f = ap suc (fit_length ws ns f.1)

-- ---- steps of loops

-- one bit is put behind the others
pub push_next : (o s all : List ℕ) (width done n : ℕ) → done < width → s ≡ o ++ n / 2 ^ (width - 1 - done) % 2 ∷ []
    → o ++ cut (ones (width - done)) n ≡ all → s ++ cut (ones (width - (done + 1))) n ≡ all
push_next o s all width done n h e i =
    let k : width - done ≡ width - 1 - done + 1 = omega arith in
    let k' : width - (done + 1) ≡ width - 1 - done = omega arith in
    let next : cut (ones (width - done)) n ≡ n / 2 ^ (width - 1 - done) % 2 ∷ cut (ones (width - 1 - done)) n = ap (λ m. cut (ones m) n) k ∙ bits_next (width - 1 - done) n in
    rw (e, k') (append_assoc o (n / 2 ^ (width - 1 - done) % 2 ∷ []) (cut (ones (width - 1 - done)) n) ∙ ap (λ x. o ++ x) (sym next) ∙ i)

-- the bits of one field are put behind the others
fields_step : (o : List ℕ) (w n : ℕ) (ws ns : List ℕ) → FieldsFit ws ns → (o ++ cut (ones w) n) ++ bits_of ws ns ≡ o ++ bits_of (w ∷ ws) (n ∷ ns)
fields_step o w n ws ns f = rw (bits_of-cons w n ws ns f) (append_assoc o (cut (ones w) n) (bits_of ws ns))

pub fields_next : (o s all ws ns : List ℕ) (i : ℕ) → i < length ws → FieldsFit ws ns → s ≡ o ++ cut (ones (get_or ws i 0)) (get_or ns i 0)
    → o ++ bits_of (drop i ws) (drop i ns) ≡ all → s ++ bits_of (drop (i + 1) ws) (drop (i + 1) ns) ≡ all
fields_next o s all ws ns i h f e l =
    let long : length ws ≡ length ns = fit_length ws ns f in
    let more : drop i ws ≡ get_or ws i 0 ∷ drop (i + 1) ws = drop_more ws i 0 h in
    let more' : drop i ns ≡ get_or ns i 0 ∷ drop (i + 1) ns = drop_more ns i 0 (omega arith) in
    rw e (fields_step o (get_or ws i 0) (get_or ns i 0) (drop (i + 1) ws) (drop (i + 1) ns) (fit-drop ws ns (i + 1) f)
    ∙ ap (λ x. o ++ bits_of x (get_or ns i 0 ∷ drop (i + 1) ns)) (sym more) ∙ ap (λ x. o ++ bits_of (drop i ws) x) (sym more') ∙ l)

-- bytes are fields of eight bits
pub are_bytes : (bs : List ℕ) → ((k : ℕ) → get_or bs k 0 < 256) → FieldsFit (eights (length bs)) bs
are_bytes [] f = tt
are_bytes (b ∷ bs) f = (f 0, are_bytes bs (λ k. f (suc k)))

pub bytes_next : (o s all bs : List ℕ) (i : ℕ) → i < length bs → ((k : ℕ) → get_or bs k 0 < 256) → s ≡ o ++ cut (ones 8) (get_or bs i 0)
    → o ++ bits_of (eights (length (drop i bs))) (drop i bs) ≡ all → s ++ bits_of (eights (length (drop (i + 1) bs))) (drop (i + 1) bs) ≡ all
bytes_next o s all bs i h f e l =
    let more : drop i bs ≡ get_or bs i 0 ∷ drop (i + 1) bs = drop_more bs i 0 h in
    let rest : FieldsFit (eights (length (drop (i + 1) bs))) (drop (i + 1) bs) = are_bytes (drop (i + 1) bs) (λ k. rw (get_or-drop (i + 1) bs k 0) (f (i + 1 + k))) in
    rw e (fields_step o 8 (get_or bs i 0) (eights (length (drop (i + 1) bs))) (drop (i + 1) bs) rest ∙ ap (λ x. o ++ bits_of (eights (length x)) x) (sym more) ∙ l)

-- what holds of the first bit that is left, and of those behind it
pub bit_split : (bits : List ℕ) (i : ℕ) → i < length bits → FieldsFit (ones (length (drop i bits))) (drop i bits)
    → (get_or bits i 0 < 2) × FieldsFit (ones (length (drop (i + 1) bits))) (drop (i + 1) bits)
bit_split bits i h f = rw (drop_more bits i 0 h) at f

number_taken : (n b q p all : ℕ) → n * (q * 2) + (b * q + p) ≡ all → (n * 2 + b) * q + p ≡ all
number_taken n b q p all h = omega arith

-- one bit is taken into the number
pub number_next : (n b all : ℕ) (bits : List ℕ) (i : ℕ) → i < length bits → b ≡ get_or bits i 0
    → n * 2 ^ length (drop i bits) + packed (ones (length (drop i bits))) (drop i bits) ≡ all
    → (n * 2 + b) * 2 ^ length (drop (i + 1) bits) + packed (ones (length (drop (i + 1) bits))) (drop (i + 1) bits) ≡ all
number_next n b all bits i h e l =
    let k = length (drop (i + 1) bits) in
    let more : drop i bits ≡ b ∷ drop (i + 1) bits = drop_more bits i 0 h ∙ ap (λ x. x ∷ drop (i + 1) bits) (sym e) in
    let l' : n * 2 ^ suc k + (b * 2 ^ total (ones k) + packed (ones k) (drop (i + 1) bits)) ≡ all = rw more at l in
    number_taken n b (2 ^ k) (packed (ones k) (drop (i + 1) bits)) all (rw (total-ones k, pow-suc 2 k) at l')

pub double_below : (n b i : ℕ) → n < 2 ^ i → b < 2 → n * 2 + b < 2 ^ (i + 1)
double_below n b i h f = rw add-one (omega arith)

pub double_fits : (n b i : ℕ) → n < 2 ^ i → b < 2 → i < 64 → n * 2 + b < 2 ^ 64
double_fits n b i h f j = omega (arith, double_below n b i h f, pow-le-pow_right {n = 2} (omega arith) {i = i + 1} {j = 64} (omega arith))

-- one field is made of the first bits
cut_step : (o ws : List ℕ) (w : ℕ) (bits : List ℕ) → w + total ws ≡ length bits → FieldsFit (ones (length bits)) bits
    → (o ++ packed (ones w) (take w bits) ∷ []) ++ cut ws (packed (ones (length (drop w bits))) (drop w bits)) ≡ o ++ cut (w ∷ ws) (packed (ones (length bits)) bits)
cut_step o ws w bits h f =
    let back : length (drop w bits) ≡ total ws = length-drop w bits ∙ omega arith in
    let pair : packed (ones (length bits)) bits ≡ packed (ones w) (take w bits) * 2 ^ total ws + packed (ones (total ws)) (drop w bits)
    = ap (λ m. packed (ones m) bits) (sym h) ∙ number_of_pair w (total ws) bits h in
    let low_fit : FieldsFit (ones (total ws)) (drop w bits) = subst (λ ms. FieldsFit ms (drop w bits)) (drop-replicate w (length bits) 1 ∙ ap ones (omega arith)) (fit-drop (ones (length bits)) bits w f) in
    let high_fit : FieldsFit (ones w) (take w bits) = subst (λ ms. FieldsFit ms (take w bits)) (take-replicate w (length bits) 1 (omega arith)) (fit-take (ones (length bits)) bits w f) in
    let low : packed (ones (total ws)) (drop w bits) < 2 ^ total ws = rw (total-ones (total ws)) at (packed_below (ones (total ws)) (drop w bits) low_fit) in
    let high : packed (ones w) (take w bits) < 2 ^ w = rw (total-ones w) at (packed_below (ones w) (take w bits) high_fit) in
    let head : packed (ones (length bits)) bits / 2 ^ total ws % 2 ^ w ≡ packed (ones w) (take w bits) = rw (pair, shr_high _ _ _ low) (mod-eq_of_lt high) in
    let tail : cut ws (packed (ones (length bits)) bits) ≡ cut ws (packed (ones (length (drop w bits))) (drop w bits))
    = cut_same ws _ _ (ap (λ m. m % 2 ^ total ws) pair ∙ mod_low _ _ _ low ∙ sym (mod-eq_of_lt low) ∙ ap (λ m. packed (ones m) (drop w bits) % 2 ^ total ws) (sym back)) in
    rw (head, tail) (append_assoc o (packed (ones w) (take w bits) ∷ []) (cut ws (packed (ones (length (drop w bits))) (drop w bits))))

pub fit_front : (w : ℕ) (bits : List ℕ) → w ≤ length bits → FieldsFit (ones (length bits)) bits → FieldsFit (ones w) (take w bits)
fit_front w bits h f = subst (λ ms. FieldsFit ms (take w bits)) (take-replicate w (length bits) 1 h) (fit-take (ones (length bits)) bits w f)

pub fit_back : (w : ℕ) (bits : List ℕ) → FieldsFit (ones (length bits)) bits → FieldsFit (ones (length (drop w bits))) (drop w bits)
fit_back w bits f = subst (λ ms. FieldsFit ms (drop w bits)) (drop-replicate w (length bits) 1 ∙ ap ones (sym (length-drop w bits))) (fit-drop (ones (length bits)) bits w f)

-- what a loop keeps that takes fields from the beginning of bits: the fields so far, and those that are left, are all
pub record Taken (s ws bits all : List ℕ) : Type 0 where
  pub so_far : s ++ cut ws (packed (ones (length bits)) bits) ≡ all
  pub long : total ws ≡ length bits
  pub fit : FieldsFit (ones (length bits)) bits

pub take_next : (o s all ws : List ℕ) (w n : ℕ) (bits prefix back : List ℕ) → Taken o (w ∷ ws) bits all
    → prefix ≡ take w bits → back ≡ drop w bits → n ≡ packed (ones (length prefix)) prefix → s ≡ o ++ n ∷ [] → Taken s ws back all
take_next o s all ws w n bits prefix back t f b e i =
    let within : w ≤ length bits = omega (arith, t.long) in
    let long : length prefix ≡ w = ap length f ∙ length-take-le w bits within in
    let n_is : n ≡ packed (ones w) (take w bits) = e ∙ ap (λ m. packed (ones m) prefix) long ∙ ap (packed (ones w)) f in
    record {
      so_far = rw (i, n_is, b) (cut_step o ws w bits t.long t.fit ∙ t.so_far);
      long = rw (b, length-drop w bits) (omega (arith, t.long));
      fit = rw b (fit_back w bits t.fit);
    }

-- the prefix that is taken
pub prefix_fit : (w : ℕ) (bits prefix : List ℕ) → w ≤ length bits → FieldsFit (ones (length bits)) bits → prefix ≡ take w bits → FieldsFit (ones (length prefix)) prefix
prefix_fit w bits prefix h f e =
    let long : length (take w bits) ≡ w = length-take-le w bits h in
    rw (e, long) (fit_front w bits h f)

-- ---- the bits of fields as a whole

length-cut : (ws : List ℕ) (n : ℕ) → length (cut ws n) ≡ length ws
length-cut [] n = refl
length-cut (w ∷ ws) n = ap suc (length-cut ws n)

-- as many bits as the widths say
pub bits_length : (ws ns bits : List ℕ) → bits ≡ bits_of ws ns → length bits ≡ total ws
bits_length ws ns bits e = ap length e ∙ length-cut (ones (total ws)) (packed ws ns) ∙ length-replicate (total ws) 1

-- each is a bit
pub bits_fit : (ws ns bits : List ℕ) → bits ≡ bits_of ws ns → FieldsFit (ones (length bits)) bits
bits_fit ws ns bits e = rw (bits_length ws ns bits e, e) (cut_fits (ones (total ws)) (packed ws ns))

-- and they make the same number
pub bits_number : (ws ns bits : List ℕ) → FieldsFit ws ns → bits ≡ bits_of ws ns → packed (ones (length bits)) bits ≡ packed ws ns
bits_number ws ns bits f e = rw (bits_length ws ns bits e, e, packed-cut (ones (total ws)) (packed ws ns), total-ones (total ws)) (mod-eq_of_lt (packed_below ws ns f))
