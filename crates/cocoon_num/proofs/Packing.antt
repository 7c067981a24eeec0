-- Numbers packed by their widths and cut again, `leave` after `enter`, and `enter` after `leave`.
use Rattle.std.specs.Prelude.{◌≡◌, ℕ, zero, suc, ◌+◌, ◌*◌, ◌/◌, ◌%◌, ◌^◌, ◌<◌, Bool, true, false, List, [], ◌∷◌, ◌++◌, length, take, drop, nat_lt, Option, Some, None, option_map, ◌⊎◌, cond, refl}
use Rattle.std.proofs.Common.{sym, ◌∙◌, ap, arith, inl, inr, length-take}
use Rattle.std.proofs.lemmas.List.{length-append, take-append-drop}
use Rattle.std.proofs.lemmas.Bool.{ltb-false, le-ltb}
use Rattle.std.proofs.lemmas.Nat.{pow-add, mod-pow-add, field_of, mod_low, shr_high}
use Rattle.std.proofs.Math.Pow.{pow_pos}
use Rattle.std.proofs.Math.Nat.{mod-eq_of_lt, mod-lt}
use Rattle.cocoon_num.specs.Packets.{Packet, Layout, total, packed, cut, eights, byte_count, header_fields, header_bytes, enter, leave}
use Rattle.cocoon_num.specs.PacketForms.{FieldsFit, PacketFits, AreBytes, AllWhole}

low_of : (w k n : ℕ) → n % 2 ^ (w + k) % 2 ^ k ≡ n % 2 ^ k
low_of w k n = rw (mod-pow-add n w k) (mod_low (n / 2 ^ k % 2 ^ w) k (n % 2 ^ k) (mod-lt n (pow_pos k)))

pub packed-cut : (ws : List ℕ) (n : ℕ) → packed ws (cut ws n) ≡ n % 2 ^ total ws
packed-cut [] n = omega arith
packed-cut (w ∷ ws) n = rw (packed-cut ws n) (sym (mod-pow-add n w (total ws)))

pub cut_same : (ws : List ℕ) (m n : ℕ) → m % 2 ^ total ws ≡ n % 2 ^ total ws → cut ws m ≡ cut ws n
cut_same [] m n h = refl
cut_same (w ∷ ws) m n h =
    let head : m / 2 ^ total ws % 2 ^ w ≡ n / 2 ^ total ws % 2 ^ w = sym (field_of m w (total ws)) ∙ ap (λ x. x / 2 ^ total ws) h ∙ field_of n w (total ws) in
    let low : m % 2 ^ total ws ≡ n % 2 ^ total ws = sym (low_of w (total ws) m) ∙ ap (λ x. x % 2 ^ total ws) h ∙ low_of w (total ws) n in
    rw (head, cut_same ws m n low) refl

below : (n w p k : ℕ) → n < 2 ^ w → p < 2 ^ k → n * 2 ^ k + p < 2 ^ w * 2 ^ k
below n w p k h i = grind arith

pub packed_below : (ws ns : List ℕ) → FieldsFit ws ns → packed ws ns < 2 ^ total ws
packed_below [] [] f = omega arith
packed_below [] (n ∷ ns) f = absurd f
packed_below (w ∷ ws) [] f = absurd f
packed_below (w ∷ ws) (n ∷ ns) f = rw (pow-add 2 w (total ws)) (below n w (packed ws ns) (total ws) f.0 (packed_below ws ns f.1))

pub cut-packed : (ws ns : List ℕ) → FieldsFit ws ns → cut ws (packed ws ns) ≡ ns
cut-packed [] [] f = refl
cut-packed [] (n ∷ ns) f = absurd f
cut-packed (w ∷ ws) [] f = absurd f
cut-packed (w ∷ ws) (n ∷ ns) f =
    let p : packed ws ns < 2 ^ total ws = packed_below ws ns f.1 in
    let same : (n * 2 ^ total ws + packed ws ns) % 2 ^ total ws ≡ packed ws ns % 2 ^ total ws = mod_low n (total ws) (packed ws ns) p ∙ sym (mod-eq_of_lt p) in
    rw (shr_high n (total ws) (packed ws ns) p, mod-eq_of_lt f.0, cut_same ws _ _ same, cut-packed ws ns f.1) refl

-- ---- bytes

bytes_fit : (bs : List ℕ) → AreBytes bs → FieldsFit (eights (length bs)) bs
bytes_fit [] f = tt
bytes_fit (b ∷ bs) f = (f.0, bytes_fit bs f.1)

total-eights : (n : ℕ) → total (eights n) ≡ 8 * n
total-eights zero = refl
total-eights (suc n) = rw (total-eights n) (omega arith)

-- a header's bytes are those of its fields
pub header_again : (ws bs : List ℕ) → total ws % 8 ≡ 0 → length bs ≡ byte_count ws → AreBytes bs → header_bytes ws (header_fields ws bs) ≡ bs
header_again ws bs whole long f =
    let size : total (eights (length bs)) ≡ total ws = total-eights (length bs) ∙ rw long (omega arith) in
    let p : packed (eights (length bs)) bs < 2 ^ total (eights (length bs)) = packed_below _ _ (bytes_fit bs f) in
    let q : packed (eights (length bs)) bs < 2 ^ total ws = rw size at p in
    rw (packed-cut ws (packed (eights (length bs)) bs), mod-eq_of_lt q, ← long) (cut-packed _ _ (bytes_fit bs f))

bytes-take : (n : ℕ) (bs : List ℕ) → AreBytes bs → AreBytes (take n bs)
bytes-take zero bs f = tt
bytes-take (suc n) [] f = tt
bytes-take (suc n) (b ∷ bs) f = (f.0, bytes-take n bs f.1)

bytes-drop : (n : ℕ) (bs : List ℕ) → AreBytes bs → AreBytes (drop n bs)
bytes-drop zero bs f = f
bytes-drop (suc n) [] f = tt
bytes-drop (suc n) (b ∷ bs) f = bytes-drop n bs f.1

long_enough : (n : ℕ) (bs : List ℕ) → nat_lt (length bs) n ≡ false → length (take n bs) ≡ n
long_enough n bs h = rw length-take (omega (arith, ltb-false (length bs) n h))

abbrev Entered : Type 0
Entered = Option (Packet × List ℕ)

abbrev packet_or : Packet → Entered → Packet
packet_or d None = d
packet_or d (Some r) = r.0

abbrev payload_or : List ℕ → Entered → List ℕ
payload_or d None = d
payload_or d (Some r) = r.1

chosen : (b : Bool) (x y z : Entered) → cond b x y ≡ z → ((b ≡ true) × (x ≡ z)) ⊎ ((b ≡ false) × (y ≡ z))
chosen true x y z h = inl (refl, h)
chosen false x y z h = inr (refl, h)

-- one more header of a packet that enters
abbrev with_header : List ℕ → Option (Packet × List ℕ) → Option (Packet × List ℕ)
with_header fields entered = option_map (λ e. (fields ∷ e.0, e.1)) entered

-- `leave` undoes `enter`
one_header : (ws : List ℕ) (layout : Layout) (bs : List ℕ) (o : Entered) (packet : Packet) (payload : List ℕ)
    → total ws % 8 ≡ 0 → AreBytes bs → nat_lt (length bs) (byte_count ws) ≡ false
    → ((rest : Packet) (payload : List ℕ) → o ≡ Some (rest, payload) → leave layout rest payload ≡ drop (byte_count ws) bs)
    → with_header (header_fields ws (take (byte_count ws) bs)) o ≡ Some (packet, payload) → leave (ws ∷ layout) packet payload ≡ bs
one_header ws layout bs None packet payload w f long again h = cc h
one_header ws layout bs (Some r) packet payload w f long again h =
    let e : header_fields ws (take (byte_count ws) bs) ∷ r.0 ≡ packet = ap (packet_or []) h in
    let g : r.1 ≡ payload = ap (payload_or []) h in
    rw (← e, ← g, header_again ws (take (byte_count ws) bs) w (long_enough _ bs long) (bytes-take _ bs f), again r.0 r.1 refl) (take-append-drop (byte_count ws) bs)

pub leave-enter : (layout : Layout) (bs : List ℕ) (packet : Packet) (payload : List ℕ) → AllWhole layout → AreBytes bs → enter layout bs ≡ Some (packet, payload) → leave layout packet payload ≡ bs
leave-enter [] bs packet payload w f h = sym (ap (payload_or []) h)
leave-enter (ws ∷ layout) bs packet payload w f h =
    elim (chosen (nat_lt (length bs) (byte_count ws)) _ _ _ h) [
      | inl c ↦ absurd (cc c.1)
      | inr c ↦ one_header ws layout bs _ packet payload w.0 f c.0
          (λ rest more e. leave-enter layout (drop (byte_count ws) bs) rest more w.1 (bytes-drop _ bs f) e) c.1
    ]

-- ---- `enter` undoes `leave`

length-cut : (ws : List ℕ) (n : ℕ) → length (cut ws n) ≡ length ws
length-cut [] n = refl
length-cut (w ∷ ws) n = ap suc (length-cut ws n)

length-eights : (n : ℕ) → length (eights n) ≡ n
length-eights zero = refl
length-eights (suc n) = ap suc (length-eights n)

length-header_bytes : (ws ns : List ℕ) → length (header_bytes ws ns) ≡ byte_count ws
length-header_bytes ws ns = length-cut (eights (byte_count ws)) (packed ws ns) ∙ length-eights (byte_count ws)

-- a header's fields are those of its bytes
fields_again : (ws ns : List ℕ) → total ws % 8 ≡ 0 → FieldsFit ws ns → header_fields ws (header_bytes ws ns) ≡ ns
fields_again ws ns whole f =
    let size : total (eights (byte_count ws)) ≡ total ws = total-eights (byte_count ws) ∙ omega arith in
    let p : packed ws ns < 2 ^ total (eights (byte_count ws)) = rw size (packed_below ws ns f) in
    rw (length-header_bytes ws ns, packed-cut (eights (byte_count ws)) (packed ws ns), mod-eq_of_lt p) (cut-packed ws ns f)

take_prefix : (xs ys : List ℕ) (n : ℕ) → length xs ≡ n → take n (xs ++ ys) ≡ xs
take_prefix [] ys zero h = refl
take_prefix [] ys (suc n) h = cc
take_prefix (x ∷ xs) ys zero h = cc
take_prefix (x ∷ xs) ys (suc n) h = ap (λ zs. x ∷ zs) (take_prefix xs ys n (omega (arith, h)))

drop_prefix : (xs ys : List ℕ) (n : ℕ) → length xs ≡ n → drop n (xs ++ ys) ≡ ys
drop_prefix [] ys zero h = refl
drop_prefix [] ys (suc n) h = cc
drop_prefix (x ∷ xs) ys zero h = cc
drop_prefix (x ∷ xs) ys (suc n) h = drop_prefix xs ys n (omega (arith, h))

not_short : (xs ys : List ℕ) (n : ℕ) → length xs ≡ n → nat_lt (length (xs ++ ys)) n ≡ false
not_short xs ys n h = let l : length (xs ++ ys) ≡ length xs + length ys = length-append xs ys in le-ltb _ _ (omega (arith, l, h))

pub enter-leave : (layout : Layout) (packet : Packet) (payload : List ℕ) → AllWhole layout → PacketFits layout packet → enter layout (leave layout packet payload) ≡ Some (packet, payload)
enter-leave [] [] payload w f = refl
enter-leave [] (ns ∷ packet) payload w f = absurd f
enter-leave (ws ∷ layout) [] payload w f = absurd f
enter-leave (ws ∷ layout) (ns ∷ packet) payload w f =
    let long : length (header_bytes ws ns) ≡ byte_count ws = length-header_bytes ws ns in
    let rest = leave layout packet payload in
    rw (not_short (header_bytes ws ns) rest (byte_count ws) long, take_prefix (header_bytes ws ns) rest (byte_count ws) long, drop_prefix (header_bytes ws ns) rest (byte_count ws) long, fields_again ws ns w.0 f.0, enter-leave layout packet payload w.1 f.1) refl
