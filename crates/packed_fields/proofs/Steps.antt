-- One byte or one field more.
use Rattle.std.proofs.Common.{◌≡◌, ℕ, zero, suc, ◌+◌, ◌-◌, ◌*◌, ◌/◌, ◌%◌, ◌^◌, ◌<◌, ◌≤◌, Bool, true, false, ◌&&◌, IsTrue, List, [], ◌∷◌, ◌++◌, length, take, drop, get_or, refl, sym, ◌∙◌, ap, subst, arith}
use Rattle.std.proofs.lemmas.List.{drop_more, take_more, length-append, take_all, drop_all}
use Rattle.std.proofs.lemmas.Nat.{pow-add, div-add-mod'}
use Rattle.std.proofs.Math.Pow.{pow_pos, pow-lt}
use Rattle.std.proofs.Math.Nat.{mod-eq_of_lt, mod-lt, div-lt_iff_lt-mul}
use Rattle.cocoon_num.specs.Lists.{each}
use Rattle.cocoon_num.specs.Packets.{byte_count, cut, eights, header_bytes, header_fields, packed, total}
use Rattle.cocoon_num.specs.PacketForms.{FieldsFit}
use Rattle.cocoon_num.specs.Sorts.{is_declared_width}
use Rattle.packed_fields.specs.Bits.{bytes_number}
use Rattle.cocoon_num.proofs.Packing.{cut-packed}
use Rattle.packed_fields.proofs.Packing.{eights_one, fit_length, fit_one, packed_one, total-eights, total_one}

-- ---- reading

first_bits : (b : ℕ) (bs : List ℕ) → bytes_number (b ∷ bs) ≡ b * 2 ^ (8 * length bs) + bytes_number bs
first_bits b bs = ap (λ t. b * 2 ^ t + bytes_number bs) (total-eights (length bs))

regroup : (p b m e : ℕ) → p * (256 * m) + (b * m + e) ≡ (p * 256 + b) * m + e
regroup p b m e = grind arith

pub byte_read : (p b : ℕ) (all bs : List ℕ) → all ≡ b ∷ bs → p * 2 ^ (8 * length all) + bytes_number all ≡ (p * 256 + b) * 2 ^ (8 * length bs) + bytes_number bs
byte_read p b all bs h =
    let e : 8 * length (b ∷ bs) ≡ 8 + 8 * length bs = omega arith in
    let q : 2 ^ (8 * length (b ∷ bs)) ≡ 256 * 2 ^ (8 * length bs) = ap (λ n. 2 ^ n) e ∙ pow-add 2 8 (8 * length bs) in
    ap (λ xs. p * 2 ^ (8 * length xs) + bytes_number xs) h
    ∙ (λ i. p * q i + first_bits b bs i)
    ∙ regroup p b (2 ^ (8 * length bs)) (bytes_number bs)

pub byte_below : (p b c : ℕ) → p < 2 ^ c → b < 256 → p * 256 + b < 2 ^ (c + 8)
byte_below p b c h k =
    let q : 2 ^ (c + 8) ≡ 2 ^ c * 256 = pow-add 2 c 8 in
    rw q (omega arith)

pub mask_is : (b : ℕ) → b < 128 → 1 * 2 ^ b % 2 ^ 128 ≡ 2 ^ b
mask_is b l =
    let e : 1 * 2 ^ b ≡ 2 ^ b = omega arith in
    ap (λ n. n % 2 ^ 128) e ∙ mod-eq_of_lt (pow-lt {i = b} {j = 128} l)

pub upper_below : (p w b c : ℕ) → w + b ≡ c → p < 2 ^ c → p / 2 ^ b < 2 ^ w
upper_below p w b c e h =
    let q : 2 ^ c ≡ 2 ^ w * 2 ^ b = ap (λ n. 2 ^ n) (sym e) ∙ pow-add 2 w b in
    (div-lt_iff_lt-mul {k = 2 ^ b} {x = p} {y = 2 ^ w} (pow_pos b)).1 (subst (λ n. p < n) q h)

pub lower_below : (p b m : ℕ) → m ≡ 2 ^ b → p % m < 2 ^ b
lower_below p b m e = subst (λ n. p % n < 2 ^ b) (sym e) (mod-lt p (pow_pos b))

spread : (q x r y e : ℕ) → (q * x + r) * y + e ≡ q * (x * y) + (r * y + e)
spread q x r y e = grind arith

split : (q b n r e p : ℕ) → q * 2 ^ b + r ≡ p → p * 2 ^ n + e ≡ q * 2 ^ (b + n) + (r * 2 ^ n + e)
split q b n r e p h =
    let s : 2 ^ (b + n) ≡ 2 ^ b * 2 ^ n = pow-add 2 b n in
    rw (s, ← h) (spread q (2 ^ b) r (2 ^ n) e)

pub field_read : (p b n e m : ℕ) → m ≡ 2 ^ b → p * 2 ^ n + e ≡ p / 2 ^ b * 2 ^ (b + n) + (p % m * 2 ^ n + e)
field_read p b n e m h =
    split (p / 2 ^ b) b n (p % 2 ^ b) e p (div-add-mod' p (2 ^ b)) ∙ ap (λ k. p / 2 ^ b * 2 ^ (b + n) + (p % k * 2 ^ n + e)) (sym h)

pub first_width : (ws : List ℕ) (i : ℕ) → i < length ws → total (drop i ws) ≡ get_or ws i 0 + total (drop (i + 1) ws)
first_width ws i l = ap total (drop_more ws i 0 l)

pub field_cut : (ws fs new : List ℕ) (i w n b c x y all : ℕ) → i < length ws → w ≡ get_or ws i 0 → length (take i ws) ≡ length fs → new ≡ fs ++ n ∷ []
    → b ≡ w + c → x ≡ n * 2 ^ c + y → packed (take i ws) fs * 2 ^ b + x ≡ all → packed (take (i + 1) ws) new * 2 ^ c + y ≡ all
field_cut ws fs new i w n b c x y all l is many pushed bits number sum =
    let t : take (i + 1) ws ≡ take i ws ++ w ∷ [] = take_more ws i 0 l ∙ ap (λ v. take i ws ++ v ∷ []) (sym is) in
    let p : packed (take (i + 1) ws) new ≡ packed (take i ws) fs * 2 ^ w + n = (λ k. packed (t k) (pushed k)) ∙ packed_one (take i ws) fs w n many in
    let s : 2 ^ b ≡ 2 ^ w * 2 ^ c = ap (λ k. 2 ^ k) bits ∙ pow-add 2 w c in
    rw p (spread (packed (take i ws) fs) (2 ^ w) n (2 ^ c) y ∙ (λ k. packed (take i ws) fs * sym s k + sym number k) ∙ sum)

pub all_read : (bytes : List ℕ) (p c : ℕ) → c + 8 * length bytes ≡ 0 → p < 2 ^ c → p * 2 ^ (8 * length bytes) + bytes_number bytes ≡ 0
all_read [] p c h l =
    let none : c ≡ 0 = omega arith in
    let small : p < 2 ^ 0 = subst (λ n. p < 2 ^ n) none l in
    let zero_p : p ≡ 0 = omega arith in
    rw zero_p refl
all_read (b ∷ bytes) p c h l = absurd (omega arith)

pub fields_cut : (ws fs bytes : List ℕ) (i b x : ℕ) → length ws ≤ i → b ≡ total (drop i ws) → FieldsFit (take i ws) fs
    → packed (take i ws) fs * 2 ^ b + x ≡ bytes_number bytes → (b ≡ 0 → x ≡ 0) → fs ≡ header_fields ws bytes
fields_cut ws fs bytes i b x l bits fit sum none =
    let all : take i ws ≡ ws = take_all i ws l in
    let rest : b ≡ 0 = bits ∙ ap total (drop_all i ws l) in
    let f : FieldsFit ws fs = subst (λ vs. FieldsFit vs fs) all fit in
    let n : packed ws fs ≡ bytes_number bytes =
    (let e : packed ws fs ≡ packed ws fs * 2 ^ 0 + 0 = omega arith in e)
    ∙ (λ k. packed (sym all k) fs * 2 ^ sym rest k + sym (none rest) k) ∙ sum in
    sym (cut-packed ws fs f) ∙ ap (cut ws) n

pub width_fits : (ws fs new : List ℕ) (i w n : ℕ) → i < length ws → w ≡ get_or ws i 0 → new ≡ fs ++ n ∷ [] → FieldsFit (take i ws) fs → n < 2 ^ w
    → FieldsFit (take (i + 1) ws) new
width_fits ws fs new i w n l is pushed fit small =
    let t : take (i + 1) ws ≡ take i ws ++ w ∷ [] = take_more ws i 0 l ∙ ap (λ v. take i ws ++ v ∷ []) (sym is) in
    subst (λ vs. FieldsFit vs new) (sym t) (subst (FieldsFit (take i ws ++ w ∷ [])) (sym pushed) (fit_one (take i ws) fs w n fit small))

-- ---- writing

pub eights_count : (n : ℕ) → length (eights n) ≡ n
eights_count zero = refl
eights_count (suc n) = ap suc (eights_count n)

pub byte_written : (old new : List ℕ) (p c : ℕ) (q m : ℕ) → 8 ≤ c → new ≡ old ++ q ∷ [] → q ≡ p / 2 ^ (c - 8) → m ≡ 2 ^ (c - 8)
    → bytes_number new * 2 ^ (c - 8) + p % m ≡ bytes_number old * 2 ^ c + p
byte_written old new p c q m l pushed is mask =
    let many : length new ≡ length old + 1 = ap length pushed ∙ length-append old (q ∷ []) in
    let e : bytes_number new ≡ bytes_number old * 2 ^ 8 + q =
    (λ k. packed (eights (many k)) (pushed k))
    ∙ ap (λ ws. packed ws (old ++ q ∷ [])) (eights_one (length old))
    ∙ packed_one (eights (length old)) old 8 q (eights_count (length old)) in
    let s : 2 ^ c ≡ 2 ^ 8 * 2 ^ (c - 8) = (let o : c ≡ 8 + (c - 8) = omega arith in ap (λ n. 2 ^ n) o) ∙ pow-add 2 8 (c - 8) in
    let parts : q * 2 ^ (c - 8) + p % m ≡ p = (λ k. is k * 2 ^ (c - 8) + p % mask k) ∙ div-add-mod' p (2 ^ (c - 8)) in
    rw (e, s) (spread (bytes_number old) (2 ^ 8) q (2 ^ (c - 8)) (p % m) ∙ ap (λ n. bytes_number old * (2 ^ 8 * 2 ^ (c - 8)) + n) parts)

both_below : (p x n y : ℕ) → p < x → n < y → p * y + n < x * y
both_below p x n y h k = grind arith

pub byte_fits : (old new : List ℕ) (q : ℕ) → new ≡ old ++ q ∷ [] → FieldsFit (eights (length old)) old → q < 2 ^ 8 → FieldsFit (eights (length new)) new
byte_fits old new q pushed fit small =
    let many : length new ≡ length old + 1 = ap length pushed ∙ length-append old (q ∷ []) in
    let ws : eights (length new) ≡ eights (length old) ++ 8 ∷ [] = ap eights many ∙ eights_one (length old) in
    subst (λ vs. FieldsFit vs new) (sym ws) (subst (FieldsFit (eights (length old) ++ 8 ∷ [])) (sym pushed) (fit_one (eights (length old)) old 8 q fit small))

pub field_below : (p c w n m : ℕ) → m ≡ 2 ^ w → p < 2 ^ c → n < 2 ^ w → p * m + n < 2 ^ (c + w)
field_below p c w n m mask h k =
    let s : 2 ^ (c + w) ≡ 2 ^ c * 2 ^ w = pow-add 2 c w in
    rw (s, mask) (both_below p (2 ^ c) n (2 ^ w) h k)

pub field_written : (e p c w n m : ℕ) → m ≡ 2 ^ w → e * 2 ^ (c + w) + (p * m + n) ≡ (e * 2 ^ c + p) * 2 ^ w + n
field_written e p c w n m mask =
    let s : 2 ^ (c + w) ≡ 2 ^ c * 2 ^ w = pow-add 2 c w in
    rw (s, mask) (sym (spread e (2 ^ c) p (2 ^ w) n))

pub field_fits : (ws fs : List ℕ) (i : ℕ) → FieldsFit ws fs → i < length ws → get_or fs i 0 < 2 ^ get_or ws i 0
field_fits [] fs i f l = absurd (omega arith)
field_fits (w ∷ ws) [] i f l = absurd f
field_fits (w ∷ ws) (n ∷ fs) zero f l = f.0
field_fits (w ∷ ws) (n ∷ fs) (suc i) f l = field_fits ws fs i f.1 (omega arith)

both_true : (a b : Bool) → (a && b) ≡ true → (a ≡ true) × (b ≡ true)
both_true true b h = (refl, h)
both_true false b h = absurd (cc)

narrow : (w : ℕ) → is_declared_width w ≡ true → w ≤ 64
narrow w h = grind (arith, h)

pub width_is : (ws : List ℕ) (i : ℕ) → IsTrue (each is_declared_width ws) → i < length ws → get_or ws i 0 ≤ 64
width_is [] i h l = absurd (omega arith)
width_is (w ∷ ws) zero h l = narrow w (both_true (is_declared_width w) (each is_declared_width ws) h).0
width_is (w ∷ ws) (suc i) h l = width_is ws i (both_true (is_declared_width w) (each is_declared_width ws) h).1 (omega arith)

pub bits_more : (ws : List ℕ) (i : ℕ) → i < length ws → total (take (i + 1) ws) ≡ total (take i ws) + get_or ws i 0
bits_more ws i l = ap total (take_more ws i 0 l) ∙ total_one (take i ws) (get_or ws i 0)

take_counts : (ws fs : List ℕ) (i : ℕ) → FieldsFit ws fs → length (take i ws) ≡ length (take i fs)
take_counts ws fs zero f = refl
take_counts [] [] (suc i) f = refl
take_counts [] (n ∷ fs) (suc i) f = absurd f
take_counts (w ∷ ws) [] (suc i) f = absurd f
take_counts (w ∷ ws) (n ∷ fs) (suc i) f = ap suc (take_counts ws fs i f.1)

pub number_more : (ws fs : List ℕ) (i : ℕ) → FieldsFit ws fs → i < length ws
    → packed (take (i + 1) ws) (take (i + 1) fs) ≡ packed (take i ws) (take i fs) * 2 ^ get_or ws i 0 + get_or fs i 0
number_more ws fs i f l =
    let many : length ws ≡ length fs = fit_length ws fs f in
    (λ k. packed (take_more ws i 0 l k) (take_more fs i 0 (omega arith) k)) ∙ packed_one (take i ws) (take i fs) (get_or ws i 0) (get_or fs i 0) (take_counts ws fs i f)

-- all bytes are written
pub all_written : (ws fs bytes : List ℕ) (at i p c : ℕ) → length ws ≤ i → FieldsFit ws fs → total ws % 8 ≡ 0 → length bytes ≡ byte_count ws → at ≤ length bytes
    → FieldsFit (eights (length (take at bytes))) (take at bytes) → c < 8 → p < 2 ^ c → 8 * at + c ≡ total (take i ws)
    → bytes_number (take at bytes) * 2 ^ c + p ≡ packed (take i ws) (take i fs) → bytes ≡ header_bytes ws fs
all_written ws fs bytes at i p c l fit whole room within small short below bits number =
    let all : take i ws ≡ ws = take_all i ws l in
    let many : length ws ≡ length fs = fit_length ws fs fit in
    let every : take i fs ≡ fs = take_all i fs (omega arith) in
    let size : 8 * at + c ≡ total ws = bits ∙ ap total all in
    let none : c ≡ 0 = omega arith in
    let written : take at bytes ≡ bytes = take_all at bytes (omega arith) in
    let tiny : p < 2 ^ 0 = subst (λ n. p < 2 ^ n) none below in
    let nothing : p ≡ 0 = omega arith in
    let n : bytes_number bytes ≡ packed ws fs =
    (let e : bytes_number bytes ≡ bytes_number bytes * 2 ^ 0 + 0 = omega arith in e)
    ∙ (λ k. bytes_number (sym written k) * 2 ^ sym none k + sym nothing k) ∙ number ∙ (λ k. packed (all k) (every k)) in
    sym (cut-packed (eights (length bytes)) bytes (subst (λ bs. FieldsFit (eights (length bs)) bs) written small))
    ∙ (λ k. cut (eights (room k)) (n k))

pub total_within : (ws : List ℕ) (i : ℕ) → total (take i ws) ≤ total ws
total_within ws zero = omega arith
total_within [] (suc i) = omega arith
total_within (w ∷ ws) (suc i) = let h : total (take i ws) ≤ total ws = total_within ws i in omega arith
