-- Headers one after another.
use Rattle.std.proofs.Common.{◌≡◌, ℕ, zero, suc, ◌+◌, ◌-◌, ◌*◌, ◌/◌, ◌%◌, ◌^◌, ◌<◌, ◌≤◌, Bool, true, false, List, [], ◌∷◌, ◌++◌, length, take, drop, nat_lt, if◌then◌else◌, Option, Some, None, option_map, refl, sym, ◌∙◌, ap, subst, arith}
use Rattle.std.proofs.lemmas.List.{append_assoc, length-append, length-drop, length-take-le, drop-drop}
use Rattle.std.proofs.lemmas.Bool.{ltb-true, ltb-false, lt-ltb, le-ltb}
use Rattle.std.proofs.lemmas.Nat.{pow-add, mod_low, shr_high, shr-shr}
use Rattle.std.proofs.Math.Nat.{mod-eq_of_lt}
use Rattle.std.proofs.Math.Seq.{take-add, take-append_seam}
use Rattle.cocoon_num.specs.Packets.{byte_count, cut, eights, enter, header_bytes, header_fields, Layout, leave, packed, Packet, total}
use Rattle.cocoon_num.specs.PacketForms.{AllWhole, AreBytes, FieldsFit}
use Rattle.packed_fields.specs.AtOnce.{bytes_in, entered_at_once, grouped, widths_in}
use Rattle.packed_fields.specs.Bits.{bytes_number}
use Rattle.cocoon_num.proofs.Packing.{cut_same, packed_below}
use Rattle.packed_fields.proofs.Packing.{packed-append, total-append, total-eights}
use Rattle.packed_fields.proofs.Steps.{eights_count}

-- ---- two headers

cut-append : (us vs : List ℕ) (n : ℕ) → cut (us ++ vs) n ≡ cut us (n / 2 ^ total vs) ++ cut vs n
cut-append [] vs n = refl
cut-append (u ∷ us) vs n =
    let e : total (us ++ vs) ≡ total vs + total us = total-append us vs ∙ omega arith in
    rw (e, ← shr-shr n (total vs) (total us), cut-append us vs n) refl

-- two numbers that are packed are cut apart
cut_pair : (us vs : List ℕ) (p q : ℕ) → q < 2 ^ total vs → cut (us ++ vs) (p * 2 ^ total vs + q) ≡ cut us p ++ cut vs q
cut_pair us vs p q l =
    let upper : (p * 2 ^ total vs + q) / 2 ^ total vs ≡ p = shr_high p (total vs) q l in
    let lower : cut vs (p * 2 ^ total vs + q) ≡ cut vs q = cut_same vs (p * 2 ^ total vs + q) q (mod_low p (total vs) q l ∙ sym (mod-eq_of_lt l)) in
    cut-append us vs (p * 2 ^ total vs + q) ∙ (λ i. cut us (upper i) ++ lower i)

eights-add : (a b : ℕ) → eights (a + b) ≡ eights a ++ eights b
eights-add zero b = let e : 0 + b ≡ b = omega arith in ap eights e
eights-add (suc a) b = let e : suc a + b ≡ suc (a + b) = omega arith in ap eights e ∙ ap (λ ws. 8 ∷ ws) (eights-add a b)

bytes_fit : (bs : List ℕ) → AreBytes bs → FieldsFit (eights (length bs)) bs
bytes_fit [] f = tt
bytes_fit (b ∷ bs) f = (f.0, bytes_fit bs f.1)

bytes_take : (n : ℕ) (bs : List ℕ) → AreBytes bs → AreBytes (take n bs)
bytes_take zero bs f = tt
bytes_take (suc n) [] f = tt
bytes_take (suc n) (b ∷ bs) f = (f.0, bytes_take n bs f.1)

bytes_drop : (n : ℕ) (bs : List ℕ) → AreBytes bs → AreBytes (drop n bs)
bytes_drop zero bs f = f
bytes_drop (suc n) [] f = tt
bytes_drop (suc n) (b ∷ bs) f = bytes_drop n bs f.1

-- the fields of two headers, from the bytes of both
fields_of_two : (us vs bs cs : List ℕ) → AreBytes cs → total vs ≡ 8 * length cs → header_fields (us ++ vs) (bs ++ cs) ≡ header_fields us bs ++ header_fields vs cs
fields_of_two us vs bs cs f size =
    let many : length (bs ++ cs) ≡ length bs + length cs = length-append bs cs in
    let t : total (eights (length cs)) ≡ total vs = total-eights (length cs) ∙ sym size in
    let small : bytes_number cs < 2 ^ total vs = subst (λ n. bytes_number cs < 2 ^ n) t (packed_below (eights (length cs)) cs (bytes_fit cs f)) in
    let number : bytes_number (bs ++ cs) ≡ bytes_number bs * 2 ^ total vs + bytes_number cs =
    ap (λ ws. packed ws (bs ++ cs)) (ap eights many ∙ eights-add (length bs) (length cs))
    ∙ packed-append (eights (length bs)) (eights (length cs)) bs cs (eights_count (length bs))
    ∙ ap (λ n. bytes_number bs * 2 ^ n + bytes_number cs) t in
    ap (cut (us ++ vs)) number ∙ cut_pair us vs (bytes_number bs) (bytes_number cs) small

count_of_two : (us vs : List ℕ) → total us % 8 ≡ 0 → total (us ++ vs) / 8 ≡ total us / 8 + total vs / 8
count_of_two us vs h = let e : total (us ++ vs) ≡ total us + total vs = total-append us vs in omega arith

whole_rest : (layout : Layout) → AllWhole layout → total (widths_in layout) % 8 ≡ 0
whole_rest [] h = refl
whole_rest (ws ∷ layout) h =
    let e : total (ws ++ widths_in layout) ≡ total ws + total (widths_in layout) = total-append ws (widths_in layout) in
    let r : total (widths_in layout) % 8 ≡ 0 = whole_rest layout h.1 in
    let f : total ws % 8 ≡ 0 = h.0 in
    omega arith

-- ---- entering

length-cut : (ws : List ℕ) (n : ℕ) → length (cut ws n) ≡ length ws
length-cut [] n = refl
length-cut (w ∷ ws) n = ap suc (length-cut ws n)

front_of : (xs ys : List ℕ) (n : ℕ) → length xs ≡ n → take n (xs ++ ys) ≡ xs
front_of xs ys n h = ap (λ m. take m (xs ++ ys)) (sym h) ∙ take-append_seam xs ys

back_of : (xs ys : List ℕ) (n : ℕ) → length xs ≡ n → drop n (xs ++ ys) ≡ ys
back_of [] ys zero h = refl
back_of [] ys (suc n) h = absurd (cc)
back_of (x ∷ xs) ys zero h = absurd (cc)
back_of (x ∷ xs) ys (suc n) h = back_of xs ys n (cc)

-- one more header
abbrev with_header : List ℕ → Option (Packet × List ℕ) → Option (Packet × List ℕ)
with_header fields entered = option_map (λ e. (fields ∷ e.0, e.1)) entered

one_more : (ws : List ℕ) (layout : Layout) (bytes : List ℕ) → AllWhole (ws ∷ layout) → AreBytes bytes
    → enter layout (drop (byte_count ws) bytes) ≡ entered_at_once layout (drop (byte_count ws) bytes)
    → enter (ws ∷ layout) bytes ≡ entered_at_once (ws ∷ layout) bytes
one_more ws layout bytes w f later =
    by_lengths (nat_lt (length bytes) j) (nat_lt (length rest) k) refl refl
  where
    j : ℕ
    j = byte_count ws

    k : ℕ
    k = bytes_in layout

    rest : List ℕ
    rest = drop j bytes

    fields : List ℕ
    fields = header_fields ws (take j bytes)

    count : bytes_in (ws ∷ layout) ≡ j + k
    count = count_of_two ws (widths_in layout) w.0

    left : length rest ≡ length bytes - j
    left = length-drop j bytes

    whole_end : Bool → Option (Packet × List ℕ)
    whole_end b = if b then None else Some (grouped (ws ∷ layout) (header_fields (ws ++ widths_in layout) (take (bytes_in (ws ∷ layout)) bytes)), drop (bytes_in (ws ∷ layout)) bytes)

    both : nat_lt (length bytes) j ≡ false → nat_lt (length rest) k ≡ false
        → ◌≡◌ {A = Packet × List ℕ} (grouped (ws ∷ layout) (header_fields (ws ++ widths_in layout) (take (bytes_in (ws ∷ layout)) bytes)), drop (bytes_in (ws ∷ layout)) bytes)
        (fields ∷ grouped layout (header_fields (widths_in layout) (take k rest)), drop k rest)
    both a b =
        let l : j ≤ length bytes = ltb-false (length bytes) j a in
        let m : k ≤ length rest = ltb-false (length rest) k b in
        let size : total (widths_in layout) ≡ 8 * length (take k rest) =
        (let r : total (widths_in layout) % 8 ≡ 0 = whole_rest layout w.1 in let e : total (widths_in layout) ≡ 8 * k = omega arith in e) ∙ ap (λ n. 8 * n) (sym (length-take-le k rest m)) in
        let parts : take (bytes_in (ws ∷ layout)) bytes ≡ take j bytes ++ take k rest = ap (λ n. take n bytes) count ∙ take-add j k bytes in
        let cuts : header_fields (ws ++ widths_in layout) (take (bytes_in (ws ∷ layout)) bytes) ≡ fields ++ header_fields (widths_in layout) (take k rest) =
        ap (header_fields (ws ++ widths_in layout)) parts ∙ fields_of_two ws (widths_in layout) (take j bytes) (take k rest) (bytes_take k rest (bytes_drop j bytes f)) size in
        let many : length fields ≡ length ws = length-cut ws _ in
        (λ i. (grouped (ws ∷ layout) (cuts i), drop (count i) bytes))
        ∙ (λ i. (
          front_of fields (header_fields (widths_in layout) (take k rest)) (length ws) many i ∷ grouped layout (back_of fields (header_fields (widths_in layout) (take k rest)) (length ws) many i),
          sym (drop-drop k j bytes) i,
        ))

    by_lengths : (a b : Bool) → nat_lt (length bytes) j ≡ a → nat_lt (length rest) k ≡ b → enter (ws ∷ layout) bytes ≡ entered_at_once (ws ∷ layout) bytes
    by_lengths true b p q =
        let l : length bytes < j = ltb-true (length bytes) j p in
        let short : nat_lt (length bytes) (bytes_in (ws ∷ layout)) ≡ true = lt-ltb (length bytes) (bytes_in (ws ∷ layout)) (omega (arith, count, l)) in
        ap (λ t. if t then None else with_header fields (enter layout rest)) p ∙ sym (ap whole_end short)
    by_lengths false true p q =
        let l : length rest < k = ltb-true (length rest) k q in
        let m : j ≤ length bytes = ltb-false (length bytes) j p in
        let short : nat_lt (length bytes) (bytes_in (ws ∷ layout)) ≡ true = lt-ltb (length bytes) (bytes_in (ws ∷ layout)) (omega (arith, count, l, left, m)) in
        ap (λ t. if t then None else with_header fields (enter layout rest)) p ∙ ap (with_header fields) later
        ∙ ap (λ t. with_header fields (if t then None else Some (grouped layout (header_fields (widths_in layout) (take k rest)), drop k rest))) q
        ∙ sym (ap whole_end short)
    by_lengths false false p q =
        let l : k ≤ length rest = ltb-false (length rest) k q in
        let m : j ≤ length bytes = ltb-false (length bytes) j p in
        let long : nat_lt (length bytes) (bytes_in (ws ∷ layout)) ≡ false = le-ltb (length bytes) (bytes_in (ws ∷ layout)) (omega (arith, count, l, left, m)) in
        ap (λ t. if t then None else with_header fields (enter layout rest)) p ∙ ap (with_header fields) later
        ∙ ap (λ t. with_header fields (if t then None else Some (grouped layout (header_fields (widths_in layout) (take k rest)), drop k rest))) q
        ∙ sym (ap whole_end long ∙ ap Some (both p q))

pub enter_flat : (layout : Layout) (bytes : List ℕ) → AllWhole layout → AreBytes bytes → enter layout bytes ≡ entered_at_once layout bytes
enter_flat [] bytes w f =
    let long : nat_lt (length bytes) (bytes_in []) ≡ false = le-ltb (length bytes) (bytes_in []) (omega arith) in
    sym (ap (λ b. if b then None else Some (grouped [] (header_fields [] (take (bytes_in []) bytes)), drop (bytes_in []) bytes)) long)
enter_flat (ws ∷ layout) bytes w f = one_more ws layout bytes w f (enter_flat layout (drop (byte_count ws) bytes) w.1 (bytes_drop (byte_count ws) bytes f))

-- ---- leaving

fit_front : (us vs ns : List ℕ) → FieldsFit (us ++ vs) ns → FieldsFit us (take (length us) ns) × FieldsFit vs (drop (length us) ns)
fit_front [] vs ns h = (tt, h)
fit_front (u ∷ us) vs [] h = absurd h
fit_front (u ∷ us) vs (n ∷ ns) h = let r = fit_front us vs ns h.1 in ((h.0, r.0), r.1)

packed_of_two : (us vs ns : List ℕ) → FieldsFit (us ++ vs) ns → packed (us ++ vs) ns ≡ packed us (take (length us) ns) * 2 ^ total vs + packed vs (drop (length us) ns)
packed_of_two [] vs ns h = omega arith
packed_of_two (u ∷ us) vs [] h = absurd h
packed_of_two (u ∷ us) vs (n ∷ ns) h =
    let t : total (us ++ vs) ≡ total us + total vs = total-append us vs in
    let e : packed (us ++ vs) ns ≡ packed us (take (length us) ns) * 2 ^ total vs + packed vs (drop (length us) ns) = packed_of_two us vs ns h.1 in
    rw (e, t, pow-add 2 (total us) (total vs)) (omega arith)

bytes_of_two : (us vs ns : List ℕ) → total us % 8 ≡ 0 → total vs % 8 ≡ 0 → FieldsFit (us ++ vs) ns
    → header_bytes (us ++ vs) ns ≡ header_bytes us (take (length us) ns) ++ header_bytes vs (drop (length us) ns)
bytes_of_two us vs ns h k f =
    let parts = fit_front us vs ns f in
    let t : total (eights (total vs / 8)) ≡ total vs = total-eights (total vs / 8) ∙ (let e : 8 * (total vs / 8) ≡ total vs = omega arith in e) in
    let p = packed us (take (length us) ns) in
    let q = packed vs (drop (length us) ns) in
    let small : q < 2 ^ total (eights (total vs / 8)) = subst (λ n. q < 2 ^ n) (sym t) (packed_below vs (drop (length us) ns) parts.1) in
    (λ i. cut (eights (count_of_two us vs h i)) (packed_of_two us vs ns f i))
    ∙ (λ i. cut (eights-add (total us / 8) (total vs / 8) i) (p * 2 ^ sym t i + q))
    ∙ cut_pair (eights (total us / 8)) (eights (total vs / 8)) p q small

pub leave_flat : (layout : Layout) (fields payload : List ℕ) → AllWhole layout → FieldsFit (widths_in layout) fields
    → leave layout (grouped layout fields) payload ≡ header_bytes (widths_in layout) fields ++ payload
leave_flat [] [] payload w f = refl
leave_flat [] (n ∷ fields) payload w f = absurd f
leave_flat (ws ∷ layout) fields payload w f =
    let vs = widths_in layout in
    let own = header_bytes ws (take (length ws) fields) in
    let others = header_bytes vs (drop (length ws) fields) in
    ap (λ xs. own ++ xs) (leave_flat layout (drop (length ws) fields) payload w.1 (fit_front ws vs fields f).1)
    ∙ sym (append_assoc own others payload)
    ∙ ap (λ xs. xs ++ payload) (sym (bytes_of_two ws vs fields w.0 (whole_rest layout w.1) f))
