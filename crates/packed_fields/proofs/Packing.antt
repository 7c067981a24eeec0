-- Numbers packed by their widths, and cut again.
use Rattle.std.proofs.Common.{◌≡◌, ℕ, zero, suc, ◌+◌, ◌*◌, ◌^◌, ◌<◌, List, [], ◌∷◌, ◌++◌, length, refl, ◌∙◌, ap, arith}
use Rattle.std.proofs.lemmas.Nat.{pow-add}
use Rattle.cocoon_num.specs.Packets.{total, packed, eights}
use Rattle.cocoon_num.specs.PacketForms.{FieldsFit}

pub total-eights : (n : ℕ) → total (eights n) ≡ 8 * n
total-eights zero = refl
total-eights (suc n) = rw (total-eights n) (omega arith)

-- ---- one more behind the others

pub total-append : (us vs : List ℕ) → total (us ++ vs) ≡ total us + total vs
total-append [] vs = omega arith
total-append (u ∷ us) vs = rw (total-append us vs) (omega arith)

pub packed-append : (us vs ns ms : List ℕ) → length us ≡ length ns → packed (us ++ vs) (ns ++ ms) ≡ packed us ns * 2 ^ total vs + packed vs ms
packed-append [] vs [] ms h = omega arith
packed-append [] vs (n ∷ ns) ms h = cc h
packed-append (u ∷ us) vs [] ms h = cc h
packed-append (u ∷ us) vs (n ∷ ns) ms h =
    let e : packed (us ++ vs) (ns ++ ms) ≡ packed us ns * 2 ^ total vs + packed vs ms = packed-append us vs ns ms (cc h) in
    let t : total (us ++ vs) ≡ total us + total vs = total-append us vs in
    rw (e, t, pow-add 2 (total us) (total vs)) (omega arith)

pub packed_one : (ws ns : List ℕ) (w n : ℕ) → length ws ≡ length ns → packed (ws ++ w ∷ []) (ns ++ n ∷ []) ≡ packed ws ns * 2 ^ w + n
packed_one ws ns w n h =
    let t : total (w ∷ []) ≡ w = omega arith in
    let one : packed (w ∷ []) (n ∷ []) ≡ n = omega arith in
    packed-append ws (w ∷ []) ns (n ∷ []) h ∙ (λ i. packed ws ns * 2 ^ t i + one i)

pub total_one : (ws : List ℕ) (w : ℕ) → total (ws ++ w ∷ []) ≡ total ws + w
total_one ws w = total-append ws (w ∷ []) ∙ omega arith

pub eights_one : (n : ℕ) → eights (n + 1) ≡ eights n ++ 8 ∷ []
eights_one zero = refl
eights_one (suc n) = let e : suc n + 1 ≡ suc (n + 1) = omega arith in ap eights e ∙ ap (λ ws. 8 ∷ ws) (eights_one n)

pub fit_one : (ws ns : List ℕ) (w n : ℕ) → FieldsFit ws ns → n < 2 ^ w → FieldsFit (ws ++ w ∷ []) (ns ++ n ∷ [])
fit_one [] [] w n f h = (h, tt)
fit_one [] (m ∷ ns) w n f h = absurd f
fit_one (v ∷ ws) [] w n f h = absurd f
fit_one (v ∷ ws) (m ∷ ns) w n f h = (f.0, fit_one ws ns w n f.1 h)

pub fit_length : (ws ns : List ℕ) → FieldsFit ws ns → length ws ≡ length ns
fit_length [] [] f = refl
fit_length [] (n ∷ ns) f = absurd f
fit_length (w ∷ ws) [] f = absurd f
fit_length (w ∷ ws) (n ∷ ns) f = ap suc (fit_length ws ns f.1)
