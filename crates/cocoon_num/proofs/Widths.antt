-- Arithmetic of the operations of `Bits`: what 128 bits keep, at the lowest places.
use Rattle.std.proofs.Common.{◌≡◌, ℕ, ◌+◌, ◌-◌, ◌*◌, ◌/◌, ◌%◌, ◌^◌, ◌<◌, ◌≤◌, bit_and, bit_or, arith, ap, sym, ◌∙◌}
use Rattle.std.proofs.lemmas.Nat.{pow_pos, pow-add, and_mask, or_shifted}
use Rattle.std.proofs.lemmas.Nat.Bits.{ones_shr}
use Rattle.std.proofs.Math.Pow.{mod-mod-pow}
use Rattle.std.proofs.Math.Nat.{pow-le-pow_right, mod-eq_of_lt, add-mul-mod_self_right}

-- ones at the lowest w places
pub mask_is : (w : ℕ) → w ≤ 128 → (2 ^ 128 - 1) / 2 ^ (128 - w) + 1 ≡ 2 ^ w
mask_is w h =
    let e : (2 ^ 128 - 1) / 2 ^ (128 - w) ≡ 2 ^ (128 - (128 - w)) - 1 = ones_shr 128 (128 - w) (omega arith) in
    let d : 128 - (128 - w) ≡ w = omega arith in
    let p : 0 < 2 ^ w = pow_pos w in
    let f : (2 ^ 128 - 1) / 2 ^ (128 - w) ≡ 2 ^ w - 1 = e ∙ ap (λ k. 2 ^ k - 1) d in
    rw f (omega arith)

-- the lowest w places of what 128 bits keep
pub low_places : (n w m : ℕ) → w ≤ 128 → m + 1 ≡ 2 ^ w → bit_and (n % 2 ^ 128) m ≡ n % 2 ^ w
low_places n w m h e =
    let d : (128 - w) + w ≡ 128 = omega arith in
    let m_is : m ≡ 2 ^ w - 1 = omega arith in
    ap (bit_and (n % 2 ^ 128)) m_is
    ∙ and_mask (n % 2 ^ 128) w
    ∙ ap (λ k. n % 2 ^ k % 2 ^ w) (sym d)
    ∙ mod-mod-pow n (128 - w) w

-- a product by a power stays below the sum's power
pub shifted_below : (a j b k : ℕ) → a < 2 ^ j → b < 2 ^ k → a * 2 ^ k + b < 2 ^ (j + k)
shifted_below a j b k p q =
    let e : 2 ^ (j + k) ≡ 2 ^ j * 2 ^ k = pow-add 2 j k in
    grind (arith, e)

pub joined_bits : (a j b k : ℕ) → j + k ≤ 128 → a < 2 ^ j → b < 2 ^ k → bit_or (a * 2 ^ k % 2 ^ 128) b ≡ a * 2 ^ k + b
joined_bits a j b k h p q =
    let lt : a * 2 ^ k + b < 2 ^ (j + k) = shifted_below a j b k p q in
    let le : 2 ^ (j + k) ≤ 2 ^ 128 = pow-le-pow_right {n = 2} (omega arith) h in
    let small : a * 2 ^ k < 2 ^ 128 = omega arith in
    ap (λ n. bit_or n b) (mod-eq_of_lt small) ∙ or_shifted a k b q

pub low_of : (n w m : ℕ) → m + 1 ≡ 2 ^ w → bit_and n m ≡ n % 2 ^ w
low_of n w m e =
    let m_is : m ≡ 2 ^ w - 1 = omega arith in
    ap (bit_and n) m_is ∙ and_mask n w

one_more : (s p : ℕ) → (s + 1) * p ≡ s * p + p
one_more s p = omega arith

apart : (a b n p q : ℕ) → 0 < q → b < p → n ≡ q * p → a + (n - b) ≡ (a + p - b) + (q - 1) * p
apart a b n p q pos lt e =
    let q_is : q ≡ (q - 1) + 1 = omega arith in
    let g : q * p ≡ (q - 1) * p + p = ap (λ k. k * p) q_is ∙ one_more (q - 1) p in
    omega (arith, g)

-- a difference in 128 bits, at its lowest w places
pub difference : (a b w m : ℕ) → w ≤ 128 → b < 2 ^ w → m + 1 ≡ 2 ^ w → bit_and ((a + (2 ^ 128 - b)) % 2 ^ 128) m ≡ (a + 2 ^ w - b) % 2 ^ w
difference a b w m h lt e =
    let d : (128 - w) + w ≡ 128 = omega arith in
    let whole : 2 ^ ((128 - w) + w) ≡ 2 ^ (128 - w) * 2 ^ w = pow-add 2 (128 - w) w in
    let q : 0 < 2 ^ (128 - w) = pow_pos (128 - w) in
    let whole' : 2 ^ 128 ≡ 2 ^ (128 - w) * 2 ^ w = ap (λ k. 2 ^ k) (sym d) ∙ whole in
    low_places (a + (2 ^ 128 - b)) w m h e
    ∙ ap (λ n. n % 2 ^ w) (apart a b (2 ^ 128) (2 ^ w) (2 ^ (128 - w)) q lt whole')
    ∙ add-mul-mod_self_right (a + 2 ^ w - b) (2 ^ (128 - w) - 1) (2 ^ w)
