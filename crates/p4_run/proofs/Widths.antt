-- Arithmetic of resolved operators: what masks and shifts make of numbers of a width.
use Rattle.std.proofs.Common.{◌≡◌, ℕ, ◌+◌, ◌-◌, ◌*◌, ◌/◌, ◌%◌, ◌^◌, ◌<◌, ◌≤◌, bit_and, bit_or, sym, ◌∙◌, subst, arith}
use Rattle.std.proofs.lemmas.Nat.{pow_pos}
use Rattle.std.proofs.Math.Nat.{pow-le-pow_right, mod-eq_of_lt, mod-lt, add-mul-mod_self_right}
use Rattle.cocoon_num.proofs.Widths.{difference, joined_bits, low_of, low_places, shifted_below}

-- a number of a width, as the code has it
abbrev pub Made : ℕ → (n made : ℕ) → Type 0
Made w n made = (made ≡ n) × (made < 2 ^ w)

made : (w n x : ℕ) → x ≡ n → n < 2 ^ w → Made w n x
made w n x e l = (e, subst (λ k. k < 2 ^ w) (sym e) l)

pub added : (x y w m : ℕ) → w ≤ 128 → m + 1 ≡ 2 ^ w → Made w ((x + y) % 2 ^ w) (bit_and ((x + y) % 2 ^ 128) m)
added x y w m h e = made w ((x + y) % 2 ^ w) (bit_and ((x + y) % 2 ^ 128) m) (low_places (x + y) w m h e) (mod-lt (x + y) (pow_pos w))

pub subtracted : (x y w m : ℕ) → w ≤ 128 → y < 2 ^ w → m + 1 ≡ 2 ^ w → Made w ((x + 2 ^ w - y) % 2 ^ w) (bit_and ((x + (2 ^ 128 - y)) % 2 ^ 128) m)
subtracted x y w m h l e =
    made w ((x + 2 ^ w - y) % 2 ^ w) (bit_and ((x + (2 ^ 128 - y)) % 2 ^ 128) m) (difference x y w m h l e) (mod-lt (x + 2 ^ w - y) (pow_pos w))

pub turned : (x w m : ℕ) → w ≤ 128 → x < 2 ^ w → m + 1 ≡ 2 ^ w → Made w (2 ^ w - 1 - x) ((m + (2 ^ 128 - x)) % 2 ^ 128)
turned x w m h l e =
    let top : 2 ^ w ≤ 2 ^ 128 = pow-le-pow_right {n = 2} (omega arith) h in
    let d : m + (2 ^ 128 - x) ≡ (2 ^ w - 1 - x) + 1 * 2 ^ 128 = omega (arith, top) in
    let small : 2 ^ w - 1 - x < 2 ^ 128 = omega (arith, top) in
    made w (2 ^ w - 1 - x) ((m + (2 ^ 128 - x)) % 2 ^ 128)
    (rw d (add-mul-mod_self_right (2 ^ w - 1 - x) 1 (2 ^ 128) ∙ mod-eq_of_lt small)) (omega arith)

pub joined : (x v y w : ℕ) → v + w ≤ 128 → x < 2 ^ v → y < 2 ^ w → Made (v + w) (x * 2 ^ w + y) (bit_or (x * 2 ^ w % 2 ^ 128) y)
joined x v y w h k l = made (v + w) (x * 2 ^ w + y) (bit_or (x * 2 ^ w % 2 ^ 128) y) (joined_bits x v y w h k l) (shifted_below x v y w k l)

pub sliced : (x low w m : ℕ) → m + 1 ≡ 2 ^ w → Made w (x / 2 ^ low % 2 ^ w) (bit_and (x / 2 ^ low) m)
sliced x low w m e = made w (x / 2 ^ low % 2 ^ w) (bit_and (x / 2 ^ low) m) (low_of (x / 2 ^ low) w m e) (mod-lt (x / 2 ^ low) (pow_pos w))
