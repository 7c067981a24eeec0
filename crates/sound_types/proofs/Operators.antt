-- The value of each operator is of its type, where its operands are of theirs.
use Rattle.std.proofs.Common.{◌≡◌, ℕ, ◌+◌, ◌-◌, ◌*◌, ◌/◌, ◌%◌, ◌^◌, ◌<◌, ◌==◌, ◌&&◌, nat_le, nat_lt, not, Bool, true, false, Some, None, if◌then◌else◌, refl, sym, ap, subst, ◌∙◌, arith}
use Rattle.std.specs.Int.Bits.{and_lt}
use Rattle.std.proofs.Math.Nat.{mod-lt}
use Rattle.std.proofs.lemmas.Nat.{or_lt, xor_lt, pow_pos, pow-add}
use Rattle.cocoon_num.specs.Sorts.{Sort, bits_sort, truth_sort, same_sort, unary_sort, binary_sort, work_sort, slice_sort, pick_sort}
use Rattle.cocoon_num.specs.Values.{Value, number, truth, UnaryOp, flip, not_, BinaryOp, add, sub, bits_and, bits_or, bits_xor, concat, equal, unequal, less, less_equal, greater, greater_equal, and_, or_, implies, Work, computes, compares, combines, joins, work, worked, apply_unary, apply_binary, apply_slice, apply_pick}
use Rattle.sound_types.specs.Matching.{HasValue, IsOfSort}
use Rattle.sound_types.proofs.Options.{if_there}

some_sort : (a b : Sort) → Some a ≡ Some b → a ≡ b
some_sort a b h = cc

pub same_is : (a b : Sort) → same_sort a b ≡ true → a ≡ b
same_is (bits_sort v) (bits_sort w) h = let e : v ≡ w = grind (arith, h) in ap bits_sort e
same_is (bits_sort v) truth_sort h = absurd (cc)
same_is truth_sort (bits_sort w) h = absurd (cc)
same_is truth_sort truth_sort h = refl

flipped : (w n : ℕ) → 2 ^ w - 1 - n < 2 ^ w
flipped w n = let p = pow_pos w in omega arith

pub unary_value : (op : UnaryOp) (u t : Sort) (v : Value) → unary_sort op u ≡ Some t → IsOfSort u v → HasValue t (apply_unary op v)
unary_value flip (bits_sort w) t (number x n) h k = subst (λ s. HasValue s (Some (number x (2 ^ x - 1 - n)))) (some_sort (bits_sort w) t h) (k.0, subst (λ y. 2 ^ y - 1 - n < 2 ^ w) (sym k.0) (flipped w n))
unary_value flip (bits_sort w) t (truth b) h k = absurd k
unary_value flip truth_sort t v h k = absurd (cc)
unary_value not_ (bits_sort w) t v h k = absurd (cc)
unary_value not_ truth_sort t (number x n) h k = absurd k
unary_value not_ truth_sort t (truth b) h k = subst (λ s. HasValue s (Some (truth (not b)))) (some_sort truth_sort t h) tt

-- ---- two operands

-- what is computed of numbers that fit a width fits it
abbrev Fits : (ℕ → ℕ → ℕ → ℕ) → Type 0
Fits f = (w a b : ℕ) → a < 2 ^ w → b < 2 ^ w → f w a b < 2 ^ w

-- that of all that the work computes
abbrev WorkFits : Work → Type 0
WorkFits (computes f) = Fits f
WorkFits k = Unit {0}

work_fits : (op : BinaryOp) → WorkFits (work op)
work_fits add = λ w a b p q. mod-lt (a + b) (pow_pos w)
work_fits sub = λ w a b p q. mod-lt (a + 2 ^ w - b) (pow_pos w)
work_fits bits_and = λ w a b p q. and_lt w a b p q
work_fits bits_or = λ w a b p q. or_lt w a b p q
work_fits bits_xor = λ w a b p q. xor_lt w a b p q
work_fits concat = tt
work_fits equal = tt
work_fits unequal = tt
work_fits less = tt
work_fits less_equal = tt
work_fits greater = tt
work_fits greater_equal = tt
work_fits and_ = tt
work_fits or_ = tt
work_fits implies = tt

joined : (a v b w : ℕ) → a < 2 ^ v → b < 2 ^ w → a * 2 ^ w + b < 2 ^ (v + w)
joined a v b w p q = grind (arith, pow-add 2 v w)

if_value : (b : Bool) (s t : Sort) (o : Value) → (if b then Some s else None) ≡ Some t → (b ≡ true → IsOfSort s o) → HasValue t (if b then Some o else None)
if_value true s t o h k = subst (λ x. HasValue x (Some o)) (some_sort s t h) (k refl)
if_value false s t o h k = absurd (cc)

same_number : (v w : ℕ) → (v == w) ≡ true → v ≡ w
same_number v w h = grind (arith, h)

-- by the widths of the types, and by those of the values, which are the same
work_value : (k : Work) → WorkFits k → (s u t : Sort) (x y : Value) → work_sort k s u ≡ Some t → IsOfSort s x → IsOfSort u y → HasValue t (worked k x y)
work_value (computes f) fits (bits_sort v) (bits_sort w) t (number m a) (number n b) h p q =
    subst (λ z. HasValue t (if z == n then Some (number n (f n a b)) else None)) (sym p.0)
    (subst (λ z. HasValue t (if v == z then Some (number z (f z a b)) else None)) (sym q.0)
    (if_value (v == w) (bits_sort w) t (number w (f w a b)) h (λ e. (refl, fits w a b (subst (λ z. a < 2 ^ z) (same_number v w e) p.1) q.1))))
work_value (computes f) fits (bits_sort v) (bits_sort w) t (truth a) y h p q = absurd p
work_value (computes f) fits (bits_sort v) (bits_sort w) t (number m a) (truth b) h p q = absurd q
work_value (computes f) fits (bits_sort v) truth_sort t x y h p q = absurd (cc)
work_value (computes f) fits truth_sort u t x y h p q = absurd (cc)
work_value (compares f) fits (bits_sort v) (bits_sort w) t (number m a) (number n b) h p q =
    subst (λ z. HasValue t (if z == n then Some (truth (f a b)) else None)) (sym p.0)
    (subst (λ z. HasValue t (if v == z then Some (truth (f a b)) else None)) (sym q.0)
    (if_value (v == w) truth_sort t (truth (f a b)) h (λ e. tt)))
work_value (compares f) fits (bits_sort v) (bits_sort w) t (truth a) y h p q = absurd p
work_value (compares f) fits (bits_sort v) (bits_sort w) t (number m a) (truth b) h p q = absurd q
work_value (compares f) fits (bits_sort v) truth_sort t x y h p q = absurd (cc)
work_value (compares f) fits truth_sort u t x y h p q = absurd (cc)
work_value (combines f) fits (bits_sort v) u t x y h p q = absurd (cc)
work_value (combines f) fits truth_sort (bits_sort w) t x y h p q = absurd (cc)
work_value (combines f) fits truth_sort truth_sort t (number m a) y h p q = absurd p
work_value (combines f) fits truth_sort truth_sort t (truth a) (number n b) h p q = absurd q
work_value (combines f) fits truth_sort truth_sort t (truth a) (truth b) h p q = subst (λ z. HasValue z (Some (truth (f a b)))) (some_sort truth_sort t h) tt
work_value joins fits (bits_sort v) (bits_sort w) t (number m a) (number n b) h p q =
    subst (λ z. HasValue t (if nat_le (z + n) 128 then Some (number (z + n) (a * 2 ^ n + b)) else None)) (sym p.0)
    (subst (λ z. HasValue t (if nat_le (v + z) 128 then Some (number (v + z) (a * 2 ^ z + b)) else None)) (sym q.0)
    (if_value (nat_le (v + w) 128) (bits_sort (v + w)) t (number (v + w) (a * 2 ^ w + b)) h (λ e. (refl, joined a v b w p.1 q.1))))
work_value joins fits (bits_sort v) (bits_sort w) t (truth a) y h p q = absurd p
work_value joins fits (bits_sort v) (bits_sort w) t (number m a) (truth b) h p q = absurd q
work_value joins fits (bits_sort v) truth_sort t x y h p q = absurd (cc)
work_value joins fits truth_sort u t x y h p q = absurd (cc)

pub binary_value : (op : BinaryOp) (s u t : Sort) (x y : Value) → binary_sort op s u ≡ Some t → IsOfSort s x → IsOfSort u y → HasValue t (apply_binary op x y)
binary_value op = work_value (work op) (work_fits op)

-- ---- slices and choices

pub slice_value : (s t : Sort) (high low : ℕ) (v : Value) → slice_sort s high low ≡ Some t → IsOfSort s v → HasValue t (apply_slice v high low)
slice_value (bits_sort w) t high low (number x n) h k =
    subst (λ z. HasValue t (if nat_le low high && nat_lt high z then Some (number (high - low + 1) (n / 2 ^ low % 2 ^ (high - low + 1))) else None)) (sym k.0)
    (if_value (nat_le low high && nat_lt high w) (bits_sort (high - low + 1)) t (number (high - low + 1) (n / 2 ^ low % 2 ^ (high - low + 1))) h
    (λ e. (refl, mod-lt (n / 2 ^ low) (pow_pos (high - low + 1)))))
slice_value (bits_sort w) t high low (truth b) h k = absurd k
slice_value truth_sort t high low v h k = absurd (cc)

either_value : (b : Bool) (t : Sort) (x y : Value) → IsOfSort t x → IsOfSort t y → HasValue t (Some (if b then x else y))
either_value true t x y p q = p
either_value false t x y p q = q

pub pick_value : (r s u t : Sort) (c x y : Value) → pick_sort r s u ≡ Some t → IsOfSort r c → IsOfSort s x → IsOfSort u y → HasValue t (apply_pick c x y)
pick_value (bits_sort w) s u t c x y h o p q = absurd (cc)
pick_value truth_sort s u t (number w n) x y h o p q = absurd o
pick_value truth_sort s u t (truth c) x y h o p q =
    let e = if_there (same_sort s u) s t h in
    either_value c t x y (subst (λ z. IsOfSort z x) e.1 p) (subst (λ z. IsOfSort z y) (sym (same_is s u e.0) ∙ e.1) q)
