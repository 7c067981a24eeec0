-- What operators make of operands that are resolved: of values and types.
use Rattle.std.proofs.Common.{◌≡◌, ℕ, ◌+◌, ◌-◌, ◌/◌, ◌%◌, ◌*◌, ◌<◌, ◌≤◌, ◌^◌, ◌==◌, ◌&&◌, nat_le, nat_lt, Bool, true, false, if◌then◌else◌, Some, None, refl, sym, ap, subst, ◌∙◌}
use Rattle.std.proofs.lemmas.Bool.{and_parts, eqb-true, le-leb, leb-true, ltb-true}
use Rattle.cocoon_num.specs.Sorts.{Sort, bits_sort, truth_sort, unary_sort, work_sort, slice_sort}
use Rattle.cocoon_num.specs.Values.{number, truth, UnaryOp, flip, not_, Work, computes, compares, combines, joins}
use Rattle.p4_run.specs.Held.{Held}
use Rattle.p4_run.specs.Meaning.{number_by}
use Rattle.p4_run.specs.Operating.{comparing, Compares, computing, Computes, Gives, IsSorted, OfOne, OfSlice, OfTwo, sort_of}
use Rattle.p4_run.specs.declared.expr_codes.TruthCode.{TruthCode}
use Rattle.p4_run.specs.declared.resolved.Resolved.{Resolved}
use Rattle.p4_run.specs.declared.resolved.Resolved.TheVariants.{Number, Truth}
use Rattle.p4_run.specs.declared.resolved.SizedNumber.{SizedNumber}
use Rattle.p4_run.proofs.Widths.{Made}

-- a test that gives a type is met
met : (b : Bool) (s : Sort) → IsSorted (if b then Some s else None) → b ≡ true
met true s h = refl
met false s h = absurd h

-- a number that is made, and its value
gives : (r : Held) (m : SizedNumber) (w n : ℕ) → m.width ≡ w → Made w n (number_by m.code r) → Gives r (Number m) (Some (number w n))
gives r m w n e made = record {
  is = λ i. Some (number (sym e i) (sym made.0 i));
  bounded = subst (λ k. number_by m.code r < 2 ^ k) (sym e) made.1;
}

flipped : (op : UnaryOp) (a m : SizedNumber) → IsSorted (unary_sort op (bits_sort a.width)) → m.width ≡ a.width
    → ((r : Held) → number_by a.code r < 2 ^ a.width → Made a.width (2 ^ a.width - 1 - number_by a.code r) (number_by m.code r))
    → OfOne op (Number a) (Number m)
flipped flip a m h e f = record {
  sort = ap (λ w. Some (bits_sort w)) (sym e);
  value = λ r l. gives r m a.width (2 ^ a.width - 1 - number_by a.code r) e (f r l);
}
flipped not_ a m h e f = absurd h

pub flipped_one : (op : UnaryOp) (x : Resolved) (a m : SizedNumber) → x ≡ Number a → IsSorted (unary_sort op (sort_of x)) → m.width ≡ a.width
    → ((r : Held) → number_by a.code r < 2 ^ a.width → Made a.width (2 ^ a.width - 1 - number_by a.code r) (number_by m.code r))
    → OfOne op x (Number m)
flipped_one op x a m is h e f =
    subst (λ y. OfOne op y (Number m)) (sym is) (flipped op a m (subst (λ y. IsSorted (unary_sort op (sort_of y))) is h) e f)

pub computed : (k : Work) (a b m : SizedNumber) → computing k ≡ true → IsSorted (work_sort k (bits_sort a.width) (bits_sort b.width)) → m.width ≡ b.width
    → Computes k b.width a.code b.code m.code → OfTwo k (Number a) (Number b) (Number m)
computed (computes f) a b m t h e c =
    let same = met (a.width == b.width) (bits_sort b.width) h in
    let widths : a.width ≡ b.width = eqb-true a.width b.width same in
    record {
      sort = ap (λ (t : Bool). if t then Some (bits_sort b.width) else None) same ∙ ap (λ w. Some (bits_sort w)) (sym e);
      value = λ r p q.
          let made : Gives r (Number m) (Some (number b.width (f b.width (number_by a.code r) (number_by b.code r)))) =
          gives r m b.width (f b.width (number_by a.code r) (number_by b.code r)) e (c r (subst (λ w. number_by a.code r < 2 ^ w) widths p) q) in
          record {
            is = ap (λ (t : Bool). if t then Some (number b.width (f b.width (number_by a.code r) (number_by b.code r))) else None) same ∙ made.is;
            bounded = made.bounded;
          };
    }
computed (compares f) a b m t h e c = absurd c
computed (combines f) a b m t h e c = absurd c
computed joins a b m t h e c = absurd c

pub compared : (k : Work) (a b : SizedNumber) (m : TruthCode) → comparing k ≡ true → IsSorted (work_sort k (bits_sort a.width) (bits_sort b.width))
    → Compares k a.code b.code m → OfTwo k (Number a) (Number b) (Truth m)
compared (compares f) a b m t h c =
    let same = met (a.width == b.width) truth_sort h in
    record {
      sort = ap (λ (t : Bool). if t then Some truth_sort else None) same;
      value = λ r p q. record {
        is = ap (λ (t : Bool). if t then Some (truth (f (number_by a.code r) (number_by b.code r))) else None) same ∙ ap (λ t. Some (truth t)) (sym (c r));
        bounded = tt;
      };
    }
compared (computes f) a b m t h c = absurd c
compared (combines f) a b m t h c = absurd c
compared joins a b m t h c = absurd c

-- an operator that is none of these joins
pub joining : (k : Work) (v w : ℕ) → computing k ≡ false → comparing k ≡ false → IsSorted (work_sort k (bits_sort v) (bits_sort w)) → (k ≡ joins) × (v + w ≤ 128)
joining (computes f) v w p q h = absurd (cc)
joining (compares f) v w p q h = absurd (cc)
joining (combines f) v w p q h = absurd h
joining joins v w p q h = (refl, leb-true (v + w) 128 (met (nat_le (v + w) 128) (bits_sort (v + w)) h))

pub joined_two : (a b m : SizedNumber) → a.width + b.width ≤ 128 → m.width ≡ a.width + b.width
    → ((r : Held) → number_by a.code r < 2 ^ a.width → number_by b.code r < 2 ^ b.width
    → Made (a.width + b.width) (number_by a.code r * 2 ^ b.width + number_by b.code r) (number_by m.code r))
    → OfTwo joins (Number a) (Number b) (Number m)
joined_two a b m h e f =
    let narrow = le-leb (a.width + b.width) 128 h in
    record {
      sort = ap (λ (t : Bool). if t then Some (bits_sort (a.width + b.width)) else None) narrow ∙ ap (λ w. Some (bits_sort w)) (sym e);
      value = λ r p q.
          let made : Gives r (Number m) (Some (number (a.width + b.width) (number_by a.code r * 2 ^ b.width + number_by b.code r))) =
          gives r m (a.width + b.width) (number_by a.code r * 2 ^ b.width + number_by b.code r) e (f r p q) in
          record {
            is = ap (λ (t : Bool). if t then Some (number (a.width + b.width) (number_by a.code r * 2 ^ b.width + number_by b.code r)) else None) narrow ∙ made.is;
            bounded = made.bounded;
          };
    }

-- bits that there are
pub bits_there : (w high low : ℕ) → IsSorted (slice_sort (bits_sort w) high low) → (low ≤ high) × (high < w)
bits_there w high low h =
    let parts = and_parts (nat_le low high) (nat_lt high w) (met (nat_le low high && nat_lt high w) (bits_sort (high - low + 1)) h) in
    (leb-true low high parts.0, ltb-true high w parts.1)

sliced : (high low : ℕ) (a m : SizedNumber) → IsSorted (slice_sort (bits_sort a.width) high low) → m.width ≡ high - low + 1
    → ((r : Held) → Made (high - low + 1) (number_by a.code r / 2 ^ low % 2 ^ (high - low + 1)) (number_by m.code r))
    → OfSlice high low (Number a) (Number m)
sliced high low a m h e f =
    let test = met (nat_le low high && nat_lt high a.width) (bits_sort (high - low + 1)) h in
    record {
      sort = ap (λ (t : Bool). if t then Some (bits_sort (high - low + 1)) else None) test ∙ ap (λ w. Some (bits_sort w)) (sym e);
      value = λ r p.
          let made : Gives r (Number m) (Some (number (high - low + 1) (number_by a.code r / 2 ^ low % 2 ^ (high - low + 1)))) =
          gives r m (high - low + 1) (number_by a.code r / 2 ^ low % 2 ^ (high - low + 1)) e (f r) in
          record {
            is = ap (λ (t : Bool). if t then Some (number (high - low + 1) (number_by a.code r / 2 ^ low % 2 ^ (high - low + 1))) else None) test ∙ made.is;
            bounded = made.bounded;
          };
    }

pub sliced_one : (high low : ℕ) (x : Resolved) (a m : SizedNumber) → x ≡ Number a → IsSorted (slice_sort (sort_of x) high low) → m.width ≡ high - low + 1
    → ((r : Held) → Made (high - low + 1) (number_by a.code r / 2 ^ low % 2 ^ (high - low + 1)) (number_by m.code r))
    → OfSlice high low x (Number m)
sliced_one high low x a m is h e f =
    subst (λ y. OfSlice high low y (Number m)) (sym is) (sliced high low a m (subst (λ y. IsSorted (slice_sort (sort_of y) high low)) is h) e f)
