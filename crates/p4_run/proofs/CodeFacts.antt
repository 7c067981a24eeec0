-- What the nodes of resolved expressions give.
use Rattle.std.proofs.Common.{◌≡◌, ℕ, ◌+◌, ◌-◌, ◌*◌, ◌/◌, ◌%◌, ◌^◌, bit_and, bit_or, bit_xor, get_or, Box, Global, rules}
use Rattle.p4_run.specs.Held.{Held}
use Rattle.p4_run.specs.Meaning.{number_by}
use Rattle.p4_run.specs.declared.expr_codes.NumberCode as codes
use Rattle.p4_run.specs.declared.expr_codes.NumberCode.{NumberCode}
use Rattle.p4_run.specs.declared.expr_codes.NumberCode.TheVariants.{Field, Meta, Flip, Add, Sub, Or, Xor, Join, Slice}
use Rattle.p4_run.specs.declared.expr_codes.Shift.{Shift}

pub by_flip : (a : Box NumberCode Global) (m : ℕ) (r : Held) → number_by (Flip a m) r ≡ (m + (2 ^ 128 - number_by a.value r)) % 2 ^ 128
by_flip a m r = search (rules, codes.the_lemmas)

pub by_add : (a b : Box NumberCode Global) (m : ℕ) (r : Held) → number_by (Add a b m) r ≡ bit_and ((number_by a.value r + number_by b.value r) % 2 ^ 128) m
by_add a b m r = search (rules, codes.the_lemmas)

pub by_sub : (a b : Box NumberCode Global) (m : ℕ) (r : Held)
    → number_by (Sub a b m) r ≡ bit_and ((number_by a.value r + (2 ^ 128 - number_by b.value r)) % 2 ^ 128) m
by_sub a b m r = search (rules, codes.the_lemmas)

pub by_or : (a b : Box NumberCode Global) (r : Held) → number_by (Or a b) r ≡ bit_or (number_by a.value r) (number_by b.value r)
by_or a b r = search (rules, codes.the_lemmas)

pub by_xor : (a b : Box NumberCode Global) (r : Held) → number_by (Xor a b) r ≡ bit_xor (number_by a.value r) (number_by b.value r)
by_xor a b r = search (rules, codes.the_lemmas)

pub by_join : (a b : Box NumberCode Global) (k : Shift) (r : Held)
    → number_by (Join a b k) r ≡ bit_or (number_by a.value r * 2 ^ k.by % 2 ^ 128) (number_by b.value r)
by_join a b k r = search (rules, codes.the_lemmas)

pub by_slice : (a : Box NumberCode Global) (k : Shift) (m : ℕ) (r : Held) → number_by (Slice a k m) r ≡ bit_and (number_by a.value r / 2 ^ k.by) m
by_slice a k m r = search (rules, codes.the_lemmas)

pub by_field : (i : ℕ) (r : Held) → number_by (Field i) r ≡ get_or r.fields i 0
by_field i r = search (rules, codes.the_lemmas)

pub by_meta : (i : ℕ) (r : Held) → number_by (Meta i) r ≡ get_or r.meta i 0
by_meta i r = search (rules, codes.the_lemmas)
