-- Numbers in an ordered set.
use Rattle.std.proofs.Common.{◌≡◌, ℕ, suc, ◌+◌, ◌<◌, ◌==◌, ◌&&◌, ◌||◌, Bool, true, false, List, [], ◌∷◌, ◌++◌, length, map, drop, get_or, Option, Some, None, Ordering, if◌then◌else◌, refl, sym, ap, ◌∙◌, arith}
use Rattle.std.specs.Prelude.{is_some, nat_le, nat_lt, option_and_then}
use Rattle.std.proofs.lemmas.Bool.{le-leb}
use Rattle.std.specs.Ordering.{nat_cmp, match_ordering}
use Rattle.std.specs.declared.cmp.Ordering.TheVariants.{Less, Equal, Greater}
use Rattle.std.specs.BTreeSet.{insert_key}
use Rattle.std.proofs.lemmas.Bool.Decides.{nat_tests}
use Rattle.std.proofs.lemmas.List.{at_drop_more}
use Rattle.cocoon_num.specs.Lists.{ascend, has_number}
use Rattle.p4_ir.specs.P4Kinds.{numbers_of}
use Rattle.p4_ir.specs.P4Tree.{Program}
use Rattle.p4_ir.specs.Program.{table_of}
use Rattle.p4_ir.specs.declared.program.Table.{Table}
use Rattle.p4_kinds.specs.Parts.{ascending, number_after}

crossed : (a b r : Bool) → (b || (a || r)) ≡ (a || (b || r))
crossed true true r = refl
crossed true false r = refl
crossed false true r = refl
crossed false false r = refl

twice : (a b r : Bool) → a ≡ b → (b || r) ≡ (a || (b || r))
twice true true r h = refl
twice false false r h = refl
twice true false r h = absurd cc
twice false true r h = absurd cc

is_number : (m k : ℕ) → nat_cmp m k ≡ Equal → m ≡ k
is_number m k h = grind (arith, nat_tests)

inserted : (n m : ℕ) (ks : List ℕ) → has_number n (insert_key nat_cmp ks m) ≡ ((n == m) || has_number n ks)
inserted n m [] = refl
inserted n m (k ∷ ks) = by_order (nat_cmp m k) refl (inserted n m ks)
  where
    by_order : (o : Ordering) → nat_cmp m k ≡ o → has_number n (insert_key nat_cmp ks m) ≡ ((n == m) || has_number n ks)
        → has_number n (match_ordering o (m ∷ k ∷ ks) (k ∷ ks) (k ∷ insert_key nat_cmp ks m)) ≡ ((n == m) || ((n == k) || has_number n ks))
    by_order Less e h = refl
    by_order Equal e h = twice (n == m) (n == k) (has_number n ks) (ap (λ x. n == x) (is_number m k e))
    by_order Greater e h = ap (λ b. (n == k) || b) h ∙ crossed (n == m) (n == k) (has_number n ks)

moved : (a b r : Bool) → ((a || b) || r) ≡ (b || (a || r))
moved true true r = refl
moved true false r = refl
moved false true r = refl
moved false false r = refl

pub one_inserted : (ts : List Table) (i : ℕ) (t : Table) (old new : List ℕ) → i < length ts → t ≡ get_or ts i t → new ≡ insert_key nat_cmp old t.number
    → (n : ℕ) → (has_number n new || has_number n (numbers_of (map table_of (drop (i + 1) ts)))) ≡ (has_number n old || has_number n (numbers_of (map table_of (drop i ts))))
one_inserted ts i t old new h e k n =
    let rest : Bool = has_number n (numbers_of (map table_of (drop (i + 1) ts))) in
    ap (λ ks. has_number n ks || rest) k ∙ ap (λ b. b || rest) (inserted n t.number old) ∙ moved (n == t.number) (has_number n old) rest
    ∙ ap (λ b. has_number n old || b) (sym (at_drop_more (λ us. has_number n (numbers_of (map table_of us))) ts i t h ∙ ap (λ (u : Table). (n == u.number) || rest) (sym e)))

-- ---- numbers that ascend

split : (ns : List ℕ) (t : Bool) (a b : Option ℕ) → is_some (option_and_then (λ l. number_after l ns) a) ≡ is_some b → is_some (option_and_then (λ l. number_after l ns) (if t then a else None)) ≡ is_some (if t then b else None)
split ns true a b h = h
split ns false a b h = refl

in_two : (k : ℕ) (ms ns : List ℕ) → is_some (option_and_then (λ l. number_after l ns) (number_after k ms)) ≡ is_some (number_after k (ms ++ ns))
in_two k [] ns = refl
in_two k (m ∷ ms) ns = split ns (nat_le k m) (number_after (suc m) ms) (number_after (suc m) (ms ++ ns)) (in_two (suc m) ms ns)

tested : (t a : Bool) (o : Option ℕ) → is_some o ≡ a → is_some (if t then o else None) ≡ (t && a)
tested true a o h = h
tested false a o h = refl

from_first : (k n : ℕ) (ns : List ℕ) → is_some (number_after k (n ∷ ns)) ≡ (nat_le k n && ascend (n ∷ ns))
from_first k n [] = tested (nat_le k n) true (Some (suc n)) refl
from_first k n (m ∷ ns) = tested (nat_le k n) (ascend (n ∷ m ∷ ns)) (number_after (suc n) (m ∷ ns)) (from_first (suc n) m ns ∙ ap (λ b. b && ascend (m ∷ ns)) (next n m))
  where
    next : (a b : ℕ) → nat_le (suc a) b ≡ nat_lt a b
    next a b = grind (arith, nat_tests)

from_none : (ns : List ℕ) → is_some (number_after 0 ns) ≡ ascend ns
from_none [] = refl
from_none (n ∷ ns) = from_first 0 n ns ∙ ap (λ b. b && ascend (n ∷ ns)) (le-leb 0 n (omega arith))

pub ascending_is : (p : Program) → ascending p ≡ ascend (numbers_of p.ingress.tables ++ numbers_of p.egress.tables)
ascending_is p = in_two 0 (numbers_of p.ingress.tables) (numbers_of p.egress.tables) ∙ from_none (numbers_of p.ingress.tables ++ numbers_of p.egress.tables)
