-- Of one rule's token indices the least comes first: noting it alone is noting all.
use Rattle.std.proofs.Common.{◌≡◌, ℕ, ◌==◌, ◌≤◌, ◌&&◌, ◌||◌, Bool, true, false, nat_lt, List, Option, Some, None, refl, sym, ap, subst, ◌∙◌, inl, inr, arith, eqb-true, rules}
use Rattle.std.proofs.lemmas.Bool.Decides.{nat_tests}
use Rattle.cocoon_num.specs.Lists.{has_number}
use Rattle.cocoon_types.specs.Rules.{hidden_choice}
use Rattle.cocoon_types.specs.FirstFault.{Fault, rank, phase, phase_at}
use Rattle.cocoon_types.specs.Noting.{Covers, Notes, same_fault}
use Rattle.cocoon_types.specs.Among.{among}
use Rattle.form_rules.specs.Least.{IsLeast}

abbrev hidden_at : ℕ → Fault
hidden_at n = record { rule = hidden_choice; at = n }

left : (a b : Bool) → a && b ≡ true → a ≡ true
left true b h = refl
left false b h = h

right : (a b : Bool) → a && b ≡ true → b ≡ true
right true b h = h
right false b h = absurd cc

both : (a b : Bool) → a ≡ true → b ≡ true → a && b ≡ true
both true b h k = k
both false b h k = h

picked : (ns : List ℕ) (n : ℕ) → has_number n ns ≡ true → (f : Fault) → same_fault (hidden_at n) f ≡ true → among hidden_choice ns f ≡ true
picked ns n h f e = both (rank f.rule == rank hidden_choice) (has_number f.at ns) (left (rank f.rule == rank hidden_choice) (f.at == n) e) (ap (λ m. has_number m ns) (eqb-true f.at n (right (rank f.rule == rank hidden_choice) (f.at == n) e)) ∙ h)

same-number : (n : ℕ) → (n == n) ≡ true
same-number n = search rules

-- a token index and a rank come after others
abbrev after : (at rank other : ℕ) → ℕ → Bool
after at r index s = nat_lt at index || ((at == index) && nat_lt r s)

late : (n m r index s : ℕ) → n ≤ m → after n r index s ≡ false → after m r index s ≡ false
late n m r index s l h = grind (arith, nat_tests)

by_phase : (before same p q : Bool) → (p ≡ false → q ≡ false) → before || (same && p) ≡ false → before || (same && q) ≡ false
by_phase true same p q f h = h
by_phase false true p q f h = f h
by_phase false false p q f h = refl

later : (n : ℕ) (b : Option Fault) (f : Fault) → rank f.rule ≡ rank hidden_choice → n ≤ f.at → Covers b (hidden_at n) → Covers b f
later n None f r l c = c
later n (Some g) f r l c =
    subst (λ k. nat_lt (phase_at k) (phase g.rule) || ((phase_at k == phase g.rule) && after f.at k g.at (rank g.rule)) ≡ false) (sym r)
    (by_phase (nat_lt (phase hidden_choice) (phase g.rule)) (phase hidden_choice == phase g.rule) (after n (rank hidden_choice) g.at (rank g.rule)) (after f.at (rank hidden_choice) g.at (rank g.rule))
    (late n f.at (rank hidden_choice) g.at (rank g.rule) l) c)

pub least_noted : (ns : List ℕ) (n : ℕ) (a b : Option Fault) → IsLeast (Some n) ns → Notes (same_fault (hidden_at n)) a b → Notes (among hidden_choice ns) a b
least_noted ns n a b least notes = record {
  held = λ f e. elim (notes.held f e) [ inl h ↦ inl h | inr h ↦ inr (picked ns n least.0 f h) ];
  covers = λ f h. elim h [
    | inl e ↦ notes.covers f (inl e)
    | inr p ↦ later n b f (eqb-true (rank f.rule) (rank hidden_choice) (left (rank f.rule == rank hidden_choice) (has_number f.at ns) p))
        (least.1 f.at (right (rank f.rule == rank hidden_choice) (has_number f.at ns) p)) (notes.covers (hidden_at n) (inr (same-number n)))
  ];
}
