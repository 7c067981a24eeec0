-- The faults of the phases up to one, and those of all phases.
use Rattle.std.proofs.Common.{◌≡◌, ℕ, ◌==◌, ◌&&◌, ◌||◌, Bool, true, false, Option, Some, None, is_some, refl, sym, ap, subst}
use Rattle.std.specs.Prelude.{nat_le, nat_lt, if◌then◌else◌, option_map}
use Rattle.std.proofs.lemmas.Bool.{false≢true}
use Rattle.cocoon_num.specs.Tree.{Design}
use Rattle.cocoon_types.specs.FirstFault.{Fault, FirstFault, IsFirst, phase, rank, is_fault, is_fault_of}
use Rattle.cocoon_types.specs.Noting.{Notes, NotingLaws, FirstOf}
use Rattle.cocoon_types.specs.RuleNames.{fault_of}
use Rattle.cocoon_types.specs.declared.fault.TypeRule.{TypeRule}

-- by the phases up to n
abbrev pub up_to : ℕ → Design → Fault → Bool
up_to n d f = nat_le (phase f.rule) n && is_fault d f

abbrev phase_by : Bool → Bool → ℕ
phase_by names types = if names then 1 else (if types then 2 else 3)

by_first : (names types has : Bool) → ((phase_by names types == 1) && has) ≡ (nat_le (phase_by names types) 1 && has)
by_first true types has = refl
by_first false true has = refl
by_first false false has = refl

by_second : (names types has : Bool) → ((nat_le (phase_by names types) 1 && has) || ((phase_by names types == 2) && has)) ≡ (nat_le (phase_by names types) 2 && has)
by_second true types true = refl
by_second true types false = refl
by_second false true has = refl
by_second false false has = refl

by_third : (names types has : Bool) → ((nat_le (phase_by names types) 2 && has) || ((phase_by names types == 3) && has)) ≡ has
by_third true types true = refl
by_third true types false = refl
by_third false true true = refl
by_third false true false = refl
by_third false false has = refl

-- what the first phase noted
pub names : NotingLaws → (d : Design) (s a : Option Fault) → s ≡ None → Notes (is_fault_of 1 d) s a → Notes (up_to 1 d) None a
names laws d s a e h = laws.alike (is_fault_of 1 d) (up_to 1 d) None a (λ f. by_first (nat_lt (rank f.rule) 8) (nat_lt (rank f.rule) 17) (is_fault d f)) (subst (λ o. Notes (is_fault_of 1 d) o a) e h)

-- what the second noted after it
pub types : NotingLaws → (d : Design) (a b : Option Fault) → Notes (up_to 1 d) None a → Notes (is_fault_of 2 d) a b → Notes (up_to 2 d) None b
types laws d a b h k = laws.alike (λ f. up_to 1 d f || is_fault_of 2 d f) (up_to 2 d) None b (λ f. by_second (nat_lt (rank f.rule) 8) (nat_lt (rank f.rule) 17) (is_fault d f)) (laws.in_turn (up_to 1 d) (is_fault_of 2 d) None a b h k)

pub forms : NotingLaws → (d : Design) (a b : Option Fault) → Notes (up_to 2 d) None a → Notes (is_fault_of 3 d) a b → Notes (is_fault d) None b
forms laws d a b h k = laws.alike (λ f. up_to 2 d f || is_fault_of 3 d f) (is_fault d) None b (λ f. by_third (nat_lt (rank f.rule) 8) (nat_lt (rank f.rule) 17) (is_fault d f)) (laws.in_turn (up_to 2 d) (is_fault_of 3 d) None a b h k)

-- what is held after the phases up to n is the first fault, where it is one
pub first : NotingLaws → ((d : Design) (n : ℕ) (f : Fault) → IsFirst (λ g. nat_le (phase g.rule) n && is_fault d g) f → FirstFault d f)
    → (d : Design) (n : ℕ) (a : Option Fault) → Notes (up_to n d) None a → is_some a ≡ true → FirstOf (is_fault d) a
first laws earlier d n None h e = absurd (false≢true e)
first laws earlier d n (Some f) h e = earlier d n f (laws.first (up_to n d) (Some f) h)

-- what is held is held as a pair
pub is_held : (a : Option Fault) (found : Option (TypeRule × ℕ)) → option_map fault_of found ≡ a → is_some found ≡ true → is_some a ≡ true
is_held a None h e = absurd (false≢true e)
is_held a (Some x) h e = ap is_some (sym h)
