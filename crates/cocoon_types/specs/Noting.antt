-- What a value holds that faults are noted in: the first of them, if any. Cited by the clauses of `Noted` and of all that
-- notes faults.
use Rattle.std.specs.Prelude.{◌≡◌, ◌==◌, ◌&&◌, ◌||◌, ◌⊎◌, Bool, false, IsTrue, IsFalse, Option, Some, None}
use Rattle.cocoon_types.specs.FirstFault.{Fault, rank, comes_before, IsFirst}

-- the two faults are one
abbrev pub same_fault : Fault → Fault → Bool
same_fault f g = (rank g.rule == rank f.rule) && (g.at == f.at)

-- the fault is the one that is held
abbrev pub is_held : Option Fault → Fault → Bool
is_held None f = false
is_held (Some g) f = same_fault g f

-- a fault is held, and this one does not come before it
abbrev pub Covers : Option Fault → Fault → Type 0
Covers None f = ⊥
Covers (Some g) f = IsFalse (comes_before f g)

-- From what was held before to what is held after, where the faults that a test picks were noted. What is held after was
-- held before or is picked; and for each fault that is picked or was held something is held after, and the fault does not
-- come before it. So nothing is held after exactly where nothing was held and nothing is picked.
pub record Notes (picks : Fault → Bool) (before after : Option Fault) : Type 0 where
  pub held : (f : Fault) → after ≡ Some f → (before ≡ Some f) ⊎ IsTrue (picks f)
  pub covers : (f : Fault) → (before ≡ Some f) ⊎ IsTrue (picks f) → Covers after f

-- what is found is the first of the faults that a test picks, and nothing where there are none
abbrev pub FirstOf : (Fault → Bool) → Option Fault → Type 0
FirstOf picks None = (f : Fault) → IsFalse (picks f)
FirstOf picks (Some f) = IsFirst picks f

-- ---- how what passes note is put together

pub record NotingLaws : Type 0 where
  -- faults are noted, and then others
  pub in_turn : (p q : Fault → Bool) (a b c : Option Fault) → Notes p a b → Notes q b c → Notes (λ f. p f || q f) a c
  -- where there are no faults, nothing is noted
  pub nothing : (p : Fault → Bool) (a : Option Fault) → ((f : Fault) → IsFalse (p f)) → Notes p a a
  -- two tests that agree pick the same faults
  pub alike : (p q : Fault → Bool) (a b : Option Fault) → ((f : Fault) → p f ≡ q f) → Notes p a b → Notes q a b
  -- what was noted apart is noted as a whole
  pub apart : (p : Fault → Bool) (a b c : Option Fault) → Notes p None b → Notes (is_held b) a c → Notes p a c
  -- what is held in the end, from nothing, is the first fault
  pub first : (p : Fault → Bool) (b : Option Fault) → Notes p None b → FirstOf p b
