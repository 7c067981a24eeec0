-- Private clauses of `counts` cite it.
-- The names of roles that were seen so far.
use Rattle.std.specs.Prelude.{◌≡◌, ℕ, ◌||◌, Bool, List, if◌then◌else◌, Option, Some, None, Vec}
use Rattle.std.specs.List.{list_any}
use Rattle.std.specs.declared.alloc.Global.{Global}
use Rattle.cocoon_num.specs.Tree.{Role}
use Rattle.cocoon_num.specs.Names.{same_name}

-- the name is among some keys
abbrev pub has_key : List (Vec ℕ Global) → List ℕ → Bool
has_key keys x = list_any (λ (k : Vec ℕ Global). same_name x k.items) keys

-- a name joins those seen, and counts where it is new
pub record SeesName (name : List ℕ) (old new : List (Vec ℕ Global)) (count : ℕ) : Type 0 where
  pub counted : count ≡ (if has_key old name then 0 else 1)
  pub keys : (x : List ℕ) → has_key new x ≡ (same_name x name || has_key old x)

-- so does that of a role, if it is one
abbrev pub Sees : Option Role → List (Vec ℕ Global) → List (Vec ℕ Global) → (count : ℕ) → Type 0
Sees None old new count = (count ≡ 0) × (new ≡ old)
Sees (Some r) old new count = SeesName r.name.text old new count
