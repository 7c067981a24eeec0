-- Cited by private clauses: the names and the numbers that ordered sets hold.
use Rattle.std.specs.Prelude.{◌≡◌, ℕ, ◌||◌, Bool, not, List, Vec}
use Rattle.std.specs.List.{list_any}
use Rattle.std.specs.declared.alloc.Global.{Global}
use Rattle.cocoon_num.specs.Lists.{has_number}
use Rattle.cocoon_num.specs.Names.{same_name}

-- the name is among some keys
abbrev pub has_key : List (Vec ℕ Global) → List ℕ → Bool
has_key keys x = list_any (λ (k : Vec ℕ Global). same_name x k.items) keys

-- a name joins those that are there
pub record Joins (name : List ℕ) (old new : List (Vec ℕ Global)) (is_new : Bool) : Type 0 where
  pub new_where : is_new ≡ not (has_key old name)
  pub keys : (x : List ℕ) → has_key new x ≡ (same_name x name || has_key old x)

-- the set has these numbers
pub record HasNumbers (keys numbers : List ℕ) : Type 0 where
  pub has : (n : ℕ) → has_number n keys ≡ has_number n numbers
