-- Cited by the contract of `first_hidden`.
use Rattle.std.specs.Prelude.{◌≡◌, ℕ, ◌≤◌, true, List, [], Option, Some, None}
use Rattle.cocoon_num.specs.Lists.{has_number}

-- the least of some numbers, if there are any
abbrev pub IsLeast : Option ℕ → List ℕ → Type 0
IsLeast None ns = ns ≡ []
IsLeast (Some n) ns = (has_number n ns ≡ true) × ((m : ℕ) → has_number m ns ≡ true → n ≤ m)
