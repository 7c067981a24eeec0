-- A word among some. The clause of `first_same` cites it.
use Rattle.std.specs.Prelude.{◌≡◌, ℕ, true, false, List, map, Option, Some, None}
use Rattle.cocoon_num.specs.Lists.{is_one_of}

-- the word with these bytes among some, or there is none
abbrev pub IsAmong : {W : Type 0} → (W → List ℕ) → List W → List ℕ → Option W → Type 0
IsAmong text_of words run None = is_one_of (map text_of words) run ≡ false
IsAmong text_of words run (Some w) = (text_of w ≡ run) × (is_one_of (map text_of words) run ≡ true)
