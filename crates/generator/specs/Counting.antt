-- Cited by the clause of `count_delivered`, and by what speaks of its answer: how many numbers have a property.
use Rattle.std.specs.Prelude.{◌≡◌, ◌⊎◌, ℕ, zero, suc}

-- of the numbers below `all` so many have it
abbrev pub IsCount : (Has : ℕ → Type 0) → (all count : ℕ) → Type 0
IsCount Has zero count = count ≡ 0
IsCount Has (suc n) count =
    (Has n × ((fewer : ℕ) × (count ≡ suc fewer) × IsCount Has n fewer))
    ⊎ ((Has n → ⊥) × IsCount Has n count)
