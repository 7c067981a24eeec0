-- Rows that are tried in order: the first that matches decides. Rows of values and masks match numbers bit by bit. The
-- tables of designs and of P4 programs both look up by it. It follows the section "Definitions" of docs/LANGUAGE.md,
-- and "One visit" in docs/FORMATS.md.
use Rattle.std.specs.Prelude.{ℕ, ◌==◌, ◌&&◌, Bool, true, false, List, [], ◌∷◌, bit_and, if◌then◌else◌}

-- the number has the value in the bits of the mask
abbrev pub has_bits : (value mask : ℕ) → ℕ → Bool
has_bits value mask x = bit_and x mask == bit_and value mask

-- each number has its value in the bits of its mask, and there are as many of each
abbrev pub values_match : (values masks numbers : List ℕ) → Bool
values_match [] [] [] = true
values_match (v ∷ vs) (m ∷ ms) (x ∷ xs) = has_bits v m x && values_match vs ms xs
values_match _ _ _ = false

-- what the first row that matches gives, else the default
abbrev pub first_match : {R A : Type 0} → (matches : R → Bool) → (gives : R → A) → List R → (otherwise : A) → A
first_match matches gives [] otherwise = otherwise
first_match matches gives (row ∷ rows) otherwise = if matches row then gives row else first_match matches gives rows otherwise
