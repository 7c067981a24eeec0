-- Cited by the clauses of `Printer`: what a printer holds after a text was printed, and the texts of a
-- literal and of a new line. A printer
-- holds no text where memory was refused.
use Rattle.std.specs.Prelude.{◌≡◌, ℕ, List, [], ◌∷◌, ◌++◌, replicate, Option, Some, option_map, decimal}

-- what it holds is what it held before, followed by this text
pub record Prints (before : Option (List ℕ)) (text : List ℕ) (after : Option (List ℕ)) : Type 0 where
  pub whole : (all : List ℕ) → after ≡ Some all → option_map (λ bytes. bytes ++ text) before ≡ Some all

-- a new line that begins with so many blanks
abbrev pub new_line : ℕ → List ℕ
new_line indent = 10 ∷ replicate indent 32

-- a width and a value in decimal digits, with the letter `w` between
abbrev pub literal_text : ℕ → ℕ → List ℕ
literal_text width n = decimal width ++ (119 ∷ decimal n)

-- the texts of some things, one after the other
abbrev pub each_text : {A : Type 0} → (A → List ℕ) → List A → List ℕ
each_text f [] = []
each_text f (x ∷ xs) = f x ++ each_text f xs
