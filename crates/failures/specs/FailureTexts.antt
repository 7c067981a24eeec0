-- Cited by the clauses of what prints failures: their text, line by line. It follows "Reports" in docs/FORMATS.md.
use Rattle.std.specs.Prelude.{ℕ, List, [], ◌∷◌, ◌++◌, codes, decimal}
use Rattle.cocoon_types.specs.Runs.{Loc}
use Rattle.refinement.specs.Sending.{flat}
use Rattle.text_lines.specs.Printing.{each_text}
use Rattle.failures.specs.Failures.{Failure}

-- ---- lists of numbers

-- a number behind a blank
abbrev pub number_text : ℕ → List ℕ
number_text n = codes " " ++ decimal n

-- some numbers, each behind a blank
abbrev pub spaced : List ℕ → List ℕ
spaced ns = each_text number_text ns

-- a list of numbers behind a blank; `-` where it is empty
abbrev pub list_text : List ℕ → List ℕ
list_text [] = codes " -"
list_text (n ∷ ns) = spaced (n ∷ ns)

-- ---- lines

-- WORD ROLE VALUES
abbrev pub place_line : (word : List ℕ) → Loc → List ℕ
place_line word at = word ++ (codes " " ++ (at.role ++ (list_text at.values ++ codes "\n")))

-- WORD NUMBERS
abbrev pub numbers_line : (word : List ℕ) → List ℕ → List ℕ
numbers_line word numbers = word ++ (list_text numbers ++ codes "\n")

-- WORD level LEVEL role ROLE leaf LEAF
abbrev pub first_line : (word : List ℕ) → (level : ℕ) → (role : List ℕ) → (leaf : ℕ) → List ℕ
first_line word level role leaf =
    word ++ (codes " level " ++ (decimal level ++ (codes " role " ++ (role ++ (codes " leaf " ++ (decimal leaf ++ codes "\n"))))))

-- where the run begins, with which packet and which choices; where it leads, and what it sends there
abbrev pub run_lines : Failure → List ℕ
run_lines f =
    place_line (codes "at") f.at
    ++ (numbers_line (codes "packet") (flat f.packet)
    ++ (numbers_line (codes "choices") f.choices
    ++ (place_line (codes "to") f.to ++ numbers_line (codes "sent") (flat f.sent))))

-- ---- texts

-- the failure of a leaf, and then a text of definitions
abbrev pub failure_text : (word : List ℕ) → (level leaf : ℕ) → Failure → (defs : List ℕ) → List ℕ
failure_text word level leaf f defs = first_line word level f.at.role leaf ++ (run_lines f ++ defs)
