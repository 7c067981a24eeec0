-- Cited by the clauses of `print_defs`: the text that is printed of entries of definitions, each on a line of its own. It follows
-- the grammar in the section "Texts" of docs/LANGUAGE.md.
use Rattle.std.specs.Prelude.{ℕ, Bool, true, false, List, [], ◌∷◌, ◌++◌, codes}
use Rattle.cocoon_num.specs.Tree.{Pattern, literal, masked, any, Entry, a_default, a_row}
use Rattle.cocoon_num.specs.Values.{Value, number, truth}
use Rattle.text_lines.specs.Printing.{literal_text}

-- true or false
abbrev pub truth_text : Bool → List ℕ
truth_text true = codes "true"
truth_text false = codes "false"

-- a number as a literal of its width
abbrev pub const_text : Value → List ℕ
const_text (number w n) = literal_text w n
const_text (truth b) = truth_text b

-- a literal, a literal under a mask, or `_`
abbrev pub pattern_text : Pattern → List ℕ
pattern_text (literal w n) = literal_text w n
pattern_text (masked w n v m) = literal_text w n ++ (codes " &&& " ++ literal_text v m)
pattern_text any = codes "_"

-- patterns with a comma before each
abbrev pub more_patterns_text : List Pattern → List ℕ
more_patterns_text [] = []
more_patterns_text (p ∷ ps) = codes ", " ++ (pattern_text p ++ more_patterns_text ps)

-- patterns, with commas between
abbrev pub patterns_text : List Pattern → List ℕ
patterns_text [] = []
patterns_text (p ∷ ps) = pattern_text p ++ more_patterns_text ps

-- an entry on its line
abbrev pub entry_text : Entry → List ℕ
entry_text (a_default f v) = codes "default " ++ (f.text ++ (codes " = " ++ (const_text v ++ codes ";\n")))
entry_text (a_row f ps v) =
    codes "define " ++ (f.text ++ (codes "(" ++ (patterns_text ps ++ (codes ") = " ++ (const_text v ++ codes ";\n")))))
