-- Definitions of the run-time functions: for each a list of rows and a default, and its value by the first row
-- that matches. It follows the section "Definitions" of docs/LANGUAGE.md. Rows have one version, with no
-- tag.
use Rattle.std.specs.Prelude.{ℕ, ◌==◌, ◌&&◌, Bool, true, false, List, [], ◌∷◌, filter_map, if◌then◌else◌, Option, Some, None, option_map}
use Rattle.cocoon_num.specs.Values.{Value}
use Rattle.cocoon_num.specs.Tree.{Name, FunctionDecl, Design, Pattern, literal, masked, any, Entry, a_default, a_row, DefsText}
use Rattle.cocoon_num.specs.Names.{same_name, named}
use Rattle.cocoon_types.specs.Design.{functions}
use Rattle.cocoon_num.specs.Lists.{first_of}
use Rattle.cocoon_num.specs.Rows.{has_bits, first_match}

-- a row: patterns for the arguments, and the value
pub record Row : Type 0 where
  pub patterns : List Pattern
  pub value : Value

-- what is defined of one function
pub record Table : Type 0 where
  pub function : Name
  pub rows : List Row
  pub otherwise : Value

-- The definitions. What they hold of a function is in the first table of its name.
abbrev pub Defs : Type 0
Defs = List Table

-- a pattern matches a number
abbrev pub matches : Pattern → ℕ → Bool
matches (literal w n) x = x == n
matches (masked w n v m) x = has_bits n m x
matches any x = true

-- each pattern matches its number, and there are as many
abbrev pub all_match : List Pattern → List ℕ → Bool
all_match [] [] = true
all_match (p ∷ ps) (x ∷ xs) = matches p x && all_match ps xs
all_match _ _ = false

-- the value of the first row that matches, else the default
abbrev pub look : List Row → Value → List ℕ → Value
look rows otherwise xs = first_match (λ (row : Row). all_match row.patterns xs) (λ (row : Row). row.value) rows otherwise

-- the value of a run-time function at some numbers
abbrev pub look_up : Defs → List ℕ → List ℕ → Option Value
look_up defs f xs = option_map (λ (t : Table). look t.rows t.otherwise xs) (named (λ (t : Table). t.function) f defs)

-- ---- the definitions of a text

-- the entry where it is a row of the function
abbrev pub row_of : List ℕ → Entry → Option Row
row_of f (a_row g ps v) = if same_name f g.text then Some (record { patterns = ps; value = v }) else None
row_of f _ = None

-- the value where the entry is the function's default
abbrev pub default_of : List ℕ → Entry → Option Value
default_of f (a_default g v) = if same_name f g.text then Some v else None
default_of f _ = None

-- the function's rows in the order of the text, and its default
abbrev pub runtime_table : DefsText → FunctionDecl → Option Table
runtime_table text f = elim f.body [
  | Some e ↦ None
  | None ↦ option_map (λ v. record { function = f.name; rows = filter_map (row_of f.name.text) text; otherwise = v }) (first_of (filter_map (default_of f.name.text) text))
]

-- a table for each run-time function that has a default
abbrev pub defs_of : Design → DefsText → Defs
defs_of design text = filter_map (runtime_table text) (functions design)
