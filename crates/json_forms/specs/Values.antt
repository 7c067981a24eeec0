-- JSON values, as the crate serde_json has them, of numbers and lists, and the bytes that are read as a value. Cited by the
-- clauses of what writes and of what reads JSON files, and by the definitions of these files.
use Rattle.std.specs.Prelude.{◌≡◌, ℕ, ℤ, List, map, Some, IsUtf8}
use Rattle.serde_json.specs.Data.{unsigned, Data, number, array}
use Rattle.serde_json.specs.Find.{of_integer}
use Rattle.serde_json.specs.Read.{read}
use Rattle.serde_json.specs.View.{items_of}

abbrev pub number_data : ℕ → Data
number_data n = number (unsigned n)

-- a number that may be negative
abbrev pub integer_data : ℤ → Data
integer_data z = number (of_integer z)

-- an array of these values
abbrev pub array_data : {A : Type 0} → (A → Data) → List A → Data
array_data f xs = array (items_of (map f xs))

abbrev pub these : List Data → Data
these ds = array (items_of ds)

-- the bytes are JSON of this value
abbrev pub IsJson : List ℕ → Data → Type 0
IsJson bytes d = IsUtf8 bytes × (read bytes ≡ Some d)
