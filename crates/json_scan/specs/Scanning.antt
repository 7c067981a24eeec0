-- What is read of the tokens of a JSON text, a value at a time, without the value of the whole text. The clauses of what reads
-- so cite it. The values are those of the crate serde_json, over the grammar of the crate json.
use Rattle.std.specs.Prelude.{◌≡◌, ℕ, suc, List, ◌∷◌, length, Option, Some, None}
use Rattle.json.specs.Token.{Token, begin_array, begin_object}
use Rattle.json.specs.Json.{value, items, members}
use Rattle.serde_json.specs.Data.{Data, number, Items, Members, no_members}
use Rattle.serde_json.specs.Find.{as_array, as_number, as_object}
use Rattle.serde_json.specs.Read.{converted, of_json, of_items, of_members}
use Rattle.json_scan.specs.Numbers.{num_of}
use Rattle.json_scan.specs.declared.start.Start.{Start}
use Rattle.json_scan.specs.declared.start.Start.TheVariants.{Array, Object, Number, Other}

-- the value that these tokens begin with, nested no deeper than the number, and the tokens behind it
abbrev pub read_value : ℕ → List Token → Option (Data × List Token)
read_value depth ts = converted of_json (value depth ts)

-- the items up to the bracket that closes an array
abbrev pub read_items : ℕ → List Token → Option (Items × List Token)
read_items depth ts = converted of_items (items (value depth) (length ts) ts)

-- the members up to the brace that closes an object
abbrev pub read_members : ℕ → List Token → Option (Members × List Token)
read_members depth ts = converted (λ ms. of_members ms no_members) (members (value depth) (length ts) ts)

-- the tokens `ts` begin with a value of which f gives a, and `rest` is behind it
pub record Reads {A : Type 0} (f : Data → A) (depth : ℕ) (ts : List Token) (a : A) (rest : List Token) : Type 0 where
  pub found : Data
  pub reads : read_value depth ts ≡ Some (found, rest)
  pub is : f found ≡ a

-- the same of the items and of the members
pub record ReadsItems {A : Type 0} (f : Items → A) (depth : ℕ) (ts : List Token) (a : A) (rest : List Token) : Type 0 where
  pub items : Items
  pub reads : read_items depth ts ≡ Some (items, rest)
  pub is : f items ≡ a

pub record ReadsMembers {A : Type 0} (f : Members → A) (depth : ℕ) (ts : List Token) (a : A) (rest : List Token) : Type 0 where
  pub members : Members
  pub reads : read_members depth ts ≡ Some (members, rest)
  pub is : f members ≡ a

-- there is a value, and `rest` is behind it
abbrev pub Passes : ℕ → List Token → List Token → Type 0
Passes depth ts rest = (d : Data) × (read_value depth ts ≡ Some (d, rest))

-- the same of the items and of the members
abbrev pub PassesItems : ℕ → List Token → List Token → Type 0
PassesItems depth ts rest = (ds : Items) × (read_items depth ts ≡ Some (ds, rest))

abbrev pub PassesMembers : ℕ → List Token → List Token → Type 0
PassesMembers depth ts rest = (ms : Members) × (read_members depth ts ≡ Some (ms, rest))

-- neither an array, nor an object, nor a number
abbrev pub IsOther : Data → Type 0
IsOther d = (as_array d ≡ None) × (as_object d ≡ None) × (as_number d ≡ None)

-- what was passed of a value: the bracket that opens it, or all of it
abbrev pub Starts : ℕ → List Token → Start → List Token → Type 0
Starts depth ts (Array within) rest = (depth ≡ suc within) × (ts ≡ begin_array ∷ rest)
Starts depth ts (Object within) rest = (depth ≡ suc within) × (ts ≡ begin_object ∷ rest)
Starts depth ts (Number n) rest = read_value depth ts ≡ Some (number (num_of n), rest)
Starts depth ts Other rest = (d : Data) × (read_value depth ts ≡ Some (d, rest)) × IsOther d
