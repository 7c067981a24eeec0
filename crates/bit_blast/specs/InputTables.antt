-- Cited by private clauses: the bits of inputs in a table.
use Rattle.std.specs.Prelude.{◌≡◌, ℕ, ◌<◌, ◌≤◌, List, length, Some, slice_get}
use Rattle.bv_terms.specs.declared.node.Node.{Node}
use Rattle.bv_terms.specs.declared.node.Node.TheVariants.{Input}
use Rattle.bv_terms.specs.Arenas.{IsArena, width_at}
use Rattle.bit_blast.specs.declared.table.Table.{Table}
use Rattle.bit_blast.specs.Blasting.{InputRow}
use Rattle.bit_blast.specs.Tables.{bits_at}

-- a term has no more bits in the table than it is wide
pub record CanMap (nodes : List Node) (table : Table) : Type 0 where
  pub arena : IsArena nodes
  pub few : (k : ℕ) → k < length nodes → length (bits_at table k) ≤ width_at nodes k

-- the row of the input's term
abbrev pub IsInputRow : List Node → Table → ℕ → InputRow → Type 0
IsInputRow nodes table i row = (k w : ℕ) → slice_get nodes k ≡ Some (Input i w) → row ≡ record { width = w; bits = bits_at table k }

-- the rows of the first n inputs
pub record IsMapped (nodes : List Node) (table : Table) (n : ℕ) (rows : List InputRow) : Type 0 where
  pub count : length rows ≡ n
  pub each_ : (i : ℕ) (row : InputRow) → slice_get rows i ≡ Some row → IsInputRow nodes table i row
