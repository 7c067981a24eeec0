-- Cited by private clauses: the types of the definitions that those of the code stand for, and where a statement stands.
use Rattle.std.specs.Prelude.{ℕ, ◌==◌, Bool, false, List, Option, Some, option_map, slice_get}
use Rattle.cocoon_num.specs.Sorts as sorts
use Rattle.p4_ir.specs.P4Tree.{P4Field, Program}
use Rattle.p4_ir.specs.P4Kinds.{Within}
use Rattle.p4_kinds.specs.declared.sort.Sort.{Sort}
use Rattle.p4_kinds.specs.declared.sort.Sort.TheVariants.{Bits, Truth}

abbrev pub sort_value : Sort → sorts.Sort
sort_value (Bits w) = sorts.bits_sort w
sort_value Truth = sorts.truth_sort

-- the type, if there is one
abbrev pub sort_of : Option Sort → Option sorts.Sort
sort_of found = option_map sort_value found

-- both are numbers, of one width
abbrev pub are_alike : Option sorts.Sort → Option sorts.Sort → Bool
are_alike (Some (sorts.bits_sort v)) (Some (sorts.bits_sort w)) = v == w
are_alike _ _ = false

-- the width of the field with this index
abbrev pub width_in : List P4Field → ℕ → Option ℕ
width_in fields i = option_map (λ (f : P4Field). f.width) (slice_get fields i)

abbrev pub within : Program → (in_ingress : Bool) → (tables : List ℕ) → Within
within p in_ingress tables = record { program = p; in_ingress = in_ingress; tables = tables }
