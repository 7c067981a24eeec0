-- Cited by private clauses and by the invariant of `Defs`: tables that are looked up by the values of their rows.
use Rattle.std.specs.Prelude.{◌≡◌, ℕ, ◌-◌, ◌^◌, ◌==◌, ◌&&◌, Bool, true, false, List, [], ◌∷◌, All, map, Option, Some, None}
use Rattle.cocoon_num.specs.Values.{fits_width}
use Rattle.cocoon_num.specs.declared.fun_table.FunRow.{FunRow}
use Rattle.cocoon_num.specs.declared.fun_table.FunTable.{FunTable}
use Rattle.numbering.specs.KeyPlaces.{Holds}
use Rattle.numbering.specs.declared.key_table.KeyTable.{KeyTable}

-- each value fits its width, and its mask compares all bits of this width
abbrev pub compares_all : (widths values masks : List ℕ) → Bool
compares_all [] [] [] = true
compares_all (w ∷ ws) (v ∷ vs) (m ∷ ms) = (fits_width w v && (m == 2 ^ w - 1)) && compares_all ws vs ms
compares_all _ _ _ = false

-- so it is in a row
abbrev pub ComparesAll : List ℕ → FunRow → Type 0
ComparesAll widths row = compares_all widths row.values row.masks ≡ true

abbrev pub row_keys : List FunRow → List (List ℕ)
row_keys rows = map (λ (row : FunRow). row.values) rows

-- keys that are kept are those of the table's rows, each of which compares all bits
abbrev pub IsKeyed : FunTable → Option KeyTable → Type 0
IsKeyed t None = Unit {0}
IsKeyed t (Some keys) = All (ComparesAll t.widths) t.rows × Holds keys (row_keys t.rows)

-- so it is where there is a table
abbrev pub MayBeKeyed : Option FunTable → Option KeyTable → Type 0
MayBeKeyed None keys = Unit {0}
MayBeKeyed (Some t) keys = IsKeyed t keys
