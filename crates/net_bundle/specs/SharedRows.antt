-- Rows that all switches of a network have, and texts of rows. The clauses of `WritableNet` cite it, and the private ones of
-- `row_texts`, `make` and `write`.
use Rattle.std.specs.Prelude.{◌≡◌, ℕ, List, Option, Some, None, slice_get}
use Rattle.std.specs.String.{string_bytes}
use Rattle.p4_ir.specs.P4Tree.{RowsFile}
use Rattle.p4_ir.specs.NetTree.{SwitchFiles}
use Rattle.json_forms.specs.Values.{IsJson}
use Rattle.net_bundle.specs.Bundle.{rows_text}
use Rattle.net_bundle.specs.BundleNames.{digest_of}
use Rattle.net_bundle.specs.NetJson.{rows_data}
use Rattle.net_bundle.specs.declared.row_texts.RowsText.{RowsText}
use Rattle.net_bundle.specs.declared.row_texts.RowsAt.{RowsAt}
use Rattle.net_bundle.specs.declared.row_texts.RowsAt.TheVariants.{Shared, Made}

-- this holds of the switch at an index
abbrev pub OfSwitch : List SwitchFiles → ℕ → (SwitchFiles → Type 0) → Type 0
OfSwitch switches index P = (s : SwitchFiles) → slice_get switches index ≡ Some s → P s

-- each switch has these rows
abbrev pub AllHave : RowsFile → List SwitchFiles → Type 0
AllHave rows switches = (index : ℕ) → OfSwitch switches index (λ s. s.rows ≡ rows)

-- the text of these rows, with its digest, reads as their value
pub record TextOf (text : RowsText) (rows : RowsFile) : Type 0 where
  pub bytes : text.bytes.items ≡ rows_text rows
  pub digest : string_bytes text.digest ≡ digest_of text.bytes.items
  pub reads : IsJson (rows_text rows) (rows_data rows)

-- a text that is held is that of the rows of each switch
abbrev pub TextOfAll : Option RowsText → List SwitchFiles → Type 0
TextOfAll None switches = Unit {0}
TextOfAll (Some text) switches = (index : ℕ) → OfSwitch switches index (λ s. TextOf text s.rows)

-- the text at hand
abbrev pub text_in : RowsAt → RowsText
text_in (Shared text) = text.now
text_in (Made text) = text
