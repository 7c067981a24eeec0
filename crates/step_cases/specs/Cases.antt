-- Cited by the clauses of `read_case`, and by what speaks of a case of a design. What the bytes of a case say, or which
-- line is not of its form. It follows the section "Cases" of docs/FORMATS.md.
use Rattle.std.specs.Prelude.{ℕ, ◌+◌, ◌&&◌, Bool, true, false, List, [], ◌∷◌, Option, Some, None, option_and_then, option_map, is_some, Result, Ok, Err, slice_get}
use Rattle.cocoon_num.specs.Tokens.{kept_if}
use Rattle.cocoon_num.specs.Tree.{Role, Design}
use Rattle.cocoon_num.specs.Values.{fits_width}
use Rattle.cocoon_types.specs.Design.{role_at, widths_of}
use Rattle.cocoon_types.specs.Runs.{Loc}
use Rattle.cocoon_resolve.specs.Readers.{field_widths}
use Rattle.text_lines.specs.Lines.{Line, filled_lines, line_count, parts_of}
use Rattle.text_lines.specs.Numbers.{list_of}

-- a location, the values of all fields, header by header, and choices
pub record Case : Type 0 where
  pub at : Loc
  pub fields : List ℕ
  pub choices : List ℕ

-- as many numbers as widths, and each fits its own
abbrev pub all_fit_widths : (widths : List ℕ) → List ℕ → Bool
all_fit_widths [] [] = true
all_fit_widths (w ∷ ws) (n ∷ ns) = fits_width w n && all_fit_widths ws ns
all_fit_widths ws ns = false

-- ---- the forms of the three lines, by their parts

-- these are values of the role, which is not the sink: it has a body
abbrev pub may_act : Role → List ℕ → Bool
may_act role values = is_some role.body && all_fit_widths (widths_of role.params) values

-- a name of a role that is there at this level, and its values
abbrev pub location_in : (level : ℕ) → Design → List (List ℕ) → Option Loc
location_in level d [] = None
location_in level d (name ∷ parts) =
    option_and_then (λ role. option_and_then (λ values.
    kept_if (may_act role values) (record { role = name; values = values }))
    (list_of parts)) (role_at level d name)

-- the values of all fields of the design
abbrev pub fields_in : Design → List (List ℕ) → Option (List ℕ)
fields_in d parts = option_and_then (λ fields. kept_if (all_fit_widths (field_widths d) fields) fields) (list_of parts)

-- ---- the three lines

-- what was read, or that the line of this number is not of its form
abbrev pub or_line : {A : Type 0} → (number : ℕ) → Option A → Result A ℕ
or_line number None = Err number
or_line number (Some x) = Ok x

-- The line of this index among those that are not empty, by its form. Where there is none, it counts as the line after the
-- file's last.
abbrev pub line_at : {A : Type 0} → (List (List ℕ) → Option A) → (index : ℕ) → List Line → (count : ℕ) → Result A ℕ
line_at form index lines count =
    elim (slice_get lines index) [
      | None ↦ Err (count + 1)
      | Some line ↦ or_line line.number (form (parts_of line.bytes))
    ]

-- the number of the line of this index, where there is one
abbrev pub number_at : (index : ℕ) → List Line → Option ℕ
number_at index lines = option_map (λ (line : Line). line.number) (slice_get lines index)

-- The case that three lines and no further one are; else the first line that is not of its form.
abbrev pub case_by : Result Loc ℕ → Result (List ℕ) ℕ → Result (List ℕ) ℕ → Option ℕ → Result Case ℕ
case_by (Ok at) (Ok fields) (Ok choices) None = Ok (record { at = at; fields = fields; choices = choices })
case_by (Ok at) (Ok fields) (Ok choices) (Some line) = Err line
case_by (Ok at) (Ok fields) (Err line) further = Err line
case_by (Ok at) (Err line) choices further = Err line
case_by (Err line) fields choices further = Err line

-- what these lines say
abbrev pub case_in : (level : ℕ) → Design → List Line → (count : ℕ) → Result Case ℕ
case_in level d lines count =
    case_by (line_at (location_in level d) 0 lines count) (line_at (fields_in d) 1 lines count)
    (line_at list_of 2 lines count) (number_at 3 lines)

-- The case that the bytes of a file are, at a level of a design; or else the number of the first line that is not of its
-- form.
unfoldable pub case_of : (level : ℕ) → Design → List ℕ → Result Case ℕ
case_of level d bytes = case_in level d (filled_lines bytes) (line_count bytes)
