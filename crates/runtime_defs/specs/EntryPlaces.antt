-- Cited by the clauses of `print_defs` and of the laws: the entries of which tables are the definitions, a place for each
-- function in the order of declaration, and their text. Of each function the default comes first, and then its rows. It
-- follows the section "Definitions" of docs/LANGUAGE.md.
use Rattle.std.specs.Prelude.{ℕ, ◌+◌, ◌-◌, ◌^◌, ◌==◌, List, [], ◌∷◌, ◌++◌, map, if◌then◌else◌, Option, Some, None}
use Rattle.cocoon_num.specs.Tree.{Pattern, literal, masked, any, Entry, a_default, a_row, DefsText, ResultKind, of_width, of_truth, FunctionDecl, Design}
use Rattle.cocoon_num.specs.Values.{Value, number, truth}
use Rattle.cocoon_num.specs.declared.bits.Bits.{Bits}
use Rattle.cocoon_num.specs.declared.fun_table.FunRow.{FunRow}
use Rattle.cocoon_num.specs.declared.fun_table.FunTable.{FunTable}
use Rattle.cocoon_types.specs.Design.{functions}
use Rattle.text_lines.specs.Printing.{each_text}
use Rattle.runtime_defs.specs.EntryTexts.{entry_text}

-- ---- entries of tables

-- the pattern of a value under a mask: a literal where all bits count, `_` where none does
abbrev pub key_pattern : (width value mask : ℕ) → Pattern
key_pattern w v m = if m == 2 ^ w - 1 then literal w v else if m == 0 then any else masked w v w m

-- those of the values of a row
abbrev pub key_patterns : (widths values masks : List ℕ) → List Pattern
key_patterns (w ∷ ws) (v ∷ vs) (m ∷ ms) = key_pattern w v m ∷ key_patterns ws vs ms
key_patterns _ _ _ = []

-- a result as a value: a truth value is kept as a number of width 1
abbrev pub result_value : ResultKind → Bits → Value
result_value (of_width w) b = number b.width b.value
result_value of_truth b = truth (b.value == 1)

-- the entry of a default
abbrev pub default_entry : FunctionDecl → Bits → Entry
default_entry f value = a_default f.name (result_value f.result value)

-- the entry of a row
abbrev pub row_entry : FunctionDecl → List ℕ → FunRow → Entry
row_entry f widths row = a_row f.name (key_patterns widths row.values row.masks) (result_value f.result row.result)

-- the default, and then the rows
abbrev pub table_entries : FunctionDecl → FunTable → List Entry
table_entries f t = default_entry f t.default ∷ map (row_entry f t.widths) t.rows

-- a function with a body has no entries
abbrev pub place_entries : FunctionDecl → Option FunTable → List Entry
place_entries f None = []
place_entries f (Some t) = table_entries f t

-- those of each function, in order
abbrev pub all_entries : List FunctionDecl → List (Option FunTable) → List Entry
all_entries (f ∷ fs) (p ∷ ps) = place_entries f p ++ all_entries fs ps
all_entries _ _ = []

-- ---- their text

-- the text of the definitions whose tables these are
abbrev pub defs_text : Design → List (Option FunTable) → List ℕ
defs_text d places = each_text entry_text (all_entries (functions d) places)

-- ---- the entries that are read

-- how many tokens a pattern has with the comma or the bracket after it
abbrev pub pattern_size : Pattern → ℕ
pattern_size (masked w n v m) = 4
pattern_size _ = 2

-- how many some patterns have
abbrev pub patterns_size : List Pattern → ℕ
patterns_size [] = 0
patterns_size (p ∷ ps) = pattern_size p + patterns_size ps

-- how many tokens an entry has
abbrev pub entry_size : Entry → ℕ
entry_size (a_default f v) = 5
entry_size (a_row f ps v) = 6 + patterns_size ps

-- the entry that begins with the token of this index: its name is the next token
abbrev pub entry_at : ℕ → Entry → Entry
entry_at i (a_default f v) = a_default (record { at = i + 1; text = f.text }) v
entry_at i (a_row f ps v) = a_row (record { at = i + 1; text = f.text }) ps v

-- entries one after the other
abbrev pub entries_from : ℕ → List Entry → DefsText
entries_from i [] = []
entries_from i (e ∷ es) = entry_at i e ∷ entries_from (i + entry_size e) es

-- the definitions whose tables these are, as they are read of their text
abbrev pub entries_of_places : Design → List (Option FunTable) → DefsText
entries_of_places d places = entries_from 0 (all_entries (functions d) places)
