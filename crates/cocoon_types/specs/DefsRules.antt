-- The rules that definitions keep, as the list of their faults in order; the first is the one that is reported.
-- It follows the section "Definitions" of docs/LANGUAGE.md; the limit on rows is not among them. Optional headers are absent.
use Rattle.std.specs.Prelude.{◌≡◌, ℕ, ◌==◌, ◌&&◌, ◌||◌, Bool, true, false, not, List, [], ◌∷◌, ◌++◌, flat_map, filter_map, if◌then◌else◌, Option, Some, None, is_some, option_and_then, option_to_list}
use Rattle.std.specs.List.{list_all}
use Rattle.cocoon_num.specs.Values.{Value, number, truth}
use Rattle.cocoon_num.specs.Tree.{Name, Expr, call, binary, fork, FunctionDecl, Role, Design, Pattern, literal, masked, any, Entry, a_default, a_row, DefsText}
use Rattle.cocoon_num.specs.Names.{named}
use Rattle.cocoon_num.specs.Lists.{is_one_of}
use Rattle.cocoon_num.specs.Sorts.{Sort, bits_sort, truth_sort, same_sort}
use Rattle.cocoon_types.specs.Design.{functions, widths_of}
use Rattle.cocoon_types.specs.Typing.{result_sort}
use Rattle.cocoon_types.specs.Sites.{StmtSite}
use Rattle.cocoon_types.specs.LastLevel.{called, of_host, switch_roles, into_stmts}

-- a fault of definitions, with the token index of its entry's name; a missing default with the function's name
pub data DefsFault : Type 0 where
  unknown_function wrong_row two_defaults : (at : ℕ) → DefsFault
  no_default : (f : List ℕ) → DefsFault
  guard_rows fork_rows : (at : ℕ) → DefsFault

-- ---- one entry

-- a pattern has the width of its parameter; of a masked one both literals have
abbrev pub pattern_fits : Pattern → ℕ → Bool
pattern_fits (literal v n) w = v == w
pattern_fits (masked v n u m) w = (v == w) && (u == w)
pattern_fits any w = true

-- as many patterns as parameters, each of its width
abbrev pub patterns_fit : List Pattern → List ℕ → Bool
patterns_fit [] [] = true
patterns_fit (p ∷ ps) (w ∷ ws) = pattern_fits p w && patterns_fit ps ws
patterns_fit _ _ = false

-- the type of a value
abbrev pub sort_of_value : Value → Sort
sort_of_value (number w n) = bits_sort w
sort_of_value (truth b) = truth_sort

-- the value has the type of the function's result
abbrev pub value_fits : FunctionDecl → Value → Bool
value_fits f v = same_sort (result_sort f.result) (sort_of_value v)

-- an entry's patterns and value are those of its function
abbrev pub entry_fits : FunctionDecl → Entry → Bool
entry_fits f (a_default g v) = value_fits f v
entry_fits f (a_row g ps v) = patterns_fit ps (widths_of f.params) && value_fits f v

-- the function that an entry names
abbrev pub entry_function : Entry → Name
entry_function (a_default f v) = f
entry_function (a_row f ps v) = f

-- the run-time function of this name, which is one without a body
abbrev pub runtime_named : Design → List ℕ → Option FunctionDecl
runtime_named d f = option_and_then (λ (x : FunctionDecl). elim x.body [ None ↦ Some x | Some e ↦ None ]) (named (λ (x : FunctionDecl). x.name) f (functions d))

-- ---- the entries in order

-- a wrong row, if a test fails
abbrev pub row_faults : ℕ → Bool → List DefsFault
row_faults at fits = if fits then [] else wrong_row at ∷ []

-- a default of a function that has one already
abbrev pub default_faults : List (List ℕ) → Entry → List DefsFault
default_faults seen (a_default f v) = if is_one_of seen f.text then two_defaults f.at ∷ [] else []
default_faults seen (a_row f ps v) = []

-- the faults of one entry, where these functions have a default already
abbrev pub entry_faults : Design → List (List ℕ) → Entry → List DefsFault
entry_faults d seen e = elim (runtime_named d (entry_function e).text) [
  | None ↦ unknown_function (entry_function e).at ∷ []
  | Some f ↦ row_faults (entry_function e).at (entry_fits f e) ++ default_faults seen e
]

-- the function of which an entry is the default
abbrev pub default_function : Entry → Option (List ℕ)
default_function e = elim e [ a_default f v ↦ Some f.text | _ ↦ None ]

-- the faults of the entries, in the order of the text
abbrev pub entries_faults : Design → List (List ℕ) → List Entry → List DefsFault
entries_faults d seen [] = []
entries_faults d seen (e ∷ es) =
    entry_faults d seen e ++ entries_faults d (option_to_list (default_function e) ++ seen) es

-- ---- defaults

-- the functions that have a default
abbrev pub defaulted : List Entry → List (List ℕ)
defaulted es = filter_map default_function es

-- the run-time functions without a default, in the order of declaration
abbrev pub missing_defaults : Design → DefsText → List DefsFault
missing_defaults d es =
    flat_map (λ (f : FunctionDecl). if is_some f.body || is_one_of (defaulted es) f.name.text then [] else no_default f.name.text ∷ []) (functions d)

-- ---- literal rows

-- the function that a guard names
abbrev pub guard_call : Expr → List (List ℕ)
guard_call e = elim e [ call at f es ↦ f.text ∷ [] | binary at op a b ↦ called a ∷ [] | _ ↦ [] ]

-- the functions of the forks of the first switch role at the last level
abbrev pub fork_calls : Design → List (List ℕ)
fork_calls d = flat_map (λ (site : StmtSite). elim site.s [ fork at x w e b ↦ called e ∷ [] | _ ↦ [] ]) (into_stmts d)

-- the functions of the guards of hosts and of switches
abbrev pub guard_calls : Design → List (List ℕ)
guard_calls d = of_host d (λ h e s. guard_call e.guard) ++ flat_map (λ (r : Role). guard_call r.guard) (switch_roles d)

-- the pattern is a literal
abbrev pub is_literal : Pattern → Bool
is_literal p = elim p [ literal w n ↦ true | _ ↦ false ]

-- the value is false
abbrev pub is_false : Value → Bool
is_false v = elim v [ truth b ↦ not b | _ ↦ false ]

-- an entry with literals alone, or the default false
abbrev pub is_literal_entry : Entry → Bool
is_literal_entry (a_default f v) = is_false v
is_literal_entry (a_row f ps v) = list_all is_literal ps

-- the entries of these functions that are not so
abbrev pub other_entries : List (List ℕ) → (ℕ → DefsFault) → List Entry → List DefsFault
other_entries fs fault es =
    flat_map (λ e. if is_one_of fs (entry_function e).text && not (is_literal_entry e) then fault (entry_function e).at ∷ [] else []) es

-- ---- all

-- all faults in the order of report: of the entries, of defaults, of the rows of guards, of the rows of forks
abbrev pub defs_faults : Design → DefsText → List DefsFault
defs_faults d es =
    entries_faults d [] es ++ missing_defaults d es ++ other_entries (guard_calls d) guard_rows es ++ other_entries (fork_calls d) fork_rows es

-- the definitions have no fault
abbrev pub DefsFit : Design → DefsText → Type 0
DefsFit d es = defs_faults d es ≡ []
