-- Cited by private clauses: which functions a set of the code holds, and the functions of guards and of forks as the
-- code finds them.
use Rattle.std.specs.Prelude.{◌≡◌, ℕ, ◌||◌, Bool, true, false, List, [], ◌∷◌, ◌++◌, if◌then◌else◌, is_some, not, Option, Some, None, option_map, option_and_then, slice_get, unwrap_or}
use Rattle.cocoon_num.specs.Lists.{is_one_of}
use Rattle.cocoon_num.specs.Tree.{FunctionDecl, Role, HostDecl, Stmt, if_, fork, Block, no_stmts, stmt, DefsText, Design}
use Rattle.cocoon_types.specs.DefsRules.{DefsFault, two_defaults, no_default, guard_rows, fork_rows, entry_function, guard_call, guard_calls, fork_calls, entries_faults, other_entries, defaulted}
use Rattle.cocoon_types.specs.Design.{host_decl, last_level, role_at, switch_decl}
use Rattle.cocoon_types.specs.LastLevel.{called}
use Rattle.declarations.specs.Declares.{function_number}
use Rattle.runtime_defs.specs.declared.fault.DefsFault.{DefsFault as Fault}
use Rattle.runtime_defs.specs.declared.function_set.FunctionSet.{FunctionSet}
use Rattle.runtime_defs.specs.Faults.{IsFirst}

-- ---- sets

-- the flag of an index; one past the end is false
abbrev pub has_flag : List Bool → ℕ → Bool
has_flag flags i = unwrap_or (slice_get flags i) false

-- of the design's functions, the set has those that are among these names
abbrev pub Holds : Design → List (List ℕ) → FunctionSet → Type 0
Holds d fs set = (x : List ℕ) (n : ℕ) → function_number d x ≡ Some n → has_flag set.flags.items n ≡ is_one_of fs x

-- ---- entries

-- a second default at a place, or no fault
abbrev pub if_second : Bool → ℕ → List DefsFault
if_second b at = if b then two_defaults at ∷ [] else []

-- the entries are of functions of the design
abbrev pub AreKnown : Design → DefsText → Type 0
AreKnown d [] = Unit {0}
AreKnown d (e ∷ es) = (is_some (function_number d (entry_function e).text) ≡ true) × AreKnown d es

-- the first fault of the entries is this; where there is none the set has the functions with a default
pub record EntriesRead (d : Design) (es : DefsText) (set : FunctionSet) (fault : Option Fault) : Type 0 where
  pub first : IsFirst d (entries_faults d [] es) fault
  pub defaults : fault ≡ None → Holds d (defaulted es) set

-- whether a function is defined at run time and is none of these, which have a default
abbrev pub is_missing : List (List ℕ) → FunctionDecl → Bool
is_missing fs f = not (is_some f.body || is_one_of fs f.name.text)

-- the fault of a function, where these have a default
abbrev pub missing_of : List (List ℕ) → FunctionDecl → List DefsFault
missing_of fs f = if is_some f.body || is_one_of fs f.name.text then [] else no_default f.name.text ∷ []

-- the faults of the rows of guards
abbrev pub guard_faults : Design → DefsText → List DefsFault
guard_faults d es = other_entries (guard_calls d) guard_rows es

-- and of forks
abbrev pub fork_faults : Design → DefsText → List DefsFault
fork_faults d es = other_entries (fork_calls d) fork_rows es

-- ---- guards

-- the entry role of hosts at level 0, where the sink is there, too
abbrev pub entry_role : Design → Option Role
entry_role d = option_and_then (λ (h : HostDecl).
    option_and_then (λ (e : Role). option_map (λ _. e) (role_at 0 d h.sink.text)) (role_at 0 d h.entry.text)) (host_decl d)

-- a role at the last level
abbrev pub last_role : Design → List ℕ → Option Role
last_role d x = role_at (last_level d) d x

-- the function that the guard of a role calls
abbrev pub role_guard : Option Role → List (List ℕ)
role_guard role = elim role [ None ↦ [] | Some r ↦ guard_call r.guard ]

-- those of the two switch roles, the second first
abbrev pub switch_guards : Design → List (List ℕ)
switch_guards d = elim (switch_decl d) [
  | None ↦ []
  | Some s ↦ role_guard (last_role d s.out.text) ++ role_guard (last_role d s.into.text)
]

-- ---- forks

abbrev mutual
  -- the functions of the forks of a statement and of its blocks, the last first
  pub forks_of : Stmt → List (List ℕ)
  forks_of (if_ at e a b) = forks_in b ++ forks_in a
  forks_of (fork at x w e b) = forks_in b ++ called e ∷ []
  forks_of _ = []

  -- those of a block
  pub forks_in : Block → List (List ℕ)
  forks_in no_stmts = []
  forks_in (stmt first rest) = forks_in rest ++ forks_of first

-- those of a role's body
abbrev pub role_forks : Option Role → List (List ℕ)
role_forks role = elim role [ None ↦ [] | Some r ↦ elim r.body [ None ↦ [] | Some b ↦ forks_in b ] ]

-- those of the first switch role
abbrev pub switch_forks : Design → List (List ℕ)
switch_forks d = elim (switch_decl d) [ None ↦ [] | Some s ↦ role_forks (last_role d s.into.text) ]
