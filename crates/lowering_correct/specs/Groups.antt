-- Cited by the clauses of `lower` and by all laws of lowering: the groups of the functions that stand under forks. It follows
-- "Lowering and the P4 text" in docs/FORMATS.md. Each row of such a function compares all bits.
use Rattle.std.specs.Prelude.{ℕ, suc, ◌==◌, ◌&&◌, nat_lt, List, [], ◌∷◌, ◌++◌, map, flat_map, if◌then◌else◌, Option, Some, None}
use Rattle.cocoon_num.specs.FunTables.{looked}
use Rattle.cocoon_num.specs.Lists.{is_one_of}
use Rattle.cocoon_num.specs.Names.{same_name}
use Rattle.cocoon_num.specs.Tree.{FunctionDecl, Design}
use Rattle.cocoon_num.specs.declared.fun_table.FunRow.{FunRow}
use Rattle.cocoon_num.specs.declared.fun_table.FunTable.{FunTable}
use Rattle.cocoon_types.specs.DefsRules.{fork_calls}
use Rattle.cocoon_types.specs.Design.{functions}
use Rattle.declarations.specs.NameNumbers.{firsts}
use Rattle.runtime_defs.specs.Places.{Places}

-- ---- numbers of a row

-- all but the last, which is the choice
abbrev pub before_last : List ℕ → List ℕ
before_last [] = []
before_last (n ∷ []) = []
before_last (n ∷ m ∷ ns) = n ∷ before_last (m ∷ ns)

abbrev pub last_of : List ℕ → ℕ
last_of [] = 0
last_of (n ∷ []) = n
last_of (n ∷ m ∷ ns) = last_of (m ∷ ns)

-- a number among ascending ones, each once
abbrev pub put_in : ℕ → List ℕ → List ℕ
put_in x [] = x ∷ []
put_in x (y ∷ ys) = if nat_lt x y then x ∷ y ∷ ys else (if x == y then y ∷ ys else y ∷ put_in x ys)

abbrev pub ascending : List ℕ → List ℕ
ascending [] = []
ascending (x ∷ xs) = put_in x (ascending xs)

-- ---- the groups of one function

-- a group: the arguments before the choice, and the choices at which the function is true
pub record Grouped : Type 0 where
  pub args : List ℕ
  pub members : List ℕ

-- the choice of a row, where the row has these arguments and the function is true there
abbrev pub true_choice : FunTable → List ℕ → FunRow → List ℕ
true_choice t args row =
    if same_name args (before_last row.values) && ((looked t row.values).value == 1) then last_of row.values ∷ [] else []

abbrev pub members_at : FunTable → List ℕ → List ℕ
members_at t args = ascending (flat_map (true_choice t args) t.rows)

-- a group has a member
abbrev pub where_members : List ℕ → List ℕ → List Grouped
where_members args [] = []
where_members args (m ∷ ms) = record { args = args; members = m ∷ ms } ∷ []

-- in the order of the first rows of their arguments
abbrev pub table_groups : FunTable → List Grouped
table_groups t = flat_map (λ args. where_members args (members_at t args)) (firsts (map (λ (row : FunRow). before_last row.values) t.rows))

-- ---- the groups of all functions

-- a group of the function of a name
pub record ForkGroup : Type 0 where
  pub function : List ℕ
  pub grouped : Grouped

abbrev pub groups_at : FunctionDecl → Option FunTable → List ForkGroup
groups_at f None = []
groups_at f (Some t) = map (λ g. record { function = f.name.text; grouped = g }) (table_groups t)

-- those of functions that stand under forks, in the order of declaration
abbrev pub groups_of : List (List ℕ) → List FunctionDecl → Places → List ForkGroup
groups_of forked [] places = []
groups_of forked (f ∷ fs) [] = []
groups_of forked (f ∷ fs) (t ∷ places) =
    (if is_one_of forked f.name.text then groups_at f t else []) ++ groups_of forked fs places

abbrev pub fork_groups : Design → Places → List ForkGroup
fork_groups d places = groups_of (fork_calls d) (functions d) places

-- ---- their numbers

-- the number of the group of a function at some arguments, where they are numbered from k; else 0
abbrev pub number_from : ℕ → List ForkGroup → List ℕ → List ℕ → ℕ
number_from k [] f args = 0
number_from k (g ∷ gs) f args =
    if same_name f g.function && same_name args g.grouped.args then k else number_from (suc k) gs f args

abbrev pub group_number : Design → Places → List ℕ → List ℕ → ℕ
group_number d places f args = number_from 1 (fork_groups d places) f args
