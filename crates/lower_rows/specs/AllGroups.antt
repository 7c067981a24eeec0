-- Cited by the clauses of `fork_groups` and of rows: the groups of the definitions that those of the code stand for.
use Rattle.std.specs.Prelude.{◌≡◌, ℕ, true, List, [], All, if◌then◌else◌, Option, Some, None, slice_get}
use Rattle.cocoon_num.specs.Lists.{is_one_of}
use Rattle.cocoon_num.specs.Tree.{FunctionDecl, Design}
use Rattle.cocoon_num.specs.declared.fun_table.FunTable.{FunTable}
use Rattle.cocoon_types.specs.DefsRules.{fork_calls}
use Rattle.cocoon_types.specs.Design.{functions}
use Rattle.lowering_correct.specs.Groups.{groups_at}
use Rattle.lowering_correct.specs.Groups as spec
use Rattle.lower_rows.specs.Grouping.{grouped_of}
use Rattle.lower_rows.specs.Sets.{IsDecided}
use Rattle.lower_rows.specs.declared.groups.ForkGroup.{ForkGroup}

-- the group
abbrev pub fork_group_of : ForkGroup → spec.ForkGroup
fork_group_of g = record { function = g.function.now; grouped = grouped_of g.grouped }

-- a group of the function of this name
abbrev pub of_function : List ℕ → spec.Grouped → spec.ForkGroup
of_function f g = record { function = f; grouped = g }

-- those of one function, where it stands under forks
abbrev pub function_groups : Design → FunctionDecl → Option FunTable → List spec.ForkGroup
function_groups d f t = if is_one_of (fork_calls d) f.name.text then groups_at f t else []

-- those of the function of a number
abbrev pub place_groups : Design → ℕ → Option FunTable → List spec.ForkGroup
place_groups d n t = elim (slice_get (functions d) n) [ None ↦ [] | Some f ↦ function_groups d f t ]

-- where the function stands under forks, the first row of its values says what the table gives there
abbrev pub IsDecidedAt : Design → FunctionDecl → FunTable → Type 0
IsDecidedAt d f t = is_one_of (fork_calls d) f.name.text ≡ true → All (IsDecided t) t.rows
