-- Cited by the clauses of the walk over roles: which faults stand in the body of a role at the last level, and what is
-- noted once the bodies of some roles were walked.
use Rattle.std.specs.Prelude.{ℕ, ◌||◌, Bool, List, [], ◌++◌, map, flat_map, filter_map, if◌then◌else◌, Option, Some, None, option_and_then}
use Rattle.std.specs.List.{list_any}
use Rattle.cocoon_num.specs.Tree.{Name, Stmt, Param, Role, Decl, Refine, Design}
use Rattle.cocoon_num.specs.Names.{same_name}
use Rattle.cocoon_num.specs.Lists.{first_of}
use Rattle.cocoon_types.specs.Design.{as_role, role_at, host_decl, switch_decl, last_level}
use Rattle.cocoon_types.specs.FirstFault.{Fault}
use Rattle.cocoon_types.specs.FormRules.{is_wire}
use Rattle.cocoon_types.specs.Noting.{Notes}
use Rattle.cocoon_types.specs.RuleParts.{unless, stmt_at}
use Rattle.cocoon_types.specs.Rules.{not_switch_form, not_wire, last_choice, fork_form}
use Rattle.numbering.specs.declared.name_table.NameTable.{NameTable}
use Rattle.declarations.specs.NameNumbers.{Numbers}
use Rattle.cocoon_types.specs.Among.{among}
use Rattle.form_rules.specs.Stmts.{stmts_in, fields_at, may_have, sends_own, forks_well}
use Rattle.form_rules.specs.Tested.{choice_fails}

-- ---- where a rule fails at a statement in the body of a role

-- where the role is a wire
abbrev pub wire_at : Design → Name → Stmt → List ℕ
wire_at d r a = elim (host_decl d) [
  | None ↦ []
  | Some h ↦ elim (switch_decl d) [
    | None ↦ []
    | Some s ↦ if is_wire h s r then unless (may_have h s r a) (stmt_at a) ++ fields_at a else []
  ]
]

-- the first parameter of a role, as the last level has it
abbrev pub own_param : Design → List ℕ → Option Param
own_param d x = option_and_then (λ (r : Role). first_of r.params) (role_at (last_level d) d x)

-- where it is the first switch role
abbrev pub send_at : Design → List ℕ → Stmt → List ℕ
send_at d x a = elim (switch_decl d) [
  | None ↦ []
  | Some s ↦ if same_name x s.into.text then unless (sends_own s.out.text (own_param d x) a) (stmt_at a) else []
]

abbrev pub fork_at : Design → List ℕ → Stmt → List ℕ
fork_at d x a = elim (switch_decl d) [
  | None ↦ []
  | Some s ↦ if same_name x s.into.text then unless (forks_well d a) (stmt_at a) else []
]

-- ---- faults

-- the statements of the body that a role has at the last level
abbrev pub last_body : Design → List ℕ → List Stmt
last_body d x = elim (role_at (last_level d) d x) [
  | None ↦ []
  | Some r ↦ elim r.body [ None ↦ [] | Some b ↦ stmts_in b ]
]

-- the fault stands at a statement of that body
abbrev pub at_last : Design → List ℕ → Stmt → Fault → Bool
at_last d x a f =
    ((among last_choice (choice_fails a) f || among not_wire (wire_at d (record { at = 0; text = x }) a) f)
    || among not_switch_form (send_at d x a) f) || among fork_form (fork_at d x a) f

-- it stands in that body
abbrev pub in_role : Design → List ℕ → Fault → Bool
in_role d x f = list_any (λ a. at_last d x a f) (last_body d x)

-- it stands in the body of one of some roles
abbrev pub in_roles : Design → List (List ℕ) → Fault → Bool
in_roles d xs f = list_any (λ x. in_role d x f) xs

-- ---- the walk

-- the names of the roles among some declarations
abbrev pub role_names_in : List Decl → List (List ℕ)
role_names_in ds = map (λ (r : Role). r.name.text) (filter_map as_role ds)

-- the declarations of some blocks
abbrev pub block_decls : List Refine → List Decl
block_decls bs = flat_map (λ (b : Refine). b.decls) bs

-- the table has these names, and the faults in the bodies of these roles are noted
pub record Walked (d : Design) (seen : NameTable) (xs : List (List ℕ)) (before now : Option Fault) : Type 0 where
  pub names : Numbers seen xs
  pub noted : Notes (in_roles d xs) before now
