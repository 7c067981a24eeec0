-- Private clauses cite it: the parts of the rules on forms, each as the code notes it.
use Rattle.std.specs.Prelude.{ℕ, ◌==◌, ◌&&◌, not, nat_lt, List, [], ◌++◌, flat_map, length, if◌then◌else◌, Option, Some, None, is_none, option_map, option_and_then}
use Rattle.cocoon_num.specs.Tree.{Name, Block, Role, HostDecl, Design}
use Rattle.cocoon_num.specs.Names.{same_name}
use Rattle.cocoon_types.specs.Design.{role_at, host_decl}
use Rattle.cocoon_types.specs.SameTrees.{same_truth, same_expr, same_params}
use Rattle.cocoon_types.specs.RuleParts.{unless, unless_named}
use Rattle.cocoon_types.specs.FormRules.{two_ports}
use Rattle.cocoon_types.specs.ReadBack.{hidden_in}

-- what a rule gives of a role, if it is called so
abbrev pub where_named : List ℕ → (Role → List ℕ) → Role → List ℕ
where_named x rule r = if same_name x r.name.text then rule r else []

-- ---- host roles

-- the declaration of the host roles, and these two roles at level 0
pub record Hosts : Type 0 where
  pub decl : HostDecl
  pub entry : Role
  pub sink : Role

abbrev pub hosts_with : HostDecl → Role → Role → Hosts
hosts_with h e s = record { decl = h; entry = e; sink = s }

-- the two roles of such a declaration
abbrev pub roles_by : Design → HostDecl → Option Hosts
roles_by d h =
    option_and_then (λ (e : Role). option_map (hosts_with h e) (role_at 0 d h.sink.text)) (role_at 0 d h.entry.text)

abbrev pub host_roles : Design → Option Hosts
host_roles d = option_and_then (roles_by d) (host_decl d)

-- a role that has a body and is the sink, or has none and is not
abbrev pub bodiless : (sink : List ℕ) → Role → List ℕ
bodiless sink r = unless_named (same_truth (same_name r.name.text sink) (is_none r.body)) r.name

-- what is wrong with the entry role and the sink, and with the bodies of some roles
abbrev pub host_faults : HostDecl → Role → Role → List Role → List ℕ
host_faults h e s rs =
    unless_named (not (same_name h.entry.text h.sink.text)) e.name ++ flat_map (bodiless h.sink.text) rs
    ++ unless_named (length e.params == 1) e.name ++ unless_named (length s.params == 1) s.name
    ++ unless (same_params e.params s.params) (if nat_lt s.name.at e.name.at then s.name.at else e.name.at)

-- ---- refined roles

-- a role that has other parameters or another guard at the level above
abbrev pub changed : Design → (above : ℕ) → Role → List ℕ
changed d above r = elim (role_at above d r.name.text) [
  | None ↦ []
  | Some old ↦ unless_named (same_params old.params r.params && same_expr old.guard r.guard) r.name
]

-- the hidden choices of a body, if there is one
abbrev pub hidden_where : Design → Option Block → List ℕ
hidden_where d b = elim b [ None ↦ [] | Some body ↦ hidden_in d body ]

-- those of a role's body at a level
abbrev pub hidden_of : Design → (above : ℕ) → Name → List ℕ
hidden_of d above r = hidden_where d (option_and_then (λ (x : Role). x.body) (role_at above d r.text))

-- ---- switch roles

-- a role of other parameters than a switch role's
abbrev pub not_two_ports : Role → List ℕ
not_two_ports r = unless_named (two_ports r) r.name
