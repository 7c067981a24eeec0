-- The host roles, and the roles and statements of the last level: that of which the forms of roles and the rules of
-- definitions speak. It follows the sections "Levels" and "Hosts" of docs/LANGUAGE.md.
use Rattle.std.specs.Prelude.{ℕ, true, false, List, [], ◌∷◌, filter_map, Some, None}
use Rattle.cocoon_num.specs.Tree.{Name, Expr, call, Role, HostDecl, Design}
use Rattle.cocoon_types.specs.Design.{functions, role_at, host_decl, switch_decl, last_level}
use Rattle.cocoon_types.specs.Sites.{StmtSite, stmts_in}

-- the function that a call names
abbrev pub called : Expr → List ℕ
called e = elim e [ call at f es ↦ f.text | _ ↦ [] ]

-- what holds of the declaration of the host roles and these two roles at level 0
abbrev pub of_host : {A : Type 0} → Design → (HostDecl → Role → Role → List A) → List A
of_host d f = elim (host_decl d) [ None ↦ [] | Some h ↦ elim (role_at 0 d h.entry.text) [ None ↦ [] | Some e ↦ elim (role_at 0 d h.sink.text) [ None ↦ [] | Some s ↦ f h e s ] ] ]

-- the names of the two switch roles
abbrev pub switch_names : Design → List Name
switch_names d = elim (switch_decl d) [ None ↦ [] | Some s ↦ s.into ∷ s.out ∷ [] ]

-- the two switch roles at the last level
abbrev pub switch_roles : Design → List Role
switch_roles d = filter_map (λ (n : Name). role_at (last_level d) d n.text) (switch_names d)

-- the statements of a role's body at the last level, with all those in its blocks; every function of the design is in scope
abbrev pub last_stmts : Design → List ℕ → List StmtSite
last_stmts d r = elim (role_at (last_level d) d r) [
  | None ↦ []
  | Some x ↦ elim x.body [ None ↦ [] | Some b ↦ stmts_in (record { design = d; vars = x.params; before = functions d; level = last_level d; packet = true }) false b ]
]

-- those of the first switch role
abbrev pub into_stmts : Design → List StmtSite
into_stmts d = elim (switch_decl d) [ None ↦ [] | Some s ↦ last_stmts d s.into.text ]
