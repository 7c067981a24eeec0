-- The rules on names, the first phase of "Rules of a design" in docs/LANGUAGE.md: for each the token indices at which it
-- fails.
use Rattle.std.specs.Prelude.{ℕ, ◌&&◌, ◌||◌, Bool, not, List, [], ◌∷◌, ◌++◌, map, flat_map, filter_map, filter, drop, Some, None, is_none, is_some}
use Rattle.cocoon_num.specs.Tree.{Name, name, field, call, set_field, havoc_field, send, Param, FunctionDecl, HostDecl, SwitchDecl, Decl, a_host, a_switch, Refine, HeaderDecl, Design}
use Rattle.cocoon_num.specs.Names.{same_name, named}
use Rattle.cocoon_types.specs.Design.{functions, as_host, as_switch, decls_to, all_decls, role_at, host_decl}
use Rattle.cocoon_types.specs.Typing.{Scope, var_width, function_named}
use Rattle.cocoon_types.specs.Sites.{ExprSite, StmtSite, DeclSite, decl_sites, params_of, bound_by, all_stmts}
use Rattle.cocoon_types.specs.RuleParts.{unless, unless_named, has_name, repeated, param_names, role_names, each_block}

-- ---- twice

-- the names of some roles that are declared before, but for the first declaration of a role that the list names
abbrev pub roles_again : (listed before : List Name) → List Name → List ℕ
roles_again listed before [] = []
roles_again listed before (r ∷ rs) =
    unless_named (has_name r.text listed || not (has_name r.text before)) r
    ++ roles_again (filter (λ (n : Name). not (same_name r.text n.text)) listed) (r ∷ before) rs

-- a variable that is in scope already
abbrev pub bound_again : StmtSite → List ℕ
bound_again site = flat_map (λ (p : Param). unless_named (is_none (var_width site.scope p.name.text)) p.name) (bound_by site.s)

-- the declarations of the host roles
abbrev pub hosts_at : List Decl → List ℕ
hosts_at ds = map (λ (h : HostDecl). h.at) (filter_map as_host ds)

-- names of headers, fields, functions, parameters, variables, roles, hosts and switches that stand twice
abbrev pub twice_at : Design → List ℕ
twice_at d =
    repeated [] (map (λ (h : HeaderDecl). h.name) d.headers)
    ++ flat_map (λ (h : HeaderDecl). repeated [] (param_names h.fields)) d.headers
    ++ repeated [] (map (λ (f : FunctionDecl). f.name) (functions d))
    ++ flat_map (λ (s : DeclSite). repeated [] (param_names (params_of s.decl))) (decl_sites d)
    ++ flat_map bound_again (all_stmts d)
    ++ roles_again [] [] (role_names d.decls)
    ++ each_block (λ above b. roles_again b.roles (role_names (decls_to above d)) (role_names b.decls)) d
    ++ drop 1 (hosts_at d.decls) ++ flat_map (λ (b : Refine). hosts_at b.decls) d.refines
    ++ drop 1 (map (λ (s : SwitchDecl). s.at) (filter_map as_switch (all_decls d)))

-- ---- names

-- a header that is not declared, or else a field that it has not
abbrev pub unknown_field : Scope → Name → Name → List ℕ
unknown_field s h f = elim (named (λ (d : HeaderDecl). d.name) h.text s.design.headers) [
  | None ↦ h.at ∷ []
  | Some d ↦ unless_named (has_name f.text (param_names d.fields)) f
]

-- a variable that is not in scope, or a field or function that is declared nowhere
abbrev pub unknown_in_expr : ExprSite → List ℕ
unknown_in_expr site = elim site.e [
  | name at x ↦ unless (is_some (var_width site.scope x)) at
  | field at h f ↦ unknown_field site.scope h f
  | call at f es ↦ unless_named (is_some (function_named site.scope f.text)) f
  | _ ↦ []
]

-- a field that is set or chosen and not declared
abbrev pub unknown_in_stmt : StmtSite → List ℕ
unknown_in_stmt site = elim site.s [
  | set_field at h f e ↦ unknown_field site.scope h f
  | havoc_field at h f ↦ unknown_field site.scope h f
  | _ ↦ []
]

-- the function is declared, and its declaration does not end before
abbrev pub is_late : Scope → List ℕ → Bool
is_late s f = is_some (function_named s f) && not (is_some (named (λ (d : FunctionDecl). d.name) f s.before))

-- a call of a function before its declaration ends
abbrev pub late_in_expr : ExprSite → List ℕ
late_in_expr site = elim site.e [ call at f es ↦ unless_named (not (is_late site.scope f.text)) f | _ ↦ [] ]

-- ---- roles

-- a role that no level up to that of the scope declares
abbrev pub unknown_role_at : Scope → Name → List ℕ
unknown_role_at s r = unless_named (is_some (role_at s.level s.design r.text)) r

-- a `send` to an unknown role
abbrev pub unknown_role_in_stmt : StmtSite → List ℕ
unknown_role_in_stmt site = elim site.s [ send at r es ↦ unknown_role_at site.scope r | _ ↦ [] ]

-- the roles that a declaration of hosts or switches names
abbrev pub roles_named : Decl → List Name
roles_named d = elim d [ a_host h ↦ h.entry ∷ h.sink ∷ [] | a_switch s ↦ s.into ∷ s.out ∷ [] | _ ↦ [] ]

-- unknown ones of them
abbrev pub unknown_role_in_decl : DeclSite → List ℕ
unknown_role_in_decl site = flat_map (unknown_role_at site.scope) (roles_named site.decl)

-- names of a block's list that stand there twice, are no roles of the level above, or are not declared in the block
abbrev pub not_refinable_in : Design → (above : ℕ) → Refine → List ℕ
not_refinable_in d above b =
    repeated [] b.roles
    ++ flat_map (λ (r : Name). unless_named (is_some (role_at above d r.text) && has_name r.text (role_names b.decls)) r) b.roles

-- the sink in a list of roles that are refined
abbrev pub sink_refined_at : Design → List ℕ
sink_refined_at d = elim (host_decl d) [
  | None ↦ []
  | Some h ↦ flat_map (λ (r : Name). unless_named (not (same_name r.text h.sink.text)) r) (flat_map (λ (b : Refine). b.roles) d.refines)
]
