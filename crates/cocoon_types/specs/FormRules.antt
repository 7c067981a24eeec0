-- The rules on forms, the third phase of "Rules of a design" in docs/LANGUAGE.md: for each the token indices at which it
-- fails.
use Rattle.std.specs.Prelude.{ℕ, ◌==◌, ◌&&◌, ◌||◌, Bool, true, false, not, nat_lt, List, [], ◌∷◌, ◌++◌, flat_map, filter_map, filter, length, reverse, if◌then◌else◌, Option, Some, None, is_none, option_and_then}
use Rattle.std.specs.List.{list_any, list_all}
use Rattle.cocoon_num.specs.Values.{less, and_}
use Rattle.cocoon_num.specs.Tree.{Name, Expr, name, field, lit, call, binary, Exprs, no_exprs, expr, Stmt, if_, havoc_var, havoc_field, assume, fork, send, Param, FunctionDecl, Role, HostDecl, SwitchDecl, Refine, Design, token_index}
use Rattle.cocoon_num.specs.Names.{same_name, named}
use Rattle.cocoon_num.specs.Lists.{first_of}
use Rattle.cocoon_types.specs.Design.{functions, as_role, role_at, host_decl, switch_decl, last_level, all_decls, widths_of}
use Rattle.cocoon_types.specs.Parts.{parts, list_of, count_of}
use Rattle.cocoon_types.specs.SameTrees.{same_truth, same_expr, same_exprs, same_params}
use Rattle.cocoon_types.specs.Typing.{with_var}
use Rattle.cocoon_types.specs.Sites.{ExprSite, StmtSite, stmts_in, exprs_of_stmt}
use Rattle.cocoon_types.specs.RuleParts.{unless, unless_named, stmt_at, has_name, role_names, roles_of}
use Rattle.cocoon_types.specs.LastLevel.{called, of_host, switch_names, last_stmts, into_stmts}
use Rattle.cocoon_types.specs.ReadBack.{hidden_in}

-- ---- host roles, refined roles

-- the entry role and the sink: not one and the same, one parameter of one name and type each, and of all roles the
-- sink alone has no body
abbrev pub sink_forms : Design → List ℕ
sink_forms d = of_host d (λ h e s.
    unless_named (not (same_name h.entry.text h.sink.text)) e.name
    ++ flat_map (λ (r : Role). unless_named (same_truth (same_name r.name.text h.sink.text) (is_none r.body)) r.name) (roles_of d)
    ++ unless_named (length e.params == 1) e.name ++ unless_named (length s.params == 1) s.name
    ++ unless (same_params e.params s.params) (if nat_lt s.name.at e.name.at then s.name.at else e.name.at))

-- the declarations of refined roles in a block with other parameters or another guard than the level above has
abbrev pub changed_in : Design → (above : ℕ) → Refine → List ℕ
changed_in d above b = flat_map (λ (r : Role). elim (role_at above d r.name.text) [
  | None ↦ []
  | Some old ↦ unless_named (same_params old.params r.params && same_expr old.guard r.guard) r.name
]) (filter_map as_role b.decls)

-- ---- guards

-- the function is declared without a body
abbrev pub is_runtime : Design → List ℕ → Bool
is_runtime d f = elim (named (λ (x : FunctionDecl). x.name) f (functions d)) [ None ↦ false | Some x ↦ is_none x.body ]

-- h(a), where a is the one parameter
abbrev pub host_guard : Design → List Param → Expr → Bool
host_guard d (p ∷ []) (call at f es) = is_runtime d f.text && same_exprs es (expr (name 0 p.name.text) no_exprs)
host_guard d _ _ = false

-- the function of a switch role's guard
abbrev pub guard_function : Expr → List ℕ
guard_function e = elim e [ binary at op a b ↦ called a | _ ↦ [] ]

-- g(s) and p < 16wN, where s and p are the two parameters
abbrev pub switch_guard : Design → (ports : ℕ) → List Param → Expr → Bool
switch_guard d ports (s ∷ p ∷ []) e =
    is_runtime d (guard_function e)
    && same_expr e (binary 0 and_ (call 0 (record { at = 0; text = guard_function e }) (expr (name 0 s.name.text) no_exprs)) (binary 0 less (name 0 p.name.text) (lit 0 16 ports)))
switch_guard d ports _ e = false

-- the declarations of a role
abbrev pub declared_as : List ℕ → List Role → List Role
declared_as x rs = filter (λ (r : Role). same_name x r.name.text) rs

-- those of the two switch roles, the first's before the second's
abbrev pub switch_declared : Design → List Role
switch_declared d = flat_map (λ (n : Name). declared_as n.text (roles_of d)) (switch_names d)

-- of some declarations, guards that are not of the form, or are so by another function than the first of them
abbrev pub guards_by : (List Param → Expr → Bool) → (Expr → List ℕ) → List Role → List ℕ
guards_by fits function [] = []
guards_by fits function (r ∷ rs) =
    flat_map (λ (x : Role). unless (fits x.params x.guard && (not (fits r.params r.guard) || same_name (function r.guard) (function x.guard))) (token_index x.guard)) (r ∷ rs)

-- guards of the host roles and of the switch roles that are not of their form
abbrev pub guard_forms : Design → List ℕ
guard_forms d =
    of_host d (λ h e s. guards_by (host_guard d) called (declared_as h.entry.text (roles_of d) ++ declared_as h.sink.text (roles_of d)))
    ++ elim (switch_decl d) [ None ↦ [] | Some s ↦ guards_by (switch_guard d s.ports) guard_function (switch_declared d) ]

-- ---- switch roles

-- a send to SwOut at the own switch, which is the first parameter: SwOut[s, e]
abbrev pub is_own_out : List ℕ → Option Param → Name → Exprs → Bool
is_own_out out (Some s) r (expr e es) = same_name r.text out && same_expr e (name 0 s.name.text) && (count_of es == 1)
is_own_out out _ r es = false

-- a `send` of the first switch role that is not to the second at the own switch
abbrev pub switch_sends : Design → SwitchDecl → List ℕ
switch_sends d s = flat_map (λ (site : StmtSite). elim site.s [
  | send at r es ↦ unless (is_own_out s.out.text (option_and_then (λ (x : Role). first_of x.params) (role_at (last_level d) d s.into.text)) r es) at
  | _ ↦ []
]) (into_stmts d)

-- two parameters of 16 bits
abbrev pub two_ports : Role → Bool
two_ports r = (length r.params == 2) && list_all (λ w. w == 16) (widths_of r.params)

-- switch roles of other parameters, and such a `send`
abbrev pub not_switch_forms : Design → List ℕ
not_switch_forms d =
    flat_map (λ (r : Role). unless_named (two_ports r) r.name) (switch_declared d)
    ++ elim (switch_decl d) [ None ↦ [] | Some s ↦ switch_sends d s ]

-- ---- all roles at the last level

-- some names without those that stand again later
abbrev pub each_once : List Name → List Name
each_once [] = []
each_once (n ∷ ns) = if has_name n.text ns then each_once ns else n ∷ each_once ns

-- the names of all roles, each once
abbrev pub all_roles : Design → List Name
all_roles d = each_once (role_names (all_decls d))

-- every role but the sink and SwIn, unless SwIn is SwOut as well
abbrev pub is_wire : HostDecl → SwitchDecl → Name → Bool
is_wire h s r = not (same_name r.text h.sink.text) && (not (same_name r.text s.into.text) || same_name r.text s.out.text)

-- a wire's send: the entry role's to SwIn, another's to SwIn or the sink
abbrev pub wire_send : HostDecl → SwitchDecl → (wire : Name) → Name → Bool
wire_send h s wire r = same_name r.text s.into.text || (same_name r.text h.sink.text && not (same_name wire.text h.entry.text))

-- `pkt` in an expression
abbrev pub field_read : ExprSite → List ℕ
field_read site = elim site.e [ field at h f ↦ at ∷ [] | _ ↦ [] ]

-- what a wire may not do: other statements, sends to wrong roles, and reading the packet
abbrev pub wire_stmt : HostDecl → SwitchDecl → (wire : Name) → StmtSite → List ℕ
wire_stmt h s wire site = elim site.s [
  | if_ at e a b ↦ []
  | send at r es ↦ unless (wire_send h s wire r) at
  | _ ↦ stmt_at site.s ∷ []
] ++ flat_map field_read (exprs_of_stmt site)

-- where a wire does so
abbrev pub not_wires : Design → List ℕ
not_wires d = elim (host_decl d) [
  | None ↦ []
  | Some h ↦ elim (switch_decl d) [
    | None ↦ []
    | Some s ↦ flat_map (λ (r : Name). if is_wire h s r then flat_map (wire_stmt h s r) (last_stmts d r.text) else []) (all_roles d)
  ]
]

-- a statement that makes or limits a choice
abbrev pub is_choice : Stmt → Bool
is_choice s = elim s [ havoc_var at x w ↦ true | havoc_field at h f ↦ true | assume at e ↦ true | _ ↦ false ]

-- choices at the last level
abbrev pub last_choices : Design → List ℕ
last_choices d = flat_map (λ (r : Name). flat_map (λ (site : StmtSite). unless (not (is_choice site.s)) (stmt_at site.s)) (last_stmts d r.text)) (all_roles d)

-- ---- forks

-- x occurs in an expression
abbrev pub mentions : List ℕ → Expr → Bool
mentions x e = list_any (λ a. same_expr a (name 0 x)) (parts e)

-- of some values, the last first: x is the last, and one or more others are without x
abbrev pub ends_with : List ℕ → List Expr → Bool
ends_with x [] = false
ends_with x (last ∷ others) = same_expr last (name 0 x) && not (length others == 0) && list_all (λ e. not (mentions x e)) others

-- m(e, x), where m is a run-time function
abbrev pub fork_condition : Design → List ℕ → Expr → Bool
fork_condition d x e = elim e [ call at f es ↦ is_runtime d f.text && ends_with x (reverse (list_of es)) | _ ↦ false ]

-- the statement is a fork
abbrev pub is_fork : StmtSite → Bool
is_fork site = elim site.s [ fork at x w e b ↦ true | _ ↦ false ]

-- forks of the first switch role that are not of their form
abbrev pub fork_forms : Design → List ℕ
fork_forms d = flat_map (λ (site : StmtSite). elim site.s [
  | fork at x w e b ↦ unless (fork_condition d x.text e && not (list_any is_fork (stmts_in (with_var x w site.scope) false b))) at
  | _ ↦ []
]) (into_stmts d)

-- ---- read back

-- the hidden choices of the bodies that a block refines, which are those of the level above
abbrev pub hidden_above : Design → (above : ℕ) → Refine → List ℕ
hidden_above d above b = flat_map (λ (r : Name). elim (option_and_then (λ (x : Role). x.body) (role_at above d r.text)) [
  | None ↦ []
  | Some body ↦ hidden_in d body
]) b.roles
