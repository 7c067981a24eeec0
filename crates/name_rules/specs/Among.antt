-- Cited by the clauses of all that notes faults of the first phase: the parts of its rules, and what a table has seen.
use Rattle.std.specs.Prelude.{ℕ, ◌&&◌, ◌||◌, Bool, true, false, not, List, [], ◌∷◌, ◌++◌, drop, map, filter_map, flat_map, option_map, option_to_list, is_some}
use Rattle.cocoon_num.specs.Tree.{Name, FunctionDecl, HostDecl, SwitchDecl, Decl, Refine, HeaderDecl, Design}
use Rattle.cocoon_num.specs.Names.{same_name}
use Rattle.cocoon_types.specs.Design.{as_function, as_host, as_switch, all_decls, functions, role_at}
use Rattle.cocoon_types.specs.NameRules.{hosts_at, roles_named, unknown_role_in_decl}
use Rattle.cocoon_types.specs.Rules.{fails_at, unknown_role, not_refinable, sink_refined, no_host, no_switch}
use Rattle.cocoon_types.specs.Sites.{DeclSite, decl_sites, params_of}
use Rattle.cocoon_types.specs.RuleParts.{unless_named, has_name, repeated, param_names, role_names, blocks_from}
use Rattle.cocoon_types.specs.FirstFault.{Fault}
use Rattle.cocoon_types.specs.Among.{among}
use Rattle.declarations.specs.NameNumbers.{Numbers}
use Rattle.numbering.specs.declared.name_table.NameTable.{NameTable}

-- a table of these names
abbrev pub Seen : NameTable → List Name → Type 0
Seen t ns = Numbers t (map (λ (n : Name). n.text) ns)

-- a name, if it is among others
abbrev pub again : List Name → Name → List ℕ
again names n = unless_named (not (has_name n.text names)) n

abbrev pub header_names : List HeaderDecl → List Name
header_names hs = map (λ (h : HeaderDecl). h.name) hs

-- the fields of a header that stand twice
abbrev pub repeated_fields : HeaderDecl → List ℕ
repeated_fields h = repeated [] (param_names h.fields)

-- the functions among some declarations, by name
abbrev pub function_names : List Decl → List Name
function_names ds = map (λ (f : FunctionDecl). f.name) (filter_map as_function ds)

-- the token index of a role, if it is the sink
abbrev pub unless_other : (sink : Name) → Name → List ℕ
unless_other sink r = unless_named (not (same_name r.text sink.text)) r

-- the same of a block's list
abbrev pub sink_in : (sink : Name) → Refine → List ℕ
sink_in sink b = flat_map (unless_other sink) b.roles

-- the functions of some blocks
abbrev pub block_functions : List Refine → List Name
block_functions bs = function_names (flat_map (λ (b : Refine). b.decls) bs)

-- the functions of a design
abbrev pub design_functions : Design → List Name
design_functions d = map (λ (f : FunctionDecl). f.name) (functions d)

-- the parameters of a declaration that stand twice
abbrev pub repeated_params : Decl → List ℕ
repeated_params d = repeated [] (param_names (params_of d))

-- those of a block
abbrev pub repeated_in_block : Refine → List ℕ
repeated_in_block b = flat_map repeated_params b.decls

-- those of all declarations
abbrev pub params_twice : Design → List ℕ
params_twice d = flat_map (λ (s : DeclSite). repeated_params s.decl) (decl_sites d)

-- ---- declarations after the first

-- there is a token index
abbrev pub any_at : List ℕ → Bool
any_at [] = false
any_at (at ∷ ats) = true

-- token indices but for the first, or all, where one was found before
abbrev pub later : (found : Bool) → List ℕ → List ℕ
later true ats = ats
later false ats = drop 1 ats

abbrev pub host_places : Decl → List ℕ
host_places d = option_to_list (option_map (λ (h : HostDecl). h.at) (as_host d))

abbrev pub switch_places : Decl → List ℕ
switch_places d = option_to_list (option_map (λ (s : SwitchDecl). s.at) (as_switch d))

abbrev pub block_hosts : Refine → List ℕ
block_hosts b = flat_map host_places b.decls

abbrev pub block_switches : Refine → List ℕ
block_switches b = flat_map switch_places b.decls

abbrev pub hosts_twice : Design → List ℕ
hosts_twice d = drop 1 (hosts_at d.decls) ++ flat_map (λ (b : Refine). hosts_at b.decls) d.refines

abbrev pub switches_twice : Design → List ℕ
switches_twice d = drop 1 (map (λ (s : SwitchDecl). s.at) (filter_map as_switch (all_decls d)))

-- ---- lists of blocks

-- a name of a list that is no role up to the level above, or is not among those declared
abbrev pub unrefinable : Design → (above : ℕ) → (declared : List Name) → Name → List ℕ
unrefinable d above declared r = unless_named (is_some (role_at above d r.text) && has_name r.text declared) r

-- ---- roles declared again

-- a block may declare the role: its list names it, or no level above declares it
abbrev pub may_stand : Design → (above : ℕ) → (listed : List Name) → Name → Bool
may_stand d above listed r = has_name r.text listed || not (is_some (role_at above d r.text))

-- roles that stand earlier among them, or are among those seen, or may not stand at all
abbrev pub declared_again : (may : Name → Bool) → (seen : List Name) → List Name → List ℕ
declared_again may seen [] = []
declared_again may seen (r ∷ rs) =
    unless_named (not (has_name r.text seen) && may r) r ++ declared_again may (seen ++ r ∷ []) rs

-- those of level 0
abbrev pub again_outside : List Decl → List ℕ
again_outside ds = declared_again (λ r. true) [] (role_names ds)

-- those of a block
abbrev pub again_in_block : Design → (above : ℕ) → Refine → List ℕ
again_in_block d above b = declared_again (may_stand d above b.roles) [] (role_names b.decls)

-- those of all levels
abbrev pub roles_twice : Design → List ℕ
roles_twice d = again_outside d.decls ++ blocks_from (again_in_block d) 0 d.refines

-- ---- roles that declarations name

-- a role that no level up to this one declares
abbrev pub unknown_at : Design → (level : ℕ) → Name → List ℕ
unknown_at d level r = unless_named (is_some (role_at level d r.text)) r

-- those that a declaration of hosts or switches names
abbrev pub unknown_named : Design → (level : ℕ) → Decl → List ℕ
unknown_named d level x = flat_map (unknown_at d level) (roles_named x)

-- those of a block at this level
abbrev pub unknown_in_block : Design → (level : ℕ) → Refine → List ℕ
unknown_in_block d level b = flat_map (unknown_named d level) b.decls

-- ---- what is put together

-- names that stand twice among declarations
abbrev pub twice_declared : Design → List ℕ
twice_declared d =
    repeated [] (header_names d.headers) ++ flat_map repeated_fields d.headers ++ repeated [] (design_functions d)
    ++ params_twice d ++ roles_twice d ++ hosts_twice d ++ switches_twice d

-- a fault of roles where declarations and lists name them, or of hosts or switches that are not declared
abbrev pub is_list_fault : Design → Fault → Bool
is_list_fault d f =
    among unknown_role (flat_map unknown_role_in_decl (decl_sites d)) f
    || among not_refinable (fails_at not_refinable d) f || among sink_refined (fails_at sink_refined d) f
    || among no_host (fails_at no_host d) f || among no_switch (fails_at no_switch d) f
