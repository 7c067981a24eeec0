-- What a design declares: its levels, functions, roles, hosts, switches and the layout of its packets.
-- It follows the sections "Packets", "Levels" and "Hosts" of docs/LANGUAGE.md. Headers are all there: none is optional.
use Rattle.std.specs.Prelude.{ℕ, List, ◌∷◌, ◌++◌, map, flat_map, filter_map, length, take, reverse, if◌then◌else◌, Option, Some, None, option_map, option_and_then}
use Rattle.cocoon_num.specs.Tree.{Param, FunctionDecl, Role, HostDecl, SwitchDecl, Decl, a_function, a_role, a_host, a_switch, Refine, HeaderDecl, Design}
use Rattle.cocoon_num.specs.Names.{same_name, named}
use Rattle.cocoon_num.specs.Packets.{Packet, Layout}
use Rattle.cocoon_num.specs.Values.{Value, number}
use Rattle.cocoon_num.specs.Lists.{first_of}

-- the declarations of levels 0 to i, in order: those outside the blocks, then block after block
abbrev pub decls_to : ℕ → Design → List Decl
decls_to i design = design.decls ++ flat_map (λ (b : Refine). b.decls) (take i design.refines)

-- the number of the last level
abbrev pub last_level : Design → ℕ
last_level design = length design.refines

-- the declarations of all levels
abbrev pub all_decls : Design → List Decl
all_decls design = decls_to (last_level design) design

-- the declaration where it is a function
abbrev pub as_function : Decl → Option FunctionDecl
as_function d = elim d [ a_function f ↦ Some f | _ ↦ None ]

-- the declaration where it is a role
abbrev pub as_role : Decl → Option Role
as_role d = elim d [ a_role r ↦ Some r | _ ↦ None ]

-- the declaration where it names the host roles
abbrev pub as_host : Decl → Option HostDecl
as_host d = elim d [ a_host h ↦ Some h | _ ↦ None ]

-- the declaration where it names the switch roles
abbrev pub as_switch : Decl → Option SwitchDecl
as_switch d = elim d [ a_switch s ↦ Some s | _ ↦ None ]

-- the functions of the design, in the order of declaration
abbrev pub functions : Design → List FunctionDecl
functions design = filter_map as_function (all_decls design)

-- the role's latest declaration at a level of at most i
abbrev pub role_at : ℕ → Design → List ℕ → Option Role
role_at i design role = named (λ (r : Role). r.name) role (reverse (filter_map as_role (decls_to i design)))

-- the declaration of the host roles
abbrev pub host_decl : Design → Option HostDecl
host_decl design = first_of (filter_map as_host (all_decls design))

-- the declaration of the switch roles
abbrev pub switch_decl : Design → Option SwitchDecl
switch_decl design = first_of (filter_map as_switch (all_decls design))

-- the widths of some parameters or fields
abbrev pub widths_of : List Param → List ℕ
widths_of params = map (λ (p : Param). p.width) params

-- the widths of the fields, header by header
abbrev pub layout : Design → Layout
layout design = map (λ (h : HeaderDecl). widths_of h.fields) design.headers

-- ---- fields by name

-- the field f among the fields of one header
abbrev pub read_in : List Param → List ℕ → List ℕ → Option Value
read_in (p ∷ ps) (n ∷ ns) f = if same_name f p.name.text then Some (number p.width n) else read_in ps ns f
read_in _ _ f = None

-- the field f of the header h
abbrev pub read_field : List HeaderDecl → Packet → List ℕ → List ℕ → Option Value
read_field (d ∷ ds) (ns ∷ packet) h f =
    if same_name h d.name.text then read_in d.fields ns f else read_field ds packet h f
read_field _ _ h f = None

-- the numbers of one header with the field f set to n
abbrev pub write_in : List Param → List ℕ → List ℕ → ℕ → List ℕ
write_in (p ∷ ps) (m ∷ ns) f n = if same_name f p.name.text then n ∷ ns else m ∷ write_in ps ns f n
write_in _ ns f n = ns

-- the packet with the field f of the header h set to n
abbrev pub write_field : List HeaderDecl → Packet → List ℕ → List ℕ → ℕ → Packet
write_field (d ∷ ds) (ns ∷ packet) h f n =
    if same_name h d.name.text then write_in d.fields ns f n ∷ packet else ns ∷ write_field ds packet h f n
write_field _ packet h f n = packet

-- the width of the field f of the header h
abbrev pub field_width : List HeaderDecl → List ℕ → List ℕ → Option ℕ
field_width headers h f =
    option_and_then (λ (d : HeaderDecl). option_map (λ (p : Param). p.width) (named (λ (p : Param). p.name) f d.fields))
    (named (λ (d : HeaderDecl). d.name) h headers)
