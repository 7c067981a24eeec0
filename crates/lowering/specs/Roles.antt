-- Cited by the clauses of `lower` and by all laws of lowering: the role that the switches of a design run. It follows the
-- sections "Levels" and "Hosts" of docs/LANGUAGE.md.
use Rattle.std.specs.Prelude.{List, [], ◌∷◌, reverse, Option, Some, None, option_and_then}
use Rattle.cocoon_num.specs.Tree.{Block, Param, Role, HostDecl, SwitchDecl, Design}
use Rattle.cocoon_types.specs.Design.{functions, host_decl, last_level, role_at, switch_decl}
use Rattle.lowering.specs.Whole.{SwitchRole}

-- a role of two parameters with a body: the number of the switch, and the port
abbrev pub role_of_two : Design → List Param → Option Block → Option SwitchRole
role_of_two d (s ∷ p ∷ []) (Some b) = Some (record {
  headers = d.headers;
  functions = reverse (functions d);
  switch = s.name.text;
  port = p.name.text;
  body = b;
})
role_of_two d _ _ = None

-- the ingress role of a declaration of switches, as it is at the last level
abbrev pub ingress_role : Design → SwitchDecl → Option SwitchRole
ingress_role d names = option_and_then (λ (r : Role). role_of_two d r.params r.body) (role_at (last_level d) d names.into.text)

-- what a network is made of, beside its definitions
pub record NetParts : Type 0 where
  pub switches : SwitchDecl
  pub hosts : HostDecl
  pub role : SwitchRole

abbrev pub parts_with : SwitchDecl → HostDecl → SwitchRole → NetParts
parts_with switches hosts role = record { switches = switches; hosts = hosts; role = role }

-- the parts of a design that has both declarations
abbrev pub net_parts : Design → Option NetParts
net_parts d = option_and_then (λ switches. option_and_then (λ hosts.
    option_and_then (λ role. Some (parts_with switches hosts role)) (ingress_role d switches)) (host_decl d)) (switch_decl d)
