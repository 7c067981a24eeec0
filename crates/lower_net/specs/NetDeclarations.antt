-- Cited by the clauses of `find_parts` and of all that makes programs: the parts of a network that those of the code stand for.
use Rattle.std.specs.Prelude.{ℕ, List, ◌∷◌, [], map, reverse, Option, Some, None, option_and_then}
use Rattle.cocoon_num.specs.Tree.{Block, Param, Role, SwitchDecl, Design}
use Rattle.cocoon_syntax.specs.TreeOf.{block_of, host_of, stmt_of, switch_of}
use Rattle.cocoon_types.specs.Design.{functions, last_level, role_at}
use Rattle.lowering.specs.Whole.{SwitchRole}
use Rattle.lowering.specs.Roles.{NetParts, parts_with}
use Rattle.lower_net.specs.declared.net_declarations.Ingress.{Ingress}
use Rattle.lower_net.specs.declared.net_declarations.Parts.{Parts}

-- the names of the parameters, and the body
pub record IngressParts : Type 0 where
  pub switch : List ℕ
  pub port : List ℕ
  pub body : Block

abbrev pub ingress_of : Ingress → IngressParts
ingress_of i = record { switch = i.switch.now; port = i.port.now; body = block_of (map stmt_of i.body.now) }

-- those of a role of two parameters with a body
abbrev pub parts_with_body : List Param → Option Block → Option IngressParts
parts_with_body (s ∷ p ∷ []) (Some b) = Some (record { switch = s.name.text; port = p.name.text; body = b })
parts_with_body _ _ = None

abbrev pub role_parts : Role → Option IngressParts
role_parts r = parts_with_body r.params r.body

-- those of the ingress role of a declaration of switches
abbrev pub into_of : Design → SwitchDecl → Option IngressParts
into_of d names = option_and_then role_parts (role_at (last_level d) d names.into.text)

-- the role of a design with these names and this body
abbrev pub switch_role : Design → Ingress → SwitchRole
switch_role d i = record {
  headers = d.headers;
  functions = reverse (functions d);
  switch = i.switch.now;
  port = i.port.now;
  body = block_of (map stmt_of i.body.now);
}

abbrev pub parts_of : Design → Parts → NetParts
parts_of d p = parts_with (switch_of p.switches.now) (host_of p.hosts.now) (switch_role d p.ingress)
