-- The parts of a design, from what is found of them.
use Rattle.std.proofs.Common.{◌≡◌, List, [], ◌∷◌, reverse, Option, Some, None, option_map, refl, sym, ap, ◌∙◌}
use Rattle.std.specs.Prelude.{option_and_then}
use Rattle.cocoon_num.specs.Tree.{Block, Design, HostDecl, Param, Role, SwitchDecl}
use Rattle.cocoon_types.specs.Design.{functions, host_decl, last_level, role_at, switch_decl}
use Rattle.lowering.specs.Whole.{SwitchRole}
use Rattle.lowering.specs.Roles.{ingress_role, net_parts, parts_with, role_of_two}
use Rattle.lower_net.specs.NetDeclarations.{IngressParts, into_of, parts_with_body, role_parts}

-- the role of a design with these names and this body
abbrev pub role-with : Design → IngressParts → SwitchRole
role-with d i = record { headers = d.headers; functions = reverse (functions d); switch = i.switch; port = i.port; body = i.body }

of-two : (d : Design) (ps : List Param) (b : Option Block) → role_of_two d ps b ≡ option_map (role-with d) (parts_with_body ps b)
of-two d [] b = refl
of-two d (s ∷ []) b = refl
of-two d (s ∷ p ∷ []) None = refl
of-two d (s ∷ p ∷ []) (Some b) = refl
of-two d (s ∷ p ∷ q ∷ ps) b = refl

of-role : (d : Design) (r : Option Role) → option_and_then (λ (r : Role). role_of_two d r.params r.body) r ≡ option_map (role-with d) (option_and_then role_parts r)
of-role d None = refl
of-role d (Some r) = of-two d r.params r.body

into-role : (d : Design) (names : SwitchDecl) → ingress_role d names ≡ option_map (role-with d) (into_of d names)
into-role d names = of-role d (role_at (last_level d) d names.into.text)

-- the parts, by what is found of them
pub parts-found : (d : Design) (s : SwitchDecl) (h : HostDecl) (i : Option IngressParts) → switch_decl d ≡ Some s → host_decl d ≡ Some h → into_of d s ≡ i
    → option_map (λ x. parts_with s h (role-with d x)) i ≡ net_parts d
parts-found d s h i es eh ei =
    finish i
    ∙ sym ((λ k. option_and_then (λ switches. option_and_then (λ hosts. option_and_then (λ role. Some (parts_with switches hosts role)) (ingress_role d switches)) (eh k)) (es k))
    ∙ ap (λ r. option_and_then (λ role. Some (parts_with s h role)) r) (into-role d s ∙ ap (option_map (role-with d)) ei))
  where
    finish : (i : Option IngressParts) → option_map (λ x. parts_with s h (role-with d x)) i ≡ option_and_then (λ role. Some (parts_with s h role)) (option_map (role-with d) i)
    finish None = refl
    finish (Some x) = refl
