-- The role that the switches run is the ingress role of the design.
use Rattle.std.proofs.Common.{◌≡◌, inl, ℕ, ◌^◌, ◌<◌, ◌==◌, true, List, [], ◌∷◌, Option, Some, None, length, if◌then◌else◌, refl, sym, ap, subst, ◌∙◌}
use Rattle.std.specs.Prelude.{option_and_then, option_map, reverse}
use Rattle.std.specs.List.{list_all}
use Rattle.std.proofs.lemmas.Bool.{eqb-true, lt-ltb}
use Rattle.cocoon_num.specs.Tree.{Block, Param, Role, Design}
use Rattle.cocoon_num.specs.Values.{fits_width, number}
use Rattle.cocoon_types.specs.Design.{functions, host_decl, last_level, role_at, switch_decl, widths_of}
use Rattle.cocoon_types.specs.Rules.{WellFormed}
use Rattle.cocoon_types.specs.Val.{bind, bound}
use Rattle.lowering.specs.Agrees.{inner_context}
use Rattle.lowering.specs.Whole.{SwitchRole}
use Rattle.lowering.specs.Roles.{NetParts, ingress_role, net_parts, parts_with, role_of_two}
use Rattle.lowering_correct.specs.Ingress.{IngressIs}
use Rattle.lowering_correct.proofs.Facts.{declares, two_params}
use Rattle.sound_types.proofs.Levels.{role_in}
use Rattle.sound_types.proofs.Options.{both_true, then_there}

-- the parameters and the body of a role of two parameters
record TwoOf (d : Design) (ps : List Param) (o : Option Block) (r : SwitchRole) : Type 0 where
  switch : Param
  port : Param
  params_are : ps ≡ switch ∷ port ∷ []
  body_is : o ≡ Some r.body
  switch_is : switch.name.text ≡ r.switch
  port_is : port.name.text ≡ r.port
  headers_are : r.headers ≡ d.headers
  functions_are : r.functions ≡ reverse (functions d)

two_of : (d : Design) (ps : List Param) (o : Option Block) (r : SwitchRole) → role_of_two d ps o ≡ Some r → TwoOf d ps o r
two_of d [] o r h = absurd (cc)
two_of d (s ∷ []) o r h = absurd (cc)
two_of d (s ∷ p ∷ []) None r h = absurd (cc)
two_of d (s ∷ p ∷ []) (Some b) r h =
    let own : SwitchRole = record { headers = d.headers; functions = reverse (functions d); switch = s.name.text; port = p.name.text; body = b } in
    let same : own ≡ r = cc in
    subst (TwoOf d (s ∷ p ∷ []) (Some b)) same
    (record { switch = s; port = p; params_are = refl; body_is = refl; switch_is = refl; port_is = refl; headers_are = refl; functions_are = refl })
two_of d (s ∷ p ∷ q ∷ ps) o r h = absurd (cc)

-- two parameters of 16 bits
bind_sixteen : (s p : Param) (x y : ℕ) → s.width ≡ 16 → p.width ≡ 16 → x < 2 ^ 16 → y < 2 ^ 16
    → bind (s ∷ p ∷ []) (x ∷ y ∷ []) ≡ Some (bound s.name.text (number 16 x) (bound p.name.text (number 16 y) []))
bind_sixteen s p x y es ep lx ly =
    let first : fits_width s.width x ≡ true = ap (λ w. fits_width w x) es ∙ lt-ltb x (2 ^ 16) lx in
    let second : fits_width p.width y ≡ true = ap (λ w. fits_width w y) ep ∙ lt-ltb y (2 ^ 16) ly in
    (λ i. if first i then option_map (bound s.name.text (number s.width x)) (if second i then Some (bound p.name.text (number p.width y) []) else None) else None)
    ∙ (λ i. Some (bound s.name.text (number (es i) x) (bound p.name.text (number (ep i) y) [])))

two_sixteen : (p q : Param) → list_all (λ w. w == 16) (p.width ∷ q.width ∷ []) ≡ true → (p.width ≡ 16) × (q.width ≡ 16)
two_sixteen p q k =
    let first = both_true (p.width == 16) (list_all (λ w. w == 16) (q.width ∷ [])) k in
    let second = both_true (q.width == 16) true first.1 in
    (eqb-true p.width 16 first.0, eqb-true q.width 16 second.0)

pub ingress_is : (d : Design) → WellFormed d → (parts : NetParts) → net_parts d ≡ Some parts → IngressIs d parts
ingress_is d rules parts h =
    let s = then_there (λ switches. option_and_then (λ hosts. option_and_then (λ role. Some (parts_with switches hosts role)) (ingress_role d switches)) (host_decl d)) (switch_decl d) parts h in
    let x = then_there (λ hosts. option_and_then (λ role. Some (parts_with s.0 hosts role)) (ingress_role d s.0)) (host_decl d) parts s.2 in
    let r = then_there (λ role. Some (parts_with s.0 x.0 role)) (ingress_role d s.0) parts x.2 in
    let same : parts_with s.0 x.0 r.0 ≡ parts = cc in
    let q = then_there (λ (q : Role). role_of_two d q.params q.body) (role_at (last_level d) d s.0.into.text) r.0 r.1 in
    let two = two_of d q.0.params q.0.body r.0 q.2 in
    let i = role_in (last_level d) d s.0.into.text q.0 q.1 in
    let wide = both_true (length q.0.params == 2) (list_all (λ w. w == 16) (widths_of q.0.params)) (two_params d rules s.0 s.1 q.0 (declares d rules s.0 s.1 q.0 i.0 (inl i.1))) in
    let widths = two_sixteen two.switch two.port (ap (λ ps. list_all (λ w. w == 16) (widths_of ps)) (sym two.params_are) ∙ wide.1) in
    subst (IngressIs d) same (record {
      switches_are = s.1;
      hosts_are = x.1;
      role = q.0;
      role_is = q.1;
      body_is = two.body_is;
      headers_are = two.headers_are;
      functions_are = two.functions_are;
      context_is = λ defs k. inner_context (sym two.headers_are k) defs (sym two.functions_are k);
      binds = λ a b la lb.
          ap (λ ps. bind ps (a ∷ b ∷ [])) two.params_are ∙ bind_sixteen two.switch two.port a b widths.0 widths.1 la lb
          ∙ (λ k. Some (bound (two.switch_is k) (number 16 a) (bound (two.port_is k) (number 16 b) [])));
    })
