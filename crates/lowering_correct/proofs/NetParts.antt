-- A design that keeps the rules has hosts and switches, and an ingress role of two parameters with a body of its form.
use Rattle.std.proofs.Common.{◌≡◌, inl, inr, ℕ, zero, suc, ◌≤◌, ◌==◌, ◌&&◌, ◌||◌, not, nat_lt, List, [], ◌∷◌, ◌++◌, length, map, reverse, take, Bool, true, false, cond, Option, Some, None, is_none, is_some, if◌then◌else◌, option_and_then, refl, sym, ap, subst, ◌∙◌, arith}
use Rattle.std.specs.Prelude.{flat_map, filter, filter_map}
use Rattle.std.specs.List.{list_any, list_all}
use Rattle.std.proofs.lemmas.List.{append-nil}
use Rattle.cocoon_num.specs.Lists.{first_of}
use Rattle.cocoon_num.specs.Names.{same_name}
use Rattle.cocoon_num.specs.Tree.{Name, Param, Stmt, let_, set_field, if_, filter as filter_stmt, havoc_var, havoc_field, assume, fork, send, Block, Role, HostDecl, SwitchDecl, Decl, a_function, an_assumption, a_role, a_host, a_switch, Refine, Design}
use Rattle.cocoon_types.specs.Design.{all_decls, as_host, as_switch, decls_to, functions, host_decl, last_level, role_at, switch_decl, widths_of}
use Rattle.cocoon_types.specs.FormRules.{all_roles, declared_as, each_once, fork_condition, is_choice, is_fork, is_own_out, switch_declared, switch_sends, two_ports}
use Rattle.cocoon_types.specs.LastLevel.{into_stmts, last_stmts, of_host, switch_names}
use Rattle.cocoon_types.specs.NameRules.{bound_again, hosts_at, roles_named, unknown_role_at, unknown_role_in_decl}
use Rattle.cocoon_types.specs.RuleParts.{unless, unless_named, has_name, role_names, roles_of, stmt_at}
use Rattle.cocoon_types.specs.Rules.{WellFormed, twice, unknown_role, no_host, no_switch, sink_form, not_switch_form, last_choice, fork_form}
use Rattle.cocoon_types.specs.SameTrees.{same_params, same_truth}
use Rattle.cocoon_types.specs.Sites.{StmtSite, all_stmts, decl_sites, inner, stmts_in, stmts_of_decl}
use Rattle.cocoon_types.specs.Typing.{with_var}
use Rattle.lowering.specs.Whole.{SwitchRole}
use Rattle.lowering.specs.Roles.{NetParts, ingress_role, net_parts, parts_with, role_of_two}
use Rattle.sound_types.specs.Literals.{DesignLiteralsFit}
use Rattle.sound_types.specs.WellTyped.{IsTyped, scope_at}
use Rattle.sound_types.proofs.Declared.{names_differ, role_typed}
use Rattle.sound_types.proofs.Levels.{StandsBelow, block_decls, role_in, role_stands, role_there, roles_grow, site_at, stands}
use Rattle.sound_types.proofs.Members.{In, at_place, flat_in, in_either, in_filter, filter_in, in_flat, in_left, in_map, in_right, none_at}
use Rattle.sound_types.proofs.Options.{both_true, nil_left, nil_right, passes, same_text, some_there, text_self}
use Rattle.lowering_correct.proofs.Formed.{AllRuled, BoundOnce, Formed, fork_fits, formed, send_fits}
use Rattle.lowering_correct.proofs.Taking.{some_same}

-- ---- declarations of hosts and switches

is_switch : (x : Decl) (s : SwitchDecl) → as_switch x ≡ Some s → x ≡ a_switch s
is_switch (a_function f) s h = absurd (cc)
is_switch (an_assumption a) s h = absurd (cc)
is_switch (a_role r) s h = absurd (cc)
is_switch (a_host x) s h = absurd (cc)
is_switch (a_switch x) s h = let e : x ≡ s = cc in ap a_switch e

is_host : (x : Decl) (s : HostDecl) → as_host x ≡ Some s → x ≡ a_host s
is_host (a_function f) s h = absurd (cc)
is_host (an_assumption a) s h = absurd (cc)
is_host (a_role r) s h = absurd (cc)
is_host (a_host x) s h = let e : x ≡ s = cc in ap a_host e
is_host (a_switch x) s h = absurd (cc)

switch_in : (d : Design) (s : SwitchDecl) → switch_decl d ≡ Some s → In (a_switch s) (all_decls d)
switch_in d s h =
    let t = in_filter as_switch (all_decls d) s (at_place (filter_map as_switch (all_decls d)) 0 s h) in
    subst (λ x. In x (all_decls d)) (is_switch t.0 s t.2) t.1

host_in : (d : Design) (s : HostDecl) → host_decl d ≡ Some s → In (a_host s) (all_decls d)
host_in d s h =
    let t = in_filter as_host (all_decls d) s (at_place (filter_map as_host (all_decls d)) 0 s h) in
    subst (λ x. In x (all_decls d)) (is_host t.0 s t.2) t.1

-- hosts are declared outside of the blocks
no_hosts : (ds : List Decl) (h : HostDecl) → In (a_host h) ds → hosts_at ds ≡ [] → ⊥
no_hosts ds h i e = none (filter_map as_host ds) (filter_in as_host ds (a_host h) h i refl) e
  where
    none : (hs : List HostDecl) → In h hs → map (λ (x : HostDecl). x.at) hs ≡ [] → ⊥
    none [] j k = absurd j
    none (x ∷ hs) j k = absurd (cc)

pub taken_blocks : (n : ℕ) (bs : List Refine) (x : Decl) → In x (block_decls (take n bs)) → In x (block_decls bs)
taken_blocks zero bs x h = absurd h
taken_blocks (suc n) [] x h = absurd h
taken_blocks (suc n) (b ∷ bs) x h = elim (in_either x b.decls (block_decls (take n bs)) h) [
  | inl k ↦ in_left x b.decls (block_decls bs) k
  | inr k ↦ in_right x b.decls (block_decls bs) (taken_blocks n bs x k)
]

host_outside : (d : Design) → WellFormed d → (h : HostDecl) → host_decl d ≡ Some h → In (a_host h) (decls_to 0 d)
host_outside d w h is = elim (in_either (a_host h) d.decls (block_decls (take (last_level d) d.refines)) (host_in d h is)) [
  | inl k ↦ in_left (a_host h) d.decls [] k
  | inr k ↦
      let t = flat_in (λ (b : Refine). b.decls) (a_host h) d.refines (taken_blocks (last_level d) d.refines (a_host h) k) in
      absurd (no_hosts t.0.decls h t.2 (none_at (λ (b : Refine). hosts_at b.decls) d.refines (nil_right _ _ (nil_left _ _ (w twice))) t.0 t.1))
]

-- a role that a declaration names is there at its level
named_role : (d : Design) → WellFormed d → (most : ℕ) (x : Decl) → (at : StandsBelow d most x) → (r : Name) → In r (roles_named x) → (q : Role) × (role_at at.level d r.text ≡ Some q)
named_role d w most x at r i =
    let none = none_at unknown_role_in_decl (decl_sites d) (nil_right _ _ (w unknown_role)) (site_at d at.level at.before x) at.at in
    some_there (role_at at.level d r.text) (passes (is_some (role_at at.level d r.text)) r.at (none_at (unknown_role_at (site_at d at.level at.before x).scope) (roles_named x) none r i))

later_role : (d : Design) (i j : ℕ) → i ≤ j → (x : List ℕ) (q : Role) → role_at i d x ≡ Some q → (r : Role) × (role_at j d x ≡ Some r)
later_role d i j l x q h = let t = role_in i d x q h in role_there j d x q (roles_grow i j d q l t.0) t.1

-- ---- the roles of switches

filter_keeps : {A : Type 0} (f : A → Bool) (xs : List A) (x : A) → In x xs → f x ≡ true → In x (filter f xs)
filter_keeps f [] x i h = absurd i
filter_keeps f (y ∷ xs) x i h = by_test (λ k. filter_keeps f xs x k h) (f y) refl
  where
    clash : (b : Bool) → b ≡ true → b ≡ false → ⊥
    clash b p q = let k : true ≡ false = sym p ∙ q in absurd (cc)

    by_test : (In x xs → In x (filter f xs)) → (b : Bool) → f y ≡ b → In x (cond b (y ∷ filter f xs) (filter f xs))
    by_test rest true is = elim i [ inl e ↦ inl e | inr k ↦ inr (rest k) ]
    by_test rest false is = elim i [ inl e ↦ absurd (clash (f x) h (ap f e ∙ is)) | inr k ↦ rest k ]

names_are : (d : Design) (s : SwitchDecl) → switch_decl d ≡ Some s → switch_names d ≡ s.into ∷ s.out ∷ []
names_are d s h = ap (λ o. elim o as (λ x. List Name) [ None ↦ [] | Some x ↦ x.into ∷ x.out ∷ [] ]) h

-- each declaration of a switch role has two ports
has_two : (d : Design) → WellFormed d → (s : SwitchDecl) → switch_decl d ≡ Some s → (n : Name) → In n (s.into ∷ s.out ∷ []) → (r : Role) → In r (roles_of d) → n.text ≡ r.name.text → two_ports r ≡ true
has_two d w s h n i r j e =
    let named_in : In n (switch_names d) = subst (In n) (sym (names_are d s h)) i in
    let kept = filter_keeps (λ (q : Role). same_name n.text q.name.text) (roles_of d) r j (ap (same_name n.text) (sym e) ∙ text_self n.text) in
    let declared = in_flat (λ (m : Name). declared_as m.text (roles_of d)) n (switch_names d) r named_in kept in
    passes (two_ports r) r.name.at (none_at (λ (q : Role). unless_named (two_ports q) q.name) (switch_declared d) (nil_left _ _ (w not_switch_form)) r declared)

-- two parameters of 16 bits
record TwoPorts (ps : List Param) : Type 0 where
  first : Param
  second : Param
  are : ps ≡ first ∷ second ∷ []
  first_width : first.width ≡ 16
  second_width : second.width ≡ 16

two_of : (ps : List Param) → ((length ps == 2) && list_all (λ w. w == 16) (widths_of ps)) ≡ true → TwoPorts ps
two_of [] h = absurd (cc)
two_of (p ∷ []) h = absurd (cc)
two_of (p ∷ q ∷ []) h =
    let both = both_true (p.width == 16) ((q.width == 16) && true) h in
    let more = both_true (q.width == 16) true both.1 in
    record { first = p; second = q; are = refl; first_width = grind (arith, both.0); second_width = grind (arith, more.0) }
two_of (p ∷ q ∷ r ∷ ps) h =
    let both = both_true (length (p ∷ q ∷ r ∷ ps) == 2) (list_all (λ w. w == 16) (widths_of (p ∷ q ∷ r ∷ ps))) h in
    absurd (grind (arith, both.0))

two_widths : (ps : List Param) → TwoPorts ps → widths_of ps ≡ 16 ∷ 16 ∷ []
two_widths ps t = ap widths_of t.are ∙ (λ i. t.first_width i ∷ t.second_width i ∷ [])

-- ---- the ingress role has a body

in_host : {A : Type 0} (d : Design) (f : HostDecl → Role → Role → List A) (h : HostDecl) (e s : Role) → host_decl d ≡ Some h → role_at 0 d h.entry.text ≡ Some e → role_at 0 d h.sink.text ≡ Some s → of_host d f ≡ f h e s
in_host {A} d f h e s p q r =
    ap (λ o. elim o as (λ x. List A) [ None ↦ [] | Some x ↦ elim (role_at 0 d x.entry.text) as (λ y. List A) [ None ↦ [] | Some y ↦ elim (role_at 0 d x.sink.text) as (λ z. List A) [ None ↦ [] | Some z ↦ f x y z ] ] ]) p
    ∙ ap (λ o. elim o as (λ y. List A) [ None ↦ [] | Some y ↦ elim (role_at 0 d h.sink.text) as (λ z. List A) [ None ↦ [] | Some z ↦ f h y z ] ]) q
    ∙ ap (λ o. elim o as (λ z. List A) [ None ↦ [] | Some z ↦ f h e z ]) r

not_both : (b : Bool) (o : Option Block) → b ≡ false → same_truth b (is_none o) ≡ true → (x : Block) × (o ≡ Some x)
not_both true o e h = absurd (cc)
not_both false None e h = absurd (cc)
not_both false (Some x) e h = (x, refl)

one_is_two : (n : ℕ) → (n == 1) ≡ true → (n == 2) ≡ true → ⊥
one_is_two n h k =
    let a : n ≡ 1 = grind (arith, h) in
    let b : n ≡ 2 = grind (arith, k) in absurd (omega (arith, a, b))

has_body : (d : Design) → WellFormed d → (s : SwitchDecl) → switch_decl d ≡ Some s → (h : HostDecl) → host_decl d ≡ Some h → (r : Role) → In r (roles_of d) → s.into.text ≡ r.name.text → (b : Block) × (r.body ≡ Some b)
has_body d w s sis h his r i name =
    let at = stands d 0 (a_host h) (host_outside d w h his) in
    let level : at.level ≡ 0 = omega (arith, at.within) in
    let entry = named_role d w 0 (a_host h) at h.entry (inl refl) in
    let sink = named_role d w 0 (a_host h) at h.sink (inr (inl refl)) in
    let entry_is : role_at 0 d h.entry.text ≡ Some entry.0 = subst (λ l. role_at l d h.entry.text ≡ Some entry.0) level entry.1 in
    let sink_is : role_at 0 d h.sink.text ≡ Some sink.0 = subst (λ l. role_at l d h.sink.text ≡ Some sink.0) level sink.1 in
    let e = entry.0 in
    let z = sink.0 in
    let forms = sym (in_host d (λ (x : HostDecl) (y z : Role).
    unless_named (not (same_name x.entry.text x.sink.text)) y.name
    ++ flat_map (λ (q : Role). unless_named (same_truth (same_name q.name.text x.sink.text) (is_none q.body)) q.name) (roles_of d)
    ++ unless_named (length y.params == 1) y.name ++ unless_named (length z.params == 1) z.name
    ++ unless (same_params y.params z.params) (if nat_lt z.name.at y.name.at then z.name.at else y.name.at)) h e z his entry_is sink_is) ∙ w sink_form in
    let sink_one = passes (length z.params == 1) z.name.at (nil_right _ _ (nil_left _ _ forms)) in
    let bodies = nil_right _ _ (nil_left _ _ (nil_left _ _ (nil_left _ _ forms))) in
    let truth = passes (same_truth (same_name r.name.text h.sink.text) (is_none r.body)) r.name.at (none_at (λ (q : Role). unless_named (same_truth (same_name q.name.text h.sink.text) (is_none q.body)) q.name) (roles_of d) bodies r i) in
    not_both (same_name r.name.text h.sink.text) r.body (other (same_name r.name.text h.sink.text) refl z sink_is sink_one) truth
  where
    other : (b : Bool) → same_name r.name.text h.sink.text ≡ b → (z : Role) → role_at 0 d h.sink.text ≡ Some z → (length z.params == 1) ≡ true → same_name r.name.text h.sink.text ≡ false
    other true is z at one =
        let there = role_in 0 d h.sink.text z at in
        let here : In z (roles_of d) = roles_grow 0 (last_level d) d z (omega arith) there.0 in
        let two = has_two d w s sis s.into (inl refl) z here (name ∙ same_text r.name.text h.sink.text is ∙ there.1) in
        absurd (one_is_two (length z.params) one (both_true (length z.params == 2) (list_all (λ v. v == 16) (widths_of z.params)) two).0)
    other false is z at one = is

-- ---- the parts

abbrev pub role_with : Design → (switch port : Param) → Block → SwitchRole
role_with d s p b = record { headers = d.headers; functions = reverse (functions d); switch = s.name.text; port = p.name.text; body = b }

-- where the ingress role of a design stands
pub record HasIngress (d : Design) (parts : NetParts) : Type 0 where
  pub switches_are : switch_decl d ≡ Some parts.switches
  pub hosts_are : host_decl d ≡ Some parts.hosts
  pub role : Role
  pub role_is : role_at (last_level d) d parts.switches.into.text ≡ Some role
  pub switch : Param
  pub port : Param
  pub params_are : role.params ≡ switch ∷ port ∷ []
  pub switch_width : switch.width ≡ 16
  pub port_width : port.width ≡ 16
  pub body : Block
  pub body_is : role.body ≡ Some body
  pub role_with_is : parts.role ≡ role_with d switch port body
  pub net_is : net_parts d ≡ Some parts

parts_of_design : (d : Design) (s : SwitchDecl) (h : HostDecl) (r : Role) (a b : Param) (body : Block) → switch_decl d ≡ Some s → host_decl d ≡ Some h → role_at (last_level d) d s.into.text ≡ Some r → r.params ≡ a ∷ b ∷ [] → r.body ≡ Some body
    → net_parts d ≡ Some (parts_with s h (role_with d a b body))
parts_of_design d s h r a b body sis his ris pis bis =
    let role : ingress_role d s ≡ Some (role_with d a b body) =
    ap (option_and_then (λ (x : Role). role_of_two d x.params x.body)) ris ∙ (λ i. role_of_two d (pis i) (bis i)) in
    ap (option_and_then (λ (x : SwitchDecl). option_and_then (λ (y : HostDecl). option_and_then (λ (z : SwitchRole). Some (parts_with x y z)) (ingress_role d x)) (host_decl d))) sis
    ∙ ap (option_and_then (λ (y : HostDecl). option_and_then (λ (z : SwitchRole). Some (parts_with s y z)) (ingress_role d s))) his
    ∙ ap (option_and_then (λ (z : SwitchRole). Some (parts_with s h z))) role

has_parts : (d : Design) → WellFormed d → (parts : NetParts) × HasIngress d parts
has_parts d w =
    let s = some_there (switch_decl d) (passes (is_some (switch_decl d)) 0 (w no_switch)) in
    let h = some_there (host_decl d) (passes (is_some (host_decl d)) 0 (w no_host)) in
    let at = stands d (last_level d) (a_switch s.0) (switch_in d s.0 s.1) in
    let q = named_role d w (last_level d) (a_switch s.0) at s.0.into (inl refl) in
    let r = later_role d at.level (last_level d) at.within s.0.into.text q.0 q.1 in
    let i = role_in (last_level d) d s.0.into.text r.0 r.1 in
    let two = two_of r.0.params (has_two d w s.0 s.1 s.0.into (inl refl) r.0 i.0 i.1) in
    let b = has_body d w s.0 s.1 h.0 h.1 r.0 i.0 i.1 in (
      parts_with s.0 h.0 (role_with d two.first two.second b.0),
      record {
        switches_are = s.1;
        hosts_are = h.1;
        role = r.0;
        role_is = r.1;
        switch = two.first;
        port = two.second;
        params_are = two.are;
        switch_width = two.first_width;
        port_width = two.second_width;
        body = b.0;
        body_is = b.1;
        role_with_is = refl {a = role_with d two.first two.second b.0};
        net_is = parts_of_design d s.0 h.0 r.0 two.first two.second b.0 s.1 h.1 r.1 two.are b.1;
      },
    )

pub design_has_parts : (d : Design) → WellFormed d → (parts : NetParts) × (net_parts d ≡ Some parts)
design_has_parts d w = let t = has_parts d w in (t.0, t.1.net_is)

pub parts_ingress : (d : Design) → WellFormed d → (parts : NetParts) → net_parts d ≡ Some parts → HasIngress d parts
parts_ingress d w parts h = let t = has_parts d w in subst (HasIngress d) (some_same t.0 parts (sym t.1.net_is ∙ h)) t.1

-- the egress role has two parameters of 16 bits
pub exit_widths : (d : Design) → WellFormed d → (s : SwitchDecl) → switch_decl d ≡ Some s → (x : Role) → role_at (last_level d) d s.out.text ≡ Some x → widths_of x.params ≡ 16 ∷ 16 ∷ []
exit_widths d w s h x is =
    let i = role_in (last_level d) d s.out.text x is in
    two_widths x.params (two_of x.params (has_two d w s h s.out (inr (inl refl)) x i.0 i.1))

-- ---- its body is of the form

any_some : (x : List ℕ) (ns : List Name) → has_name x ns ≡ true → (m : Name) × In m ns × (x ≡ m.text)
any_some x [] h = absurd (cc)
any_some x (n ∷ ns) h = by_test (any_some x ns) (same_name x n.text) refl
  where
    by_test : (has_name x ns ≡ true → (m : Name) × In m ns × (x ≡ m.text)) → (b : Bool) → same_name x n.text ≡ b → (m : Name) × In m (n ∷ ns) × (x ≡ m.text)
    by_test later true is = (n, inl refl, same_text x n.text is)
    by_test later false is =
        let rest : has_name x ns ≡ true = ap (λ c. c || has_name x ns) (sym is) ∙ h in
        let t = later rest in (t.0, inr t.1, t.2)

once_in : (n : Name) (ns : List Name) → In n ns → (m : Name) × In m (each_once ns) × (n.text ≡ m.text)
once_in n [] i = absurd i
once_in n (y ∷ ns) i = by_test (λ k. once_in k ns) (has_name y.text ns) refl
  where
    later : ((k : Name) → In k ns → (m : Name) × In m (each_once ns) × (k.text ≡ m.text)) → (k : Name) → In k ns → n.text ≡ k.text → (m : Name) × In m (each_once ns) × (n.text ≡ m.text)
    later rest k j e = let t = rest k j in (t.0, t.1, e ∙ t.2)

    by_test : ((k : Name) → In k ns → (m : Name) × In m (each_once ns) × (k.text ≡ m.text)) → (b : Bool) → has_name y.text ns ≡ b → (m : Name) × In m (if b then each_once ns else y ∷ each_once ns) × (n.text ≡ m.text)
    by_test rest true is = elim i [
      | inl e ↦ let t = any_some y.text ns is in later rest t.0 t.1 (ap (λ (z : Name). z.text) e ∙ t.2)
      | inr k ↦ later rest n k refl
    ]
    by_test rest false is = elim i [
      | inl e ↦ (y, inl refl, ap (λ (z : Name). z.text) e)
      | inr k ↦ let t = rest n k in (t.0, inr t.1, t.2)
    ]

last_are : (d : Design) (x : List ℕ) (r : Role) (b : Block) → role_at (last_level d) d x ≡ Some r → r.body ≡ Some b → last_stmts d x ≡ stmts_in (scope_at d (last_level d) r.params true) false b
last_are d x r b ris bis =
    ap (λ o. elim o as (λ y. List StmtSite) [
      | None ↦ []
      | Some y ↦ elim y.body as (λ z. List StmtSite) [ None ↦ [] | Some z ↦ stmts_in (scope_at d (last_level d) y.params true) false z ]
    ]) ris
    ∙ ap (λ o. elim o as (λ z. List StmtSite) [ None ↦ [] | Some z ↦ stmts_in (scope_at d (last_level d) r.params true) false z ]) bis

choice_none : (site : StmtSite) → unless (not (is_choice site.s)) (stmt_at site.s) ≡ [] → is_choice site.s ≡ false
choice_none site h = by_test (is_choice site.s) (passes (not (is_choice site.s)) (stmt_at site.s) h)
  where
    by_test : (b : Bool) → not b ≡ true → b ≡ false
    by_test true k = absurd (cc)
    by_test false k = refl

fork_test : (d : Design) (site : StmtSite) → (elim site.s as (λ s. List ℕ) [
  | fork at x w e b ↦ unless (fork_condition d x.text e && not (list_any is_fork (stmts_in (with_var x w site.scope) false b))) at
  | _ ↦ []
]) ≡ [] → fork_fits d site ≡ true
fork_test d site h = by_stmt site.s h
  where
    by_stmt : (s : Stmt) → (elim s as (λ s. List ℕ) [
      | fork at x w e b ↦ unless (fork_condition d x.text e && not (list_any is_fork (stmts_in (with_var x w site.scope) false b))) at
      | _ ↦ []
    ]) ≡ [] → fork_fits d (record { scope = site.scope; ended = site.ended; s = s }) ≡ true
    by_stmt (let_ at x w e) k = refl
    by_stmt (set_field at x f e) k = refl
    by_stmt (if_ at e a b) k = refl
    by_stmt (filter_stmt at e) k = refl
    by_stmt (havoc_var at x w) k = refl
    by_stmt (havoc_field at x f) k = refl
    by_stmt (assume at e) k = refl
    by_stmt (fork at x w e b) k = passes (fork_condition d x.text e && not (list_any is_fork (stmts_in (with_var x w site.scope) false b))) at k
    by_stmt (send at r es) k = refl

send_test : (out : List ℕ) (own : Option Param) (site : StmtSite) → (elim site.s as (λ s. List ℕ) [ send at r es ↦ unless (is_own_out out own r es) at | _ ↦ [] ]) ≡ [] → send_fits out own site ≡ true
send_test out own site h = by_stmt site.s h
  where
    by_stmt : (s : Stmt) → (elim s as (λ s. List ℕ) [ send at r es ↦ unless (is_own_out out own r es) at | _ ↦ [] ]) ≡ [] → send_fits out own (record { scope = site.scope; ended = site.ended; s = s }) ≡ true
    by_stmt (let_ at x w e) k = refl
    by_stmt (set_field at x f e) k = refl
    by_stmt (if_ at e a b) k = refl
    by_stmt (filter_stmt at e) k = refl
    by_stmt (havoc_var at x w) k = refl
    by_stmt (havoc_field at x f) k = refl
    by_stmt (assume at e) k = refl
    by_stmt (fork at x w e b) k = refl
    by_stmt (send at r es) k = passes (is_own_out out own r es) at k

true_false : false ≡ true → ⊥
true_false e = absurd (cc)

-- the parameter of the own switch, as the rule on sends finds it
abbrev own_param : Design → SwitchDecl → Option Param
own_param d s = option_and_then (λ (x : Role). first_of x.params) (role_at (last_level d) d s.into.text)

-- the statements of the ingress role
pub into_are : (d : Design) (parts : NetParts) (g : HasIngress d parts) → into_stmts d ≡ stmts_in (scope_at d (last_level d) g.role.params true) false g.body
into_are d parts g =
    ap (λ o. elim o as (λ x. List StmtSite) [ None ↦ [] | Some x ↦ last_stmts d x.into.text ]) g.switches_are ∙ last_are d parts.switches.into.text g.role g.body g.role_is g.body_is

pub body_formed : (d : Design) → WellFormed d → DesignLiteralsFit d → (parts : NetParts) (g : HasIngress d parts)
    → IsTyped (scope_at d (last_level d) g.role.params true) g.body × Formed (reverse (functions d)) g.switch.name.text parts.switches.out.text false g.role.params g.body
body_formed d w l parts g =
    let i = last_level d in
    let s = parts.switches in
    let into = role_in i d s.into.text g.role g.role_is in
    let typed = (role_typed d w l i g.role into.0).body g.body g.body_is in
    let a = scope_at d i g.role.params true in
    let at = role_stands i d g.role into.0 in
    let site = site_at d at.level at.before (a_role g.role) in
    let b = record (inner site) { packet = true } in
    let sites = stmts_in a false g.body in
    let last = last_are d s.into.text g.role g.body g.role_is g.body_is in
    let first : own_param d s ≡ Some g.switch = ap (option_and_then (λ (x : Role). first_of x.params)) g.role_is ∙ ap (λ ps. first_of ps) g.params_are in
    let name_in : In g.role.name (role_names (all_decls d)) = in_map (λ (x : Role). x.name) g.role (roles_of d) into.0 in
    let once = once_in g.role.name (role_names (all_decls d)) name_in in
    let choices = none_at (λ (r : Name). flat_map (λ (x : StmtSite). unless (not (is_choice x.s)) (stmt_at x.s)) (last_stmts d r.text)) (all_roles d) (w last_choice) once.0 once.1 in
    let same : last_stmts d once.0.text ≡ sites = ap (last_stmts d) (sym (into.1 ∙ once.2)) ∙ last in
    let no_choice = subst (λ xs. flat_map (λ (x : StmtSite). unless (not (is_choice x.s)) (stmt_at x.s)) xs ≡ []) same choices in
    let same_sites = into_are d parts g in
    let forks = subst (λ xs. flat_map (λ (x : StmtSite). elim x.s as (λ s. List ℕ) [
      | fork at x' w e b ↦ unless (fork_condition d x'.text e && not (list_any is_fork (stmts_in (with_var x' w x.scope) false b))) at
      | _ ↦ []
    ]) xs ≡ []) same_sites (w fork_form) in
    let sends = subst (λ xs. flat_map (λ (x : StmtSite). elim x.s as (λ s. List ℕ) [ send at r es ↦ unless (is_own_out s.out.text (own_param d s) r es) at | _ ↦ [] ]) xs ≡ []) same_sites
    (ap (λ o. elim o as (λ x. List ℕ) [ None ↦ [] | Some x ↦ switch_sends d x ]) (sym g.switches_are) ∙ nil_right _ _ (w not_switch_form)) in
    let ruled : AllRuled d s.out.text (own_param d s) false sites = λ x j. record {
      no_choice = choice_none x (none_at (λ (y : StmtSite). unless (not (is_choice y.s)) (stmt_at y.s)) sites no_choice x j);
      forks = fork_test d x (none_at _ sites forks x j);
      sends = send_test s.out.text (own_param d s) x (none_at _ sites sends x j);
      alone = λ e. absurd (true_false e);
    } in
    let all = nil_right _ _ (nil_left _ _ (nil_left _ _ (nil_left _ _ (nil_left _ _ (nil_left _ _ (w twice)))))) in
    let own_stmts : stmts_of_decl site ≡ stmts_in b false g.body = ap (λ o. elim o as (λ y. List StmtSite) [ None ↦ [] | Some y ↦ stmts_in b false y ]) g.body_is in
    let bound_once : BoundOnce (stmts_in b false g.body) = λ x j.
    none_at bound_again (all_stmts d) all x (in_flat stmts_of_decl site (decl_sites d) x at.at (subst (In x) (sym own_stmts) j)) in (
      typed,
      formed d i g.switch.name.text s.out.text (own_param d s) (record { differ = names_differ d w; first = g.switch; first_is = first; own_is = refl }) g.body a b g.role.params refl (append-nil g.role.params)
          false false false typed ruled bound_once,
    )
