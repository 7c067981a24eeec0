-- The host roles stand at level 0, and of all roles the sink alone has no body.
use Rattle.std.proofs.Common.{◌≡◌, inl, inr, ℕ, zero, suc, List, [], ◌∷◌, ◌++◌, map, length, take, Bool, true, false, Option, Some, None, is_some, is_none, refl, sym, ap, subst, ◌∙◌, arith}
use Rattle.std.specs.Prelude.{flat_map, filter_map, option_to_list}
use Rattle.cocoon_num.specs.Names.{same_name}
use Rattle.cocoon_num.specs.Tree.{Block, FunctionDecl, Role, HostDecl, Decl, a_function, an_assumption, a_role, a_host, a_switch, Refine, Design}
use Rattle.cocoon_types.specs.Design.{all_decls, as_function, as_host, host_decl, role_at}
use Rattle.cocoon_types.specs.LastLevel.{of_host}
use Rattle.cocoon_types.specs.NameRules.{hosts_at, unknown_role_in_decl, unknown_role_at}
use Rattle.cocoon_types.specs.RuleParts.{unless_named, roles_of}
use Rattle.cocoon_types.specs.Rules.{WellFormed, twice, unknown_role, no_host, sink_form}
use Rattle.cocoon_types.specs.Runs.{Loc, IsSink, world}
use Rattle.cocoon_types.specs.SameTrees.{same_truth}
use Rattle.cocoon_types.specs.Sites.{DeclSite, sites_of, sites_from, decl_sites}
use Rattle.cocoon_types.specs.Tables.{Defs}
use Rattle.sound_types.proofs.Options.{nil_left, nil_right, passes, same_text, some_there, text_self}
use Rattle.sound_types.proofs.Members.{In, at_place, in_either, in_filter, filter_in, in_left, none_at}
use Rattle.sound_types.proofs.Levels.{block_decls, role_in, role_there, roles_all, roles_grow}

-- ---- where the hosts are declared

is_host : (x : Decl) (h : HostDecl) → as_host x ≡ Some h → x ≡ a_host h
is_host (a_function f) h e = absurd (cc)
is_host (an_assumption a) h e = absurd (cc)
is_host (a_role r) h e = absurd (cc)
is_host (a_host y) h e = let same : y ≡ h = cc in ap a_host same
is_host (a_switch s) h e = absurd (cc)

-- a declaration with what is in scope before it
abbrev site_at : Design → (level : ℕ) → List FunctionDecl → Decl → DeclSite
site_at d level before x = record { scope = record { design = d; vars = []; before = before; level = level; packet = false }; decl = x }

sites_in : (d : Design) (level : ℕ) (before : List FunctionDecl) (ds : List Decl) (x : Decl) → In x ds → (fs : List FunctionDecl) × In (site_at d level fs x) (sites_of d level before ds)
sites_in d level before [] x i = absurd i
sites_in d level before (y ∷ ds) x i = elim i [
  | inl e ↦ (before, inl (ap (site_at d level before) e))
  | inr k ↦ let t = sites_in d level (before ++ option_to_list (as_function y)) ds x k in (t.0, inr t.1)
]

-- no element of an empty list
none_in : {A : Type 0} (xs : List A) (x : A) → xs ≡ [] → In x xs → ⊥
none_in [] x e i = i
none_in (y ∷ xs) x e i = absurd (cc)

mapped : {A B : Type 0} (f : A → B) (xs : List A) → map f xs ≡ [] → xs ≡ []
mapped f [] h = refl
mapped f (x ∷ xs) h = absurd (cc)

-- blocks without hosts
no_hosts : (bs : List Refine) (n : ℕ) → flat_map (λ (b : Refine). hosts_at b.decls) bs ≡ [] → (x : Decl) (h : HostDecl) → as_host x ≡ Some h → In x (block_decls (take n bs)) → ⊥
no_hosts bs zero e x h k i = i
no_hosts [] (suc n) e x h k i = i
no_hosts (b ∷ bs) (suc n) e x h k i = elim (in_either x b.decls (block_decls (take n bs)) i) [
  | inl j ↦ none_in (filter_map as_host b.decls) h (mapped (λ (y : HostDecl). y.at) (filter_map as_host b.decls) (nil_left (hosts_at b.decls) (flat_map (λ (c : Refine). hosts_at c.decls) bs) e)) (filter_in as_host b.decls x h j k)
  | inr j ↦ no_hosts bs n (nil_right (hosts_at b.decls) (flat_map (λ (c : Refine). hosts_at c.decls) bs) e) x h k j
]

-- the host roles of a design that keeps the rules
pub record HasHosts (d : Design) : Type 0 where
  pub hosts : HostDecl
  pub are : host_decl d ≡ Some hosts
  pub entry : Role
  pub entry_is : role_at 0 d hosts.entry.text ≡ Some entry
  pub sink : Role
  pub sink_is : role_at 0 d hosts.sink.text ≡ Some sink

pub has_hosts : (d : Design) → WellFormed d → HasHosts d
has_hosts d w =
    let there : (h : HostDecl) × (host_decl d ≡ Some h) = some_there (host_decl d) (passes (is_some (host_decl d)) 0 (w no_host)) in
    let h = there.0 in
    let x = in_filter as_host (all_decls d) h (at_place (filter_map as_host (all_decls d)) 0 h there.1) in
    let first : In x.0 d.decls =
    elim (in_either x.0 d.decls (block_decls (take (length d.refines) d.refines)) x.1) [
      | inl k ↦ k
      | inr k ↦ absurd (no_hosts d.refines (length d.refines) (nil_right _ _ (nil_left _ _ (w twice))) x.0 h x.2 k)
    ] in
    let site = sites_in d 0 [] d.decls x.0 first in
    let known = none_at unknown_role_in_decl (decl_sites d) (nil_right _ _ (w unknown_role)) (site_at d 0 site.0 x.0) (in_left (site_at d 0 site.0 x.0) (sites_of d 0 [] d.decls) (sites_from d 1 (filter_map as_function d.decls) d.refines) site.1) in
    let both : flat_map (unknown_role_at (site_at d 0 site.0 x.0).scope) (h.entry ∷ h.sink ∷ []) ≡ [] =
    subst (λ y. unknown_role_in_decl (site_at d 0 site.0 y) ≡ []) (is_host x.0 h x.2) known in
    let e = some_there (role_at 0 d h.entry.text) (passes (is_some (role_at 0 d h.entry.text)) h.entry.at (none_at (unknown_role_at (site_at d 0 site.0 x.0).scope) (h.entry ∷ h.sink ∷ []) both h.entry (inl refl))) in
    let s = some_there (role_at 0 d h.sink.text) (passes (is_some (role_at 0 d h.sink.text)) h.sink.at (none_at (unknown_role_at (site_at d 0 site.0 x.0).scope) (h.entry ∷ h.sink ∷ []) both h.sink (inr (inl refl)))) in
    record { hosts = h; are = there.1; entry = e.0; entry_is = e.1; sink = s.0; sink_is = s.1 }

-- ---- the sink

-- what a rule on the host roles gives of them
of_these : {A : Type 0} (d : Design) (f : HostDecl → Role → Role → List A) (h : HasHosts d) → of_host d f ≡ f h.hosts h.entry h.sink
of_these d f h = rw (of_host, h.are, h.entry_is, h.sink_is) refl

both_ways : (a b : Bool) → same_truth a b ≡ true → a ≡ b
both_ways true true h = refl
both_ways true false h = absurd (cc)
both_ways false true h = absurd (cc)
both_ways false false h = refl

-- a role has the name of the sink where it has no body, and only there
bodiless : (d : Design) → WellFormed d → (h : HasHosts d) (r : Role) → In r (roles_of d) → same_name r.name.text h.hosts.sink.text ≡ is_none r.body
bodiless d w h r i =
    let forms = sym (of_these d _ h) ∙ w sink_form in
    let one = none_at (λ (q : Role). unless_named (same_truth (same_name q.name.text h.hosts.sink.text) (is_none q.body)) q.name) (roles_of d) (nil_right _ _ (nil_left _ _ (nil_left _ _ (nil_left _ _ forms)))) r i in
    both_ways (same_name r.name.text h.hosts.sink.text) (is_none r.body) (passes (same_truth (same_name r.name.text h.hosts.sink.text) (is_none r.body)) r.name.at one)

no_body : (o : Option Block) → is_none o ≡ true → o ≡ None
no_body None h = refl
no_body (Some b) h = absurd (cc)

-- the sink of a level has the name of the sink
pub sink_named : (d : Design) → WellFormed d → (h : HasHosts d) (i : ℕ) (defs : Defs) (at : Loc) → IsSink (world i d defs) at → at.role ≡ h.hosts.sink.text
sink_named d w h i defs at s =
    let t = role_in i d at.role s.0 s.1 in
    t.1 ∙ same_text s.0.name.text h.hosts.sink.text (bodiless d w h s.0 (roles_all i d s.0 t.0) ∙ ap (λ (o : Option Block). is_none o) s.2)

-- the sink is so at each level
pub sink_stays : (d : Design) → WellFormed d → (i j : ℕ) (defs : Defs) (at : Loc) → IsSink (world i d defs) at → IsSink (world j d defs) at
sink_stays d w i j defs at s =
    let h = has_hosts d w in
    let name = sink_named d w h i defs at s in
    let first = role_in 0 d h.hosts.sink.text h.sink h.sink_is in
    let there = role_there j d at.role h.sink (roles_grow 0 j d h.sink (omega arith) first.0) (name ∙ first.1) in
    let t = role_in j d at.role there.0 there.1 in
    let same : same_name there.0.name.text h.hosts.sink.text ≡ true = ap (λ x. same_name x h.hosts.sink.text) (sym t.1 ∙ name) ∙ text_self h.hosts.sink.text in
    (there.0, there.1, no_body there.0.body (sym (bodiless d w h there.0 (roles_all j d there.0 t.0)) ∙ same))
