-- What the rules say of the roles of hosts and of switches at the last level.
use Rattle.std.proofs.Common.{◌≡◌, ◌⊎◌, inl, inr, ℕ, ◌==◌, ◌&&◌, ◌||◌, not, Bool, true, false, List, [], ◌∷◌, ◌++◌, map, length, take, Option, Some, None, is_none, is_some, refl, sym, ap, subst, ◌∙◌, arith}
use Rattle.std.specs.Prelude.{flat_map, filter_map}
use Rattle.std.specs.List.{cons_option, list_all}
use Rattle.std.proofs.lemmas.Bool.{eqb-true}
use Rattle.std.proofs.lemmas.List.{take_all}
use Rattle.cocoon_num.specs.Lists.{first_of}
use Rattle.cocoon_num.specs.Names.{same_name}
use Rattle.cocoon_num.specs.Tree.{Name, Expr, name, field, lit, true_or_false, call, unary, binary, slice, pick, Exprs, no_exprs, expr, Block, Param, Role, HostDecl, SwitchDecl, Decl, a_function, an_assumption, a_role, a_host, a_switch, Refine, Design}
use Rattle.cocoon_num.specs.Values.{less, and_}
use Rattle.cocoon_types.specs.Design.{all_decls, as_host, host_decl, last_level, role_at, switch_decl, widths_of}
use Rattle.cocoon_types.specs.DefsRules.{guard_call}
use Rattle.cocoon_types.specs.FormRules.{declared_as, guard_function, guards_by, host_guard, is_runtime, is_wire, switch_declared, switch_guard, two_ports}
use Rattle.cocoon_types.specs.LastLevel.{called, of_host, switch_names}
use Rattle.cocoon_types.specs.NameRules.{hosts_at, unknown_role_at, unknown_role_in_decl}
use Rattle.cocoon_types.specs.RuleParts.{param_names, repeated, roles_of, unless_named}
use Rattle.cocoon_types.specs.Rules.{WellFormed, twice, unknown_role, too_wide, sink_form, guard_form, not_switch_form}
use Rattle.cocoon_types.specs.SameTrees.{same_expr, same_exprs, same_truth}
use Rattle.cocoon_types.specs.Sites.{DeclSite, decl_sites, params_of}
use Rattle.cocoon_types.specs.TypeRules.{wide_params}
use Rattle.runtime_defs.specs.Guards.{host_function, switch_function}
use Rattle.lowering_correct.proofs.Guards.{guards_fit, guards_same, is_and, is_binary, kept}
use Rattle.sound_types.proofs.Levels.{block_decls, role_in, role_stands, role_there, roles_all, roles_grow, site_at, stands}
use Rattle.sound_types.proofs.Members.{In, at_place, filter_in, flat_in, in_either, in_filter, in_left, in_right, none_at}
use Rattle.sound_types.proofs.Options.{both_true, nil_left, nil_right, passes, same_text, some_there, text_self}

-- ---- forms of guards

pub record HostForm (d : Design) (ps : List Param) (e : Expr) : Type 0 where
  pub param : Param
  pub at : ℕ
  pub function : Name
  pub args : Exprs
  pub params_are : ps ≡ param ∷ []
  pub is_call : e ≡ call at function args
  pub runtime : is_runtime d function.text ≡ true
  pub args_are : same_exprs args (expr (name 0 param.name.text) no_exprs) ≡ true

pub host_form : (d : Design) (ps : List Param) (e : Expr) → host_guard d ps e ≡ true → HostForm d ps e
host_form d [] e h = absurd (cc)
host_form d (p ∷ q ∷ ps) e h = absurd (cc)
host_form d (p ∷ []) (name at x) h = absurd (cc)
host_form d (p ∷ []) (field at x f) h = absurd (cc)
host_form d (p ∷ []) (lit at w n) h = absurd (cc)
host_form d (p ∷ []) (true_or_false at b) h = absurd (cc)
host_form d (p ∷ []) (unary at op a) h = absurd (cc)
host_form d (p ∷ []) (binary at op a b) h = absurd (cc)
host_form d (p ∷ []) (slice at a high low) h = absurd (cc)
host_form d (p ∷ []) (pick at c a b) h = absurd (cc)
host_form d (p ∷ []) (call at f es) h =
    let both = both_true (is_runtime d f.text) (same_exprs es (expr (name 0 p.name.text) no_exprs)) h in
    record { param = p; at = at; function = f; args = es; params_are = refl; is_call = refl; runtime = both.0; args_are = both.1 }

pub record SwitchForm (d : Design) (ports : ℕ) (ps : List Param) (e : Expr) : Type 0 where
  pub switch : Param
  pub port : Param
  pub params_are : ps ≡ switch ∷ port ∷ []
  pub runtime : is_runtime d (guard_function e) ≡ true
  pub is_so : same_expr e (binary 0 and_ (call 0 (record { at = 0; text = guard_function e }) (expr (name 0 switch.name.text) no_exprs)) (binary 0 less (name 0 port.name.text) (lit 0 16 ports))) ≡ true
  pub calls : guard_call e ≡ guard_function e ∷ []

pub switch_form : (d : Design) (ports : ℕ) (ps : List Param) (e : Expr) → switch_guard d ports ps e ≡ true → SwitchForm d ports ps e
switch_form d ports [] e h = absurd (cc)
switch_form d ports (s ∷ []) e h = absurd (cc)
switch_form d ports (s ∷ p ∷ q ∷ ps) e h = absurd (cc)
switch_form d ports (s ∷ p ∷ []) e h =
    let f = call 0 (record { at = 0; text = guard_function e }) (expr (name 0 s.name.text) no_exprs) in
    let l = binary 0 less (name 0 p.name.text) (lit 0 16 ports) in
    let both = both_true (is_runtime d (guard_function e)) (same_expr e (binary 0 and_ f l)) h in
    let b = is_binary and_ is_and e f l both.1 in
    record {
      switch = s;
      port = p;
      params_are = refl;
      runtime = both.0;
      is_so = both.1;
      calls = ap guard_call b.3 ∙ ap (λ x. guard_function x ∷ []) (sym b.3);
    }

-- ---- the design

module _ (d : Design) (rules : WellFormed d) where
  -- parameters of a role have names of their own, and declared widths
  site_params : (r : Role) → In r (roles_of d) → (site : DeclSite) × In site (decl_sites d) × (params_of site.decl ≡ r.params)
  site_params r i = let t = role_stands (last_level d) d r i in (site_at d t.level t.before (a_role r), t.at, refl)

  pub own_names : (r : Role) → In r (roles_of d) → repeated [] (param_names r.params) ≡ []
  own_names r i =
      let t = site_params r i in
      ap (λ ps. repeated [] (param_names ps)) (sym t.2)
      ∙ none_at (λ (s : DeclSite). repeated [] (param_names (params_of s.decl))) (decl_sites d)
      (nil_right _ _ (nil_left _ _ (nil_left _ _ (nil_left _ _ (nil_left _ _ (nil_left _ _ (nil_left _ _ (rules twice)))))))) t.0 t.1

  pub narrow : (r : Role) → In r (roles_of d) → wide_params r.params ≡ []
  narrow r i =
      let t = site_params r i in
      ap wide_params (sym t.2)
      ∙ none_at (λ (s : DeclSite). wide_params (params_of s.decl)) (decl_sites d) (nil_right _ _ (nil_left _ _ (nil_left _ _ (nil_left _ _ (rules too_wide))))) t.0 t.1

-- ---- hosts

is_host : (x : Decl) (h : HostDecl) → as_host x ≡ Some h → x ≡ a_host h
is_host (a_function f) h e = absurd (cc)
is_host (an_assumption a) h e = absurd (cc)
is_host (a_role r) h e = absurd (cc)
is_host (a_host x) h e = let same : x ≡ h = cc in ap a_host same
is_host (a_switch x) h e = absurd (cc)

none_in : {A B : Type 0} (f : A → B) (xs : List A) (x : A) → map f xs ≡ [] → In x xs → ⊥
none_in f [] x h i = i
none_in f (y ∷ xs) x h i = cc

pub of_host_is : {A : Type 0} (d : Design) (f : HostDecl → Role → Role → List A) (h : HostDecl) (e s : Role) → host_decl d ≡ Some h → role_at 0 d h.entry.text ≡ Some e → role_at 0 d h.sink.text ≡ Some s
    → of_host d f ≡ f h e s
of_host_is {A} d f h e s eh ee es =
    ap (λ (o : Option HostDecl). elim o as (λ x. List A) [
      | None ↦ []
      | Some x ↦ elim (role_at 0 d x.entry.text) as (λ y. List A) [ None ↦ [] | Some y ↦ elim (role_at 0 d x.sink.text) as (λ z. List A) [ None ↦ [] | Some z ↦ f x y z ] ]
    ]) eh
    ∙ ap (λ (o : Option Role). elim o as (λ y. List A) [ None ↦ [] | Some y ↦ elim (role_at 0 d h.sink.text) as (λ z. List A) [ None ↦ [] | Some z ↦ f h y z ] ]) ee
    ∙ ap (λ (o : Option Role). elim o as (λ z. List A) [ None ↦ [] | Some z ↦ f h e z ]) es

module _ (d : Design) (rules : WellFormed d) (h : HostDecl) (eh : host_decl d ≡ Some h) where
  -- the declaration of hosts stands outside of blocks
  at_top : In (a_host h) d.decls
  at_top =
      let all = at_place (filter_map as_host (all_decls d)) 0 h eh in
      let x = in_filter as_host (all_decls d) h all in
      let is = is_host x.0 h x.2 in
      elim (in_either x.0 d.decls (block_decls (take (last_level d) d.refines)) x.1) [
        | inl i ↦ subst (λ y. In y d.decls) is i
        | inr i ↦
            let b = flat_in (λ (r : Refine). r.decls) x.0 (take (last_level d) d.refines) i in
            let among : In b.0 d.refines = subst (In b.0) (take_all (length d.refines) d.refines (omega arith)) b.1 in
            let none = none_at (λ (r : Refine). hosts_at r.decls) d.refines (nil_right _ _ (nil_left _ _ (rules twice))) b.0 among in
            absurd (none_in (λ (y : HostDecl). y.at) (filter_map as_host b.0.decls) h none (filter_in as_host b.0.decls x.0 h b.2 x.2))
      ]

  known_at : (n : Name) → In n (h.entry ∷ h.sink ∷ []) → is_some (role_at 0 d n.text) ≡ true
  known_at n i =
      let t = stands d 0 (a_host h) (in_left (a_host h) d.decls [] at_top) in
      let level : t.level ≡ 0 = let l = t.within in omega (arith, l) in
      let none = none_at unknown_role_in_decl (decl_sites d) (nil_right _ _ (rules unknown_role)) (site_at d t.level t.before (a_host h)) t.at in
      let one = none_at (unknown_role_at (site_at d t.level t.before (a_host h)).scope) (h.entry ∷ h.sink ∷ []) none n i in
      ap (λ l. is_some (role_at l d n.text)) (sym level) ∙ passes (is_some (role_at t.level d n.text)) n.at one

  pub entry_first : (e : Role) × (role_at 0 d h.entry.text ≡ Some e)
  entry_first = some_there (role_at 0 d h.entry.text) (known_at h.entry (inl refl))

  pub sink_first : (s : Role) × (role_at 0 d h.sink.text ≡ Some s)
  sink_first = some_there (role_at 0 d h.sink.text) (known_at h.sink (inr (inl refl)))

  later : (n : Name) (r : Role) → role_at 0 d n.text ≡ Some r → (q : Role) × (role_at (last_level d) d n.text ≡ Some q)
  later n r e = let t = role_in 0 d n.text r e in role_there (last_level d) d n.text r (roles_grow 0 (last_level d) d r (omega arith) t.0) t.1

  pub sink_last : (s : Role) × (role_at (last_level d) d h.sink.text ≡ Some s)
  sink_last = later h.sink sink_first.0 sink_first.1

  sinks : unless_named (not (same_name h.entry.text h.sink.text)) entry_first.0.name
      ++ flat_map (λ (r : Role). unless_named (same_truth (same_name r.name.text h.sink.text) (is_none r.body)) r.name) (roles_of d)
      ++ unless_named (length entry_first.0.params == 1) entry_first.0.name ++ unless_named (length sink_first.0.params == 1) sink_first.0.name ≡ []
  sinks = nil_left _ _ (sym (of_host_is d _ h entry_first.0 sink_first.0 eh entry_first.1 sink_first.1) ∙ rules sink_form)

  -- the entry role is not the sink
  pub roles_apart : same_name h.entry.text h.sink.text ≡ false
  roles_apart = turned (same_name h.entry.text h.sink.text) (passes _ _ (nil_left _ _ (nil_left _ _ (nil_left _ _ sinks))))
    where
      turned : (b : Bool) → not b ≡ true → b ≡ false
      turned true e = absurd (cc)
      turned false e = refl

  bodies : (r : Role) → In r (roles_of d) → same_truth (same_name r.name.text h.sink.text) (is_none r.body) ≡ true
  bodies r i = passes _ _ (none_at (λ (q : Role). unless_named (same_truth (same_name q.name.text h.sink.text) (is_none q.body)) q.name) (roles_of d) (nil_right _ _ (nil_left _ _ (nil_left _ _ sinks))) r i)

  -- the sink has no body
  pub sink_bodiless : (r : Role) → role_at (last_level d) d h.sink.text ≡ Some r → r.body ≡ None
  sink_bodiless r e =
      let t = role_in (last_level d) d h.sink.text r e in
      none r.body (ap (λ b. same_truth b (is_none r.body)) (sym (ap (λ x. same_name x h.sink.text) (sym t.1) ∙ text_self h.sink.text)) ∙ bodies r t.0)
    where
      none : (o : Option Block) → same_truth true (is_none o) ≡ true → o ≡ None
      none None k = refl
      none (Some b) k = absurd (cc)

  one_param : (r : Role) → (length r.params == 1) ≡ true → length r.params ≡ 1
  one_param r e = eqb-true (length r.params) 1 e

  pub entry_one : length entry_first.0.params ≡ 1
  entry_one = one_param entry_first.0 (passes _ _ (nil_right _ _ (nil_left _ _ sinks)))

  pub sink_one : length sink_first.0.params ≡ 1
  sink_one = one_param sink_first.0 (passes _ _ (nil_right _ _ sinks))

  -- ---- their guards

  abbrev host_roles : List Role
  host_roles = declared_as h.entry.text (roles_of d) ++ declared_as h.sink.text (roles_of d)

  guards : guards_by (host_guard d) called host_roles ≡ []
  guards = sym (of_host_is d _ h entry_first.0 sink_first.0 eh entry_first.1 sink_first.1) ∙ nil_left _ _ (rules guard_form)

  among : (x : List ℕ) (r : Role) → In r (roles_of d) → x ≡ r.name.text → In r (declared_as x (roles_of d))
  among x r i e = kept (λ (q : Role). same_name x q.name.text) r (roles_of d) i (ap (λ y. same_name x y) (sym e) ∙ text_self x)

  is_host_role : (r : Role) → In r (roles_of d) → (h.entry.text ≡ r.name.text) ⊎ (h.sink.text ≡ r.name.text) → In r host_roles
  is_host_role r i e = elim e [
    | inl k ↦ in_left r (declared_as h.entry.text (roles_of d)) (declared_as h.sink.text (roles_of d)) (among h.entry.text r i k)
    | inr k ↦ in_right r (declared_as h.entry.text (roles_of d)) (declared_as h.sink.text (roles_of d)) (among h.sink.text r i k)
  ]

  -- the entry role and the sink have guards of the form, by the function of hosts
  pub host_guarded : (r : Role) → In r (roles_of d) → (h.entry.text ≡ r.name.text) ⊎ (h.sink.text ≡ r.name.text) → (host_guard d r.params r.guard ≡ true) × (host_function d ≡ Some (called r.guard))
  host_guarded r i e =
      let first = entry_first.0 in
      let t = role_in 0 d h.entry.text first entry_first.1 in
      let one = is_host_role first (roles_all 0 d first t.0) (inl t.1) in
      let all = guards_fit (host_guard d) called host_roles guards in
      let form = host_form d first.params first.guard (all first one) in
      let calls : guard_call first.guard ≡ called first.guard ∷ [] = ap guard_call form.is_call ∙ ap (λ x. called x ∷ []) (sym form.is_call) in (
        all r (is_host_role r i e),
        ap first_of (of_host_is d (λ h e s. guard_call e.guard) h first sink_first.0 eh entry_first.1 sink_first.1 ∙ calls)
            ∙ ap Some (guards_same (host_guard d) called host_roles guards first r one (is_host_role r i e)),
      )

-- ---- switches

module _ (d : Design) (rules : WellFormed d) (s : SwitchDecl) (es : switch_decl d ≡ Some s) where
  abbrev both_names : SwitchDecl → List Name
  both_names x = x.into ∷ x.out ∷ []

  names_are : switch_names d ≡ both_names s
  names_are = ap (λ (o : Option SwitchDecl). elim o as (λ x. List Name) [ None ↦ [] | Some x ↦ both_names x ]) es

  abbrev declared_in : List Name → List Role
  declared_in ns = flat_map (λ (n : Name). declared_as n.text (roles_of d)) ns

  of_switches : guards_by (switch_guard d s.ports) guard_function (switch_declared d) ≡ []
  of_switches = sym (ap (λ (o : Option SwitchDecl). elim o as (λ x. List ℕ) [ None ↦ [] | Some x ↦ guards_by (switch_guard d x.ports) guard_function (switch_declared d) ]) es) ∙ nil_right _ _ (rules guard_form)

  -- a declaration of one of the two roles
  pub declares : (r : Role) → In r (roles_of d) → (s.into.text ≡ r.name.text) ⊎ (s.out.text ≡ r.name.text) → In r (switch_declared d)
  declares r i e =
      let first = declared_as s.into.text (roles_of d) in
      let second = declared_as s.out.text (roles_of d) in
      let own = λ (x : List ℕ) (k : x ≡ r.name.text). kept (λ (q : Role). same_name x q.name.text) r (roles_of d) i (ap (λ y. same_name x y) (sym k) ∙ text_self x) in
      subst (λ ns. In r (declared_in ns)) (sym names_are) (elim e [
        | inl k ↦ in_left r first (second ++ []) (own s.into.text k)
        | inr k ↦ in_right r first (second ++ []) (in_left r second [] (own s.out.text k))
      ])

  pub switch_guarded : (r : Role) → In r (switch_declared d) → switch_guard d s.ports r.params r.guard ≡ true
  switch_guarded r i = guards_fit (switch_guard d s.ports) guard_function (switch_declared d) of_switches r i

  pub two_params : (r : Role) → In r (switch_declared d) → two_ports r ≡ true
  two_params r i = passes _ _ (none_at (λ (q : Role). unless_named (two_ports q) q.name) (switch_declared d) (nil_left _ _ (rules not_switch_form)) r i)

  -- the function of the switches is that of each guard
  pub function_is : (q : Role) → role_at (last_level d) d s.into.text ≡ Some q → (r : Role) → In r (switch_declared d) → switch_function d ≡ Some (guard_function r.guard)
  function_is q e r i =
      let at : Name → Option Role = λ n. role_at (last_level d) d n.text in
      let of_guards : List Role → List (List ℕ) = flat_map (λ (x : Role). guard_call x.guard) in
      let t = role_in (last_level d) d s.into.text q e in
      let j = declares q t.0 (inl t.1) in
      let calls = (switch_form d s.ports q.params q.guard (switch_guarded q j)).calls in
      ap (λ ns. first_of (of_guards (filter_map at ns))) names_are
      ∙ ap (λ (o : Option Role). first_of (of_guards (cons_option o (filter_map at (s.out ∷ []))))) e
      ∙ ap (λ xs. first_of (xs ++ of_guards (filter_map at (s.out ∷ [])))) calls
      ∙ ap Some (guards_same (switch_guard d s.ports) guard_function (switch_declared d) of_switches q r j i)

-- ---- wires

two_long : (r : Role) → two_ports r ≡ true → length r.params ≡ 2
two_long r h = eqb-true (length r.params) 2 (both_true (length r.params == 2) (list_all (λ w. w == 16) (widths_of r.params)) h).0

not_same : (x y : List ℕ) → (x ≡ y → ⊥) → same_name x y ≡ false
not_same x y f = by_case (same_name x y) refl
  where
    by_case : (b : Bool) → same_name x y ≡ b → same_name x y ≡ false
    by_case true e = absurd (f (same_text x y e))
    by_case false e = e

module _ (d : Design) (rules : WellFormed d) (h : HostDecl) (eh : host_decl d ≡ Some h) (s : SwitchDecl) (es : switch_decl d ≡ Some s) where
  -- a host role is no switch role
  one_not_two : (r : Role) → In r (roles_of d) → length r.params ≡ 1 → (s.into.text ≡ r.name.text) ⊎ (s.out.text ≡ r.name.text) → ⊥
  one_not_two r i one e =
      let two = two_long r (two_params d rules s es r (declares d rules s es r i e)) in
      omega (arith, one, two)

  abbrev of_name : List ℕ → Name
  of_name x = record { at = 0; text = x }

  pub entry_is_wire : is_wire h s (of_name h.entry.text) ≡ true
  entry_is_wire =
      let e = entry_first d rules h eh in
      let t = role_in 0 d h.entry.text e.0 e.1 in
      let apart = not_same h.entry.text s.into.text (λ k. one_not_two e.0 (roles_all 0 d e.0 t.0) (entry_one d rules h eh) (inl (sym k ∙ t.1))) in
      (λ i. not (roles_apart d rules h eh i) && (not (apart i) || same_name h.entry.text s.out.text))

  pub out_is_wire : is_wire h s (of_name s.out.text) ≡ true
  out_is_wire =
      let e = sink_first d rules h eh in
      let t = role_in 0 d h.sink.text e.0 e.1 in
      let apart = not_same s.out.text h.sink.text (λ k. one_not_two e.0 (roles_all 0 d e.0 t.0) (sink_one d rules h eh) (inr (k ∙ t.1))) in
      (λ i. not (apart i) && (not (same_name s.out.text s.into.text) || text_self s.out.text i)) ∙ either (same_name s.out.text s.into.text)
    where
      either : (b : Bool) → (not b || true) ≡ true
      either true = refl
      either false = refl
