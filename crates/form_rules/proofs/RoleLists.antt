-- The declarations of roles: the first of them, the host roles, the switch roles.
use Rattle.std.proofs.Common.{◌≡◌, ℕ, ◌==◌, Bool, true, false, not, nat_lt, List, [], ◌∷◌, ◌++◌, length, Option, Some, None, if◌then◌else◌, refl, sym, ap, subst, ◌∙◌, append-nil}
use Rattle.std.specs.Prelude.{flat_map, filter, option_map, option_and_then}
use Rattle.std.specs.List.{find}
use Rattle.std.proofs.lemmas.List.Concat.{flat_map-append}
use Rattle.cocoon_num.specs.Tree.{Role, HostDecl, SwitchDecl, Design}
use Rattle.cocoon_num.specs.Names.{same_name, named}
use Rattle.cocoon_num.specs.Lists.{first_of}
use Rattle.cocoon_types.specs.Design.{role_at, host_decl, switch_decl}
use Rattle.cocoon_types.specs.FormRules.{declared_as, switch_declared}
use Rattle.cocoon_types.specs.LastLevel.{of_host}
use Rattle.cocoon_types.specs.Noting.{Notes}
use Rattle.cocoon_types.specs.FirstFault.{Fault}
use Rattle.cocoon_types.specs.RuleParts.{unless, unless_named, roles_of}
use Rattle.cocoon_types.specs.Rules.{Rule, sink_form}
use Rattle.cocoon_types.specs.SameTrees.{same_params}
use Rattle.cocoon_types.specs.Among.{among, AmongLaws}
use Rattle.form_rules.specs.Parts.{Hosts, hosts_with, host_roles, bodiless, host_faults}

-- ---- the first declaration

first-filtered : (p : Role → Bool) (rs : List Role) → find p rs ≡ first_of (filter p rs)
first-filtered p [] = refl
first-filtered p (r ∷ rs) = by (p r) (first-filtered p rs)
  where
    by : (b : Bool) → find p rs ≡ first_of (filter p rs) → (if b then Some r else find p rs) ≡ first_of (if b then r ∷ filter p rs else filter p rs)
    by true ih = refl
    by false ih = ih

first-some : (xs ys : List Role) (r : Role) → first_of xs ≡ Some r → Some r ≡ first_of (xs ++ ys)
first-some [] ys r h = absurd cc
first-some (x ∷ xs) ys r h = sym h

first-none : (xs ys : List Role) → first_of xs ≡ None → first_of ys ≡ first_of (xs ++ ys)
first-none [] ys h = refl
first-none (x ∷ xs) ys h = absurd cc

pub first-found : (x y : List ℕ) (rs : List Role) (r : Role) → named (λ (a : Role). a.name) x rs ≡ Some r → Some r ≡ first_of (declared_as x rs ++ declared_as y rs)
first-found x y rs r h = first-some (declared_as x rs) (declared_as y rs) r (sym (first-filtered (λ (a : Role). same_name x a.name.text) rs) ∙ h)

pub first-other : (x y : List ℕ) (rs : List Role) → named (λ (a : Role). a.name) x rs ≡ None → named (λ (a : Role). a.name) y rs ≡ first_of (declared_as x rs ++ declared_as y rs)
first-other x y rs h =
    first-filtered (λ (a : Role). same_name y a.name.text) rs
    ∙ first-none (declared_as x rs) (declared_as y rs) (sym (first-filtered (λ (a : Role). same_name x a.name.text) rs) ∙ h)

-- ---- host roles

module _ {A : Type 0} (d : Design) (f : HostDecl → Role → Role → List A) where
  abbrev given : Option Hosts → List A
  given o = elim o [ None ↦ [] | Some x ↦ f x.decl x.entry x.sink ]

  with_sink : (h : HostDecl) (e : Role) (o : Option Role) → elim o [ None ↦ [] | Some s ↦ f h e s ] ≡ given (option_map (λ (s : Role). hosts_with h e s) o)
  with_sink h e None = refl
  with_sink h e (Some s) = refl

  with_entry : (h : HostDecl) (o : Option Role) → elim o [ None ↦ [] | Some e ↦ elim (role_at 0 d h.sink.text) [ None ↦ [] | Some s ↦ f h e s ] ]
      ≡ given (option_and_then (λ (e : Role). option_map (λ (s : Role). hosts_with h e s) (role_at 0 d h.sink.text)) o)
  with_entry h None = refl
  with_entry h (Some e) = with_sink h e (role_at 0 d h.sink.text)

  pub of_roles : of_host d f ≡ given (host_roles d)
  of_roles = by (host_decl d)
    where
      by : (o : Option HostDecl) → elim o [ None ↦ [] | Some h ↦ elim (role_at 0 d h.entry.text) [ None ↦ [] | Some e ↦ elim (role_at 0 d h.sink.text) [ None ↦ [] | Some s ↦ f h e s ] ] ]
          ≡ given (option_and_then (λ (h : HostDecl). option_and_then (λ (e : Role). option_map (λ (s : Role). hosts_with h e s) (role_at 0 d h.sink.text)) (role_at 0 d h.entry.text)) o)
      by None = refl
      by (Some h) = with_entry h (role_at 0 d h.entry.text)

  pub of_some : (h : HostDecl) (e s : Role) → Some (hosts_with h e s) ≡ host_roles d → f h e s ≡ of_host d f
  of_some h e s k = ap given k ∙ sym of_roles

  pub of_none : None ≡ host_roles d → [] ≡ of_host d f
  of_none k = ap given k ∙ sym of_roles

-- what is noted of them, part by part
pub hosts_noted : AmongLaws → (h : HostDecl) (e s : Role) (rs : List Role) (o p q r t u : Option Fault)
    → Notes (among sink_form (unless_named (not (same_name h.entry.text h.sink.text)) e.name)) o p → Notes (among sink_form (flat_map (bodiless h.sink.text) rs)) p q
    → Notes (among sink_form (unless_named (length e.params == 1) e.name)) q r → Notes (among sink_form (unless_named (length s.params == 1) s.name)) r t
    → Notes (among sink_form (unless (same_params e.params s.params) (if nat_lt s.name.at e.name.at then s.name.at else e.name.at))) t u
    → Notes (among sink_form (host_faults h e s rs)) o u
hosts_noted laws h e s rs o p q r t u a b c f g =
    let one : List ℕ = unless_named (not (same_name h.entry.text h.sink.text)) e.name in
    let two : List ℕ = flat_map (bodiless h.sink.text) rs in
    let three : List ℕ = unless_named (length e.params == 1) e.name in
    let four : List ℕ = unless_named (length s.params == 1) s.name in
    laws.append sink_form (one ++ two ++ three ++ four) (unless (same_params e.params s.params) (if nat_lt s.name.at e.name.at then s.name.at else e.name.at)) o t u
    (laws.append sink_form (one ++ two ++ three) four o r t (laws.append sink_form (one ++ two) three o q r (laws.append sink_form one two o p q a b) c) f) g

-- ---- switch roles

pub switch_some : (d : Design) (s : SwitchDecl) → Some s ≡ switch_decl d → declared_as s.into.text (roles_of d) ++ declared_as s.out.text (roles_of d) ≡ switch_declared d
switch_some d s h =
    ap (λ l. declared_as s.into.text (roles_of d) ++ l) (sym (append-nil (declared_as s.out.text (roles_of d))))
    ∙ ap (λ (o : Option SwitchDecl). flat_map (λ n. declared_as n.text (roles_of d)) (elim o [ None ↦ [] | Some x ↦ x.into ∷ x.out ∷ [] ])) h

pub switch_none : (d : Design) → None ≡ switch_decl d → [] ≡ switch_declared d
switch_none d h = ap (λ (o : Option SwitchDecl). flat_map (λ n. declared_as n.text (roles_of d)) (elim o [ None ↦ [] | Some x ↦ x.into ∷ x.out ∷ [] ])) h

-- what is noted of the two, one after the other
pub two_noted : AmongLaws → (rule : Rule) (g : Role → List ℕ) (xs ys : List Role) (a b c : Option Fault) → Notes (among rule (flat_map g xs)) a b → Notes (among rule (flat_map g ys)) b c → Notes (among rule (flat_map g (xs ++ ys))) a c
two_noted laws rule g xs ys a b c h k = subst (λ l. Notes (among rule l) a c) (sym (flat_map-append g xs ys)) (laws.append rule (flat_map g xs) (flat_map g ys) a b c h k)
