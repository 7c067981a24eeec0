-- Wires of the last level, by their names: their bodies are those of wires.
use Rattle.std.proofs.Common.{◌≡◌, inl, inr, ℕ, ◌||◌, Bool, true, false, List, [], ◌∷◌, map, Option, Some, None, if◌then◌else◌, refl, sym, ap, subst, ◌∙◌}
use Rattle.std.specs.Prelude.{flat_map, option_and_then}
use Rattle.cocoon_num.specs.Names.{same_name}
use Rattle.cocoon_num.specs.Packets.{Packet}
use Rattle.cocoon_num.specs.Tree.{Name, Block, Role, HostDecl, SwitchDecl, Design}
use Rattle.cocoon_num.specs.Values.{Value, number, truth}
use Rattle.cocoon_types.specs.Design.{functions, host_decl, last_level, role_at, switch_decl}
use Rattle.cocoon_types.specs.FormRules.{all_roles, each_once, is_wire, wire_send, wire_stmt}
use Rattle.cocoon_types.specs.LastLevel.{last_stmts}
use Rattle.cocoon_types.specs.RuleParts.{has_name, roles_of}
use Rattle.cocoon_types.specs.Rules.{WellFormed, not_wire}
use Rattle.cocoon_types.specs.Runs.{falls, sends, Loc, World}
use Rattle.cocoon_types.specs.Sites.{StmtSite, stmts_in}
use Rattle.cocoon_types.specs.Taken.{Ended, Reached, body_go, go, guard_at, if_reached, if_true, run_all}
use Rattle.cocoon_types.specs.Typing.{Scope}
use Rattle.cocoon_types.specs.Val.{Context, Env, bind}
use Rattle.lowering_correct.specs.WiresLead.{MayReach, WiresLead, carried, last_level_in}
use Rattle.sound_types.proofs.Levels.{role_in, role_name}
use Rattle.sound_types.proofs.Members.{In, in_map, none_at}
use Rattle.sound_types.proofs.Options.{same_text, text_self}
use Rattle.lowering_correct.proofs.WireRuns.{Leads, handed, wire_block}

-- ---- names

-- a name that is among some is among them once each
kept_once : (x : List ℕ) (n : Name) (ns : List Name) (b : Bool) → has_name n.text ns ≡ b → (In n (n ∷ ns) → has_name x ns ≡ true → (m : Name) × In m (each_once ns) × (x ≡ m.text))
    → (same_name x n.text || has_name x ns) ≡ true → (m : Name) × In m (if b then each_once ns else n ∷ each_once ns) × (x ≡ m.text)
kept_once x n ns true e f h = f (inl refl) (by_case (same_name x n.text) refl h)
  where
    by_case : (c : Bool) → same_name x n.text ≡ c → (c || has_name x ns) ≡ true → has_name x ns ≡ true
    by_case true k g = ap (λ y. has_name y ns) (same_text x n.text k) ∙ e
    by_case false k g = g
kept_once x n ns false e f h = by_case (same_name x n.text) refl h
  where
    by_case : (c : Bool) → same_name x n.text ≡ c → (c || has_name x ns) ≡ true → (m : Name) × In m (n ∷ each_once ns) × (x ≡ m.text)
    by_case true k g = (n, inl refl, same_text x n.text k)
    by_case false k g = let t = f (inl refl) g in (t.0, inr t.1, t.2)

once : (x : List ℕ) (ns : List Name) → has_name x ns ≡ true → (m : Name) × In m (each_once ns) × (x ≡ m.text)
once x [] h = absurd (cc)
once x (n ∷ ns) h = kept_once x n ns (has_name n.text ns) refl (λ i g. once x ns g) h

has_in : (n : Name) (ns : List Name) → In n ns → has_name n.text ns ≡ true
has_in n [] i = absurd i
has_in n (m ∷ ns) i = elim i [
  | inl e ↦ ap (λ b. b || has_name n.text ns) (ap (λ (y : Name). same_name n.text y.text) (sym e) ∙ text_self n.text)
  | inr k ↦ behind (same_name n.text m.text) (has_in n ns k)
]
  where
    behind : (b : Bool) → has_name n.text ns ≡ true → (b || has_name n.text ns) ≡ true
    behind true g = refl
    behind false g = g

-- a role of the last level is among all roles
among_all : (d : Design) (x : List ℕ) (r : Role) → role_at (last_level d) d x ≡ Some r → (m : Name) × In m (all_roles d) × (x ≡ m.text)
among_all d x r h =
    let t = role_in (last_level d) d x r h in
    once x (map role_name (roles_of d)) (ap (λ y. has_name y (map role_name (roles_of d))) t.1 ∙ has_in r.name (map role_name (roles_of d)) (in_map role_name r (roles_of d) t.0))

-- ---- statements

wired_if : (h : HostDecl) (s : SwitchDecl) (n : Name) (sites : List StmtSite) (b : Bool) → b ≡ true → (if b then flat_map (wire_stmt h s n) sites else []) ≡ [] → flat_map (wire_stmt h s n) sites ≡ []
wired_if h s n sites true e k = k
wired_if h s n sites false e k = absurd (cc)

forms : (d : Design) (h : HostDecl) (s : SwitchDecl) → WellFormed d → host_decl d ≡ Some h → switch_decl d ≡ Some s
    → flat_map (λ (r : Name). if is_wire h s r then flat_map (wire_stmt h s r) (last_stmts d r.text) else []) (all_roles d) ≡ []
forms d h s w eh es =
    sym (ap (λ (o : Option HostDecl). elim o as (λ x. List ℕ) [
      | None ↦ []
      | Some x ↦ elim (switch_decl d) as (λ y. List ℕ) [ None ↦ [] | Some y ↦ flat_map (λ (r : Name). if is_wire x y r then flat_map (wire_stmt x y r) (last_stmts d r.text) else []) (all_roles d) ]
    ]) eh
    ∙ ap (λ (o : Option SwitchDecl). elim o as (λ y. List ℕ) [ None ↦ [] | Some y ↦ flat_map (λ (r : Name). if is_wire h y r then flat_map (wire_stmt h y r) (last_stmts d r.text) else []) (all_roles d) ]) es)
    ∙ w not_wire

-- what is in scope in the body of a role of the last level
abbrev pub last_scope : Design → Role → Scope
last_scope d r = record { design = d; vars = r.params; before = functions d; level = last_level d; packet = true }

pub of_body : (d : Design) (x : List ℕ) (r : Role) (b : Block) → role_at (last_level d) d x ≡ Some r → r.body ≡ Some b → last_stmts d x ≡ stmts_in (last_scope d r) false b
of_body d x r b er eb =
    ap (λ (o : Option Role). elim o as (λ y. List StmtSite) [ None ↦ [] | Some y ↦ elim y.body as (λ z. List StmtSite) [ None ↦ [] | Some z ↦ stmts_in (last_scope d y) false z ] ]) er
    ∙ ap (λ (o : Option Block). elim o as (λ z. List StmtSite) [ None ↦ [] | Some z ↦ stmts_in (last_scope d r) false z ]) eb

wired : (d : Design) (h : HostDecl) (s : SwitchDecl) → WellFormed d → host_decl d ≡ Some h → switch_decl d ≡ Some s → (x : List ℕ) → is_wire h s (record { at = 0; text = x }) ≡ true
    → (r : Role) (b : Block) (c : World) → role_at (last_level d) d x ≡ Some r → r.body ≡ Some b
    → (m : Name) × (x ≡ m.text) × ((y : StmtSite) → In y (stmts_in (last_scope d r) false b) → wire_stmt h s m y ≡ [])
wired d h s w eh es x iw r b c er eb =
    let m = among_all d x r er in
    let none = none_at (λ (n : Name). if is_wire h s n then flat_map (wire_stmt h s n) (last_stmts d n.text) else []) (all_roles d) (forms d h s w eh es) m.0 m.1 in
    let is : is_wire h s m.0 ≡ true = ap (λ y. is_wire h s (record { at = 0; text = y })) (sym m.2) ∙ iw in
    let all = wired_if h s m.0 (last_stmts d m.0.text) (is_wire h s m.0) is none in
    (m.0, m.2, none_at (wire_stmt h s m.0) (stmts_in (last_scope d r) false b) (ap (flat_map (wire_stmt h s m.0)) (sym (ap (last_stmts d) (sym m.2) ∙ of_body d x r b er eb)) ∙ all))

-- ---- runs

carried_end : (p : Packet) (cs : List ℕ) (r : Ended) → if_reached (handed p cs r) ≡ carried p cs (if_reached r)
carried_end p cs None = refl
carried_end p cs (Some (falls env q, ds)) = refl
carried_end p cs (Some (sends to q, ds)) = refl

may_end : (h : HostDecl) (s : SwitchDecl) (x : List ℕ) (r : Ended) → Leads (λ role. wire_send h s (record { at = 0; text = x }) (record { at = 0; text = role })) r → MayReach h s x (if_reached r)
may_end h s x None k = tt
may_end h s x (Some (falls env q, ds)) k = tt
may_end h s x (Some (sends to q, ds)) k = k

carried_true : (p : Packet) (cs : List ℕ) (o : Option Value) (r : Reached) → if_true o (carried p cs r) ≡ carried p cs (if_true o r)
carried_true p cs None r = refl
carried_true p cs (Some (truth true)) r = refl
carried_true p cs (Some (truth false)) r = refl
carried_true p cs (Some (number w n)) r = refl

may_true : (h : HostDecl) (s : SwitchDecl) (x : List ℕ) (o : Option Value) (r : Reached) → MayReach h s x r → MayReach h s x (if_true o r)
may_true h s x None r k = tt
may_true h s x (Some (truth true)) r k = k
may_true h s x (Some (truth false)) r k = tt
may_true h s x (Some (number w n)) r k = tt

module _ (d : Design) (h : HostDecl) (s : SwitchDecl) (rules : WellFormed d) (eh : host_decl d ≡ Some h) (es : switch_decl d ≡ Some s) (c : Context) (at : Loc)
    (is : is_wire h s (record { at = 0; text = at.role }) ≡ true) (p q : Packet) (cs ds : List ℕ) where
  w : World
  w = last_level_in d c

  of_block : (r : Role) (b : Block) → role_at (last_level d) d at.role ≡ Some r → r.body ≡ Some b → (o : Option Env)
      → (option_and_then (λ env. if_reached (run_all (last_level_in d c) b env p cs)) o ≡ carried p cs (option_and_then (λ env. if_reached (run_all (last_level_in d c) b env q ds)) o))
      × MayReach h s at.role (option_and_then (λ env. if_reached (run_all (last_level_in d c) b env p cs)) o)
  of_block r b er eb None = (refl, tt)
  of_block r b er eb (Some env) =
      let t = wired d h s rules eh es at.role is r b (last_level_in d c) er eb in
      let run = wire_block h s t.0 (last_level_in d c) b (last_scope d r) false t.2 env p q cs ds in
      let leads = subst (λ x. Leads (λ role. wire_send h s (record { at = 0; text = x }) (record { at = 0; text = role })) (run_all (last_level_in d c) b env p cs)) (sym t.1) run.1 in (
        ap if_reached run.0 ∙ carried_end p cs (run_all (last_level_in d c) b env q ds),
        may_end h s at.role (run_all (last_level_in d c) b env p cs) leads,
      )

  of_role : (r : Role) → role_at (last_level d) d at.role ≡ Some r → (o : Option Block) → r.body ≡ o
      → (body_go (last_level_in d c) r o at p cs ≡ carried p cs (body_go (last_level_in d c) r o at q ds)) × MayReach h s at.role (body_go (last_level_in d c) r o at p cs)
  of_role r er None eb = (refl, tt)
  of_role r er (Some b) eb = of_block r b er eb (bind r.params at.values)

  of_roles : (o : Option Role) → role_at (last_level d) d at.role ≡ o
      → (option_and_then (λ (r : Role). body_go (last_level_in d c) r r.body at p cs) o ≡ carried p cs (option_and_then (λ (r : Role). body_go (last_level_in d c) r r.body at q ds) o))
      × MayReach h s at.role (option_and_then (λ (r : Role). body_go (last_level_in d c) r r.body at p cs) o)
  of_roles None er = (refl, tt)
  of_roles (Some r) er = of_role r er r.body refl

  leads_alike : (go (last_level_in d c) at p cs ≡ carried p cs (go (last_level_in d c) at q ds)) × MayReach h s at.role (go (last_level_in d c) at p cs)
  leads_alike =
      let t = of_roles (role_at (last_level d) d at.role) refl in
      let o = guard_at (last_level_in d c) at in (
        ap (if_true o) t.0 ∙ carried_true p cs o (option_and_then (λ (r : Role). body_go (last_level_in d c) r r.body at q ds) (role_at (last_level d) d at.role)),
        may_true h s at.role o (option_and_then (λ (r : Role). body_go (last_level_in d c) r r.body at p cs) (role_at (last_level d) d at.role)) t.1,
      )

pub wires : (d : Design) (h : HostDecl) (s : SwitchDecl) → WellFormed d → host_decl d ≡ Some h → switch_decl d ≡ Some s → WiresLead d h s
wires d h s rules eh es c at is p q cs ds = leads_alike d h s rules eh es c at is p q cs ds
