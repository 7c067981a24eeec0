-- What is made of the ingress role of a design that keeps the rules.
use Rattle.std.proofs.Common.{◌≡◌, ℕ, suc, ◌&&◌, ◌||◌, Bool, true, false, cond, not, List, [], ◌∷◌, ◌++◌, slice_get, Option, Some, None, is_none, reverse, refl, sym, ap, subst, ◌∙◌}
use Rattle.std.specs.Prelude.{flat_map, option_and_then}
use Rattle.std.specs.List.{list_any}
use Rattle.std.proofs.lemmas.List.{append_assoc, reverse-append}
use Rattle.std.proofs.lemmas.List.Concat.{flat_map-append}
use Rattle.std.proofs.lemmas.List.Folds.{list_any-append}
use Rattle.cocoon_num.specs.Lists.{is_one_of}
use Rattle.cocoon_num.specs.Names.{same_name, named}
use Rattle.cocoon_num.specs.Tree.{Param, Expr, name, FunctionDecl, Role, HostDecl, SwitchDecl, Stmt, Block, field, lit, true_or_false, call, unary, binary, slice, pick, let_, set_field, if_, filter, havoc_var, havoc_field, assume, fork, send, no_stmts, stmt, Design}
use Rattle.cocoon_types.specs.DefsRules.{fork_calls, runtime_named}
use Rattle.cocoon_types.specs.Design.{functions, host_decl, last_level, role_at, switch_decl}
use Rattle.cocoon_types.specs.FormRules.{fork_condition, is_fork, is_runtime}
use Rattle.cocoon_types.specs.LastLevel.{called, into_stmts, last_stmts}
use Rattle.cocoon_types.specs.RuleParts.{unless}
use Rattle.cocoon_types.specs.Rules.{WellFormed, fork_form}
use Rattle.cocoon_types.specs.Sites.{StmtSite, after_stmt, stmt_ends, stmts_at, stmts_in}
use Rattle.cocoon_types.specs.Typing.{Scope, with_var}
use Rattle.declarations.proofs.NameFacts.{same-refl, same-true}
use Rattle.lowering.specs.Log.{FieldsAt, Placed, widths_in}
use Rattle.lowering.specs.Lower.{Made, callees}
use Rattle.lowering.specs.LowerBlock.{fork_function}
use Rattle.lowering.specs.Whole.{SwitchRole, role_lowered, role_vars}
use Rattle.lowering.specs.Roles.{NetParts, ingress_role, net_parts, parts_with, role_of_two}
use Rattle.lowering.specs.SwitchProgram.{egress_lowered, switch_made}
use Rattle.lowering_correct.proofs.Found.{both-true, only-one}
use Rattle.lowering_correct.proofs.Lowerings.{AreNamed, block-fine, block-sites, BlockForks, both-fine, callees-fine, Forked, IsNamed, placed-both, sites-fine, StmtForks}
use Rattle.lowering_correct.specs.Logs.{IsLogOf}
use Rattle.runtime_defs.proofs.Distinct.{nil-both, runtime-self}

-- ---- functions

named-function : (d : Design) → WellFormed d → (k : ℕ) (g : FunctionDecl) → slice_get (functions d) k ≡ Some g → IsNamed d g
named-function d w k g there = record {
  runs = λ b. runtime-self d w k g there b;
  only = λ h r. sym (only-one d w g.name.text h r k g there (same-refl g.name.text));
}

are-named : (d : Design) (fs : List FunctionDecl) → ((k : ℕ) (g : FunctionDecl) → slice_get fs k ≡ Some g → IsNamed d g) → AreNamed d fs
are-named d [] h = tt
are-named d (g ∷ fs) h = (h 0 g refl, are-named d fs (λ k x there. h (suc k) x there))

named-both : (d : Design) (fs gs : List FunctionDecl) → AreNamed d fs → AreNamed d gs → AreNamed d (fs ++ gs)
named-both d [] gs h k = k
named-both d (f ∷ fs) gs h k = (h.0, named-both d fs gs h.1 k)

named-reverse : (d : Design) (fs : List FunctionDecl) → AreNamed d fs → AreNamed d (reverse fs)
named-reverse d [] h = tt
named-reverse d (f ∷ fs) h = subst (AreNamed d) (sym (reverse-append (f ∷ []) fs)) (named-both d (reverse fs) (f ∷ []) (named-reverse d fs h.1) (h.0, tt))

pub functions-named : (d : Design) → WellFormed d → AreNamed d (reverse (functions d))
functions-named d w = named-reverse d (functions d) (are-named d (functions d) (named-function d w))

found-named : (d : Design) (f : List ℕ) (g : FunctionDecl) (e : FunctionDecl) (fs : List FunctionDecl) → IsNamed d e → (named (λ (x : FunctionDecl). x.name) f fs ≡ Some g → (f ≡ g.name.text) × IsNamed d g)
    → (b : Bool) → same_name f e.name.text ≡ b → cond b (Some e) (named (λ (x : FunctionDecl). x.name) f fs) ≡ Some g → (f ≡ g.name.text) × IsNamed d g
found-named d f g e fs is later true s h =
    let same : e ≡ g = cc in
    (same-true f e.name.text s ∙ ap (λ (x : FunctionDecl). x.name.text) same, subst (IsNamed d) same is)
found-named d f g e fs is later false s h = later h

named-in : (d : Design) (f : List ℕ) (g : FunctionDecl) (fs : List FunctionDecl) → AreNamed d fs → named (λ (x : FunctionDecl). x.name) f fs ≡ Some g → (f ≡ g.name.text) × IsNamed d g
named-in d f g [] n h = absurd cc
named-in d f g (e ∷ fs) n h = found-named d f g e fs n.0 (named-in d f g fs n.1) (same_name f e.name.text) refl h

-- a function of a role that is found under its name is the design's of that name
pub found-runs : (d : Design) (f : List ℕ) (g : FunctionDecl) → WellFormed d → named (λ (x : FunctionDecl). x.name) f (reverse (functions d)) ≡ Some g → g.body ≡ None → runtime_named d f ≡ Some g
found-runs d f g w h b =
    let found = named-in d f g (reverse (functions d)) (functions-named d w) h in
    ap (runtime_named d) found.0 ∙ found.1.runs b

-- ---- forks

same-function : (e : Expr) → called e ≡ fork_function e
same-function (name p x) = refl
same-function (field p h f) = refl
same-function (lit p w n) = refl
same-function (true_or_false p b) = refl
same-function (call p f es) = refl
same-function (unary p op a) = refl
same-function (binary p op a b) = refl
same-function (slice p a hi lo) = refl
same-function (pick p c a b) = refl

-- where the function is found and has no body, it is one that is defined at run time
runtime-of : (o : Option FunctionDecl) → elim o [ None ↦ false | Some x ↦ is_none x.body ] ≡ true → (g : FunctionDecl) × (option_and_then (λ (x : FunctionDecl). elim x.body [ None ↦ Some x | Some e ↦ None ]) o ≡ Some g)
runtime-of None h = absurd cc
runtime-of (Some x) h = by x.body refl h
  where
    by : (b : Option Expr) → x.body ≡ b → is_none b ≡ true → (g : FunctionDecl) × (elim x.body [ None ↦ Some x | Some e ↦ None ] ≡ Some g)
    by None e k = (x, ap (λ o. elim o [ None ↦ Some x | Some e ↦ None ]) e)
    by (Some b) e k = absurd cc

condition-runs : (d : Design) (x : List ℕ) (e : Expr) → fork_condition d x e ≡ true → is_runtime d (fork_function e) ≡ true
condition-runs d x (name p y) h = absurd cc
condition-runs d x (field p k f) h = absurd cc
condition-runs d x (lit p w n) h = absurd cc
condition-runs d x (true_or_false p b) h = absurd cc
condition-runs d x (call p f es) h = (both-true (is_runtime d f.text) _ h).0
condition-runs d x (unary p op a) h = absurd cc
condition-runs d x (binary p op a b) h = absurd cc
condition-runs d x (slice p a hi lo) h = absurd cc
condition-runs d x (pick p c a b) h = absurd cc

kept-true : (b : Bool) (at : ℕ) → unless b at ≡ [] → b ≡ true
kept-true true at h = refl
kept-true false at h = absurd cc

-- a fork that is not of its form, and the function of a fork
abbrev fork-fault : Design → StmtSite → List ℕ
fork-fault d site = elim site.s [
  | fork at x w e b ↦ unless (fork_condition d x.text e && not (list_any is_fork (stmts_in (with_var x w site.scope) false b))) at
  | _ ↦ []
]

abbrev fork-call : StmtSite → List (List ℕ)
fork-call site = elim site.s [ fork at x w e b ↦ called e ∷ [] | _ ↦ [] ]

-- each of these names is that of a function under a fork
abbrev Among : Design → List (List ℕ) → Type 0
Among d [] = Unit {0}
Among d (f ∷ fs) = (is_one_of (fork_calls d) f ≡ true) × Among d fs

among-both : (d : Design) (fs gs : List (List ℕ)) → Among d (fs ++ gs) → Among d fs × Among d gs
among-both d [] gs h = (tt, h)
among-both d (f ∷ fs) gs h = let both = among-both d fs gs h.1 in ((h.0, both.0), both.1)

among-parts : (d : Design) (xs ys : List StmtSite) → Among d (flat_map fork-call (xs ++ ys)) → Among d (flat_map fork-call xs) × Among d (flat_map fork-call ys)
among-parts d xs ys h = among-both d (flat_map fork-call xs) (flat_map fork-call ys) (subst (Among d) (flat_map-append fork-call xs ys) h)

right-parts : (d : Design) (xs ys : List StmtSite) → flat_map (fork-fault d) (xs ++ ys) ≡ [] → (flat_map (fork-fault d) xs ≡ []) × (flat_map (fork-fault d) ys ≡ [])
right-parts d xs ys h = nil-both (flat_map (fork-fault d) xs) (flat_map (fork-fault d) ys) (sym (flat_map-append (fork-fault d) xs ys) ∙ h)

forked-by : (d : Design) (x : List ℕ) (e : Expr) (at : ℕ) (b : Bool) → unless (fork_condition d x e && b) at ≡ [] → is_one_of (fork_calls d) (called e) ≡ true → Forked d (fork_function e)
forked-by d x e at b h m =
    let runs = runtime-of (named (λ (y : FunctionDecl). y.name) (fork_function e) (functions d)) (condition-runs d x e (both-true (fork_condition d x e) b (kept-true (fork_condition d x e && b) at h)).0) in
    record { function = runs.0; named = runs.1; forked = ap (is_one_of (fork_calls d)) (sym (same-function e)) ∙ m }

mutual
  stmt-forks : (d : Design) (s : Scope) (ended : Bool) (a : Stmt) → flat_map (fork-fault d) (stmts_at s ended a) ≡ [] → Among d (flat_map fork-call (stmts_at s ended a)) → StmtForks d a
  stmt-forks d s ended (let_ p y w e) h m = tt
  stmt-forks d s ended (set_field p k f e) h m = tt
  stmt-forks d s ended (if_ p e a b) h m =
      let hs = right-parts d (stmts_in s false a) (stmts_in s false b) h in
      let ms = among-parts d (stmts_in s false a) (stmts_in s false b) m in
      (block-forks d s false a hs.0 ms.0, block-forks d s false b hs.1 ms.1)
  stmt-forks d s ended (filter p e) h m = tt
  stmt-forks d s ended (havoc_var p y w) h m = tt
  stmt-forks d s ended (havoc_field p k f) h m = tt
  stmt-forks d s ended (assume p e) h m = tt
  stmt-forks d s ended (fork p y w e b) h m =
      let free = not (list_any is_fork (stmts_in (with_var y w s) false b)) in
      let hs = nil-both (unless (fork_condition d y.text e && free) p) (flat_map (fork-fault d) (stmts_in (with_var y w s) false b)) h in
      (forked-by d y.text e p free hs.0 m.0, block-forks d (with_var y w s) false b hs.1 m.1)
  stmt-forks d s ended (send p r es) h m = tt

  block-forks : (d : Design) (s : Scope) (ended : Bool) (b : Block) → flat_map (fork-fault d) (stmts_in s ended b) ≡ [] → Among d (flat_map fork-call (stmts_in s ended b)) → BlockForks d b
  block-forks d s ended no_stmts h m = tt
  block-forks d s ended (stmt a rest) h m =
      let hs = right-parts d (stmts_at s ended a) (stmts_in (after_stmt a s) (ended || stmt_ends a) rest) h in
      let ms = among-parts d (stmts_at s ended a) (stmts_in (after_stmt a s) (ended || stmt_ends a) rest) m in
      (stmt-forks d s ended a hs.0 ms.0, block-forks d (after_stmt a s) (ended || stmt_ends a) rest hs.1 ms.1)

same-or : (a b : Bool) → a ≡ true → (a || b) ≡ true
same-or true b h = refl
same-or false b h = absurd cc

or-there : (a b : Bool) → b ≡ true → (a || b) ≡ true
or-there true b h = refl
or-there false b h = h

-- each name is one of them
among-all : (d : Design) (pre fs : List (List ℕ)) → fork_calls d ≡ pre ++ fs → Among d fs
among-all d pre [] e = tt
among-all d pre (f ∷ fs) e = (
  ap (λ l. is_one_of l f) e ∙ list_any-append (λ y. same_name y f) pre (f ∷ fs) ∙ or-there (is_one_of pre f) (is_one_of (f ∷ fs) f) (same-or (same_name f f) (is_one_of fs f) (same-refl f)),
  among-all d (pre ++ f ∷ []) fs (e ∙ sym (append_assoc pre (f ∷ []) fs)),
)

-- ---- the role

some-same : {A : Type 0} (x y : A) → Some x ≡ Some y → x ≡ y
some-same x y h = cc

-- what a role of two parameters is made of
record OfTwo (d : Design) (b : Option Block) (role : SwitchRole) : Type 0 where
  body : b ≡ Some role.body
  functions_are : role.functions ≡ reverse (functions d)

of-two : (d : Design) (ps : List Param) (b : Option Block) (role : SwitchRole) → role_of_two d ps b ≡ Some role → OfTwo d b role
of-two d [] b role h = absurd cc
of-two d (s ∷ []) b role h = absurd cc
of-two d (s ∷ p ∷ []) None role h = absurd cc
of-two d (s ∷ p ∷ []) (Some b) role h =
    let same = some-same (record { headers = d.headers; functions = reverse (functions d); switch = s.name.text; port = p.name.text; body = b }) role h in
    record { body = ap (λ (r : SwitchRole). Some r.body) same; functions_are = ap (λ (r : SwitchRole). r.functions) (sym same) }
of-two d (s ∷ p ∷ q ∷ ps) b role h = absurd cc

-- the role that switches run
record IsInto (d : Design) (s : SwitchDecl) (role : SwitchRole) : Type 0 where
  declared : Role
  there : role_at (last_level d) d s.into.text ≡ Some declared
  two : OfTwo d declared.body role

into-of : (d : Design) (s : SwitchDecl) (role : SwitchRole) (o : Option Role) → role_at (last_level d) d s.into.text ≡ o → option_and_then (λ (r : Role). role_of_two d r.params r.body) o ≡ Some role → IsInto d s role
into-of d s role None e h = absurd cc
into-of d s role (Some r) e h = record { declared = r; there = e; two = of-two d r.params r.body role h }

record HasInto (d : Design) (parts : NetParts) : Type 0 where
  switches : SwitchDecl
  there : switch_decl d ≡ Some switches
  into : IsInto d switches parts.role

parts-by : (d : Design) (s : SwitchDecl) (h : HostDecl) (parts : NetParts) (o : Option SwitchRole) → switch_decl d ≡ Some s → ingress_role d s ≡ o → option_and_then (λ role. Some (parts_with s h role)) o ≡ Some parts → HasInto d parts
parts-by d s h parts None e k l = absurd cc
parts-by d s h parts (Some role) e k l =
    let same = some-same (parts_with s h role) parts l in
    record {
      switches = s;
      there = e;
      into = subst (λ (p : NetParts). IsInto d s p.role) same (into-of d s role (role_at (last_level d) d s.into.text) refl k);
    }

parts-with-host : (d : Design) (s : SwitchDecl) (parts : NetParts) (o : Option HostDecl) → switch_decl d ≡ Some s
    → option_and_then (λ h. option_and_then (λ role. Some (parts_with s h role)) (ingress_role d s)) o ≡ Some parts → HasInto d parts
parts-with-host d s parts None e h = absurd cc
parts-with-host d s parts (Some h) e l = parts-by d s h parts (ingress_role d s) e refl l

has-into : (d : Design) (parts : NetParts) (o : Option SwitchDecl) → switch_decl d ≡ o
    → option_and_then (λ s. option_and_then (λ h. option_and_then (λ role. Some (parts_with s h role)) (ingress_role d s)) (host_decl d)) o ≡ Some parts → HasInto d parts
has-into d parts None e h = absurd cc
has-into d parts (Some s) e h = parts-with-host d s parts (host_decl d) e h

abbrev inside : Design → Role → Scope
inside d r = record { design = d; vars = r.params; before = functions d; level = last_level d; packet = true }

abbrev stmts-by : Design → Option Role → List StmtSite
stmts-by d o = elim o [ None ↦ [] | Some x ↦ elim x.body [ None ↦ [] | Some b ↦ stmts_in (inside d x) false b ] ]

into-are : (d : Design) (parts : NetParts) (h : HasInto d parts) → into_stmts d ≡ stmts_in (inside d h.into.declared) false parts.role.body
into-are d parts h =
    ap (λ o. elim o [ None ↦ [] | Some s ↦ last_stmts d s.into.text ]) h.there
    ∙ ap (stmts-by d) h.into.there
    ∙ ap (λ b. elim b [ None ↦ [] | Some x ↦ stmts_in (inside d h.into.declared) false x ]) h.into.two.body

-- its forks are those of the design, each of a run-time function
pub role-forks : (d : Design) (parts : NetParts) → WellFormed d → net_parts d ≡ Some parts → BlockForks d parts.role.body
role-forks d parts w e =
    let into = has-into d parts (switch_decl d) refl e in
    let are = into-are d parts into in
    block-forks d (inside d into.into.declared) false parts.role.body (ap (flat_map (fork-fault d)) (sym are) ∙ w fork_form) (among-all d [] (flat_map fork-call (stmts_in (inside d into.into.declared) false parts.role.body)) (ap (flat_map fork-call) are))

pub role-functions : (d : Design) (parts : NetParts) → WellFormed d → net_parts d ≡ Some parts → AreNamed d parts.role.functions
role-functions d parts w e = subst (AreNamed d) (sym (has-into d parts (switch_decl d) refl e).into.two.functions_are) (functions-named d w)

-- ---- the log

pub log-of : (d : Design) (r : SwitchRole) (s j b k c : ℕ) → AreNamed d r.functions → BlockForks d r.body → Placed 1 0 (role_lowered r s).made j b → Placed j b (egress_lowered r s).made k c
    → ((ms : List Made) → Placed 1 0 ms k c → FieldsAt (8 ∷ widths_in ms) ms) → IsLogOf d (switch_made r s)
log-of d r s j b k c named forks first second fields =
    let placed = placed-both 1 0 j b k c (role_lowered r s).made (egress_lowered r s).made first second in
    let widths = 8 ∷ widths_in (switch_made r s) in
    let inner = callees r.headers r.functions r.port in
    let fine = callees-fine d widths r.headers r.functions r.port named in
    record {
      past_fields = k;
      past_tables = c;
      placed = placed;
      tables = both-fine d widths (role_lowered r s).made (egress_lowered r s).made
          (block-fine d widths inner fine r.body forks (role_vars r s) (record { app = 0; var = 0; field = 1; site = 1 }))
          (sites-fine d widths inner fine (role_lowered r s).sites (block-sites d inner r.body forks (role_vars r s) (record { app = 0; var = 0; field = 1; site = 1 })) (role_lowered r s).next)
          (fields (switch_made r s) placed);
    }
