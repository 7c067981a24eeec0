-- The statements of a body of the last level without their scopes, and what each rule gives of them.
use Rattle.std.proofs.Common.{◌≡◌, ℕ, ◌&&◌, ◌||◌, Bool, true, false, not, List, [], ◌∷◌, ◌++◌, map, refl, sym, ap, ◌∙◌}
use Rattle.std.specs.Prelude.{flat_map, Option, Some, None, option_and_then}
use Rattle.std.proofs.lemmas.List.{map-append}
use Rattle.std.proofs.lemmas.List.Concat.{flat_map-append}
use Rattle.std.specs.List.{list_any}
use Rattle.cocoon_num.specs.Tree.{Name, Expr, Exprs, no_exprs, expr, Stmt, let_, set_field, if_, filter, havoc_var, havoc_field, assume, fork, send, Block, no_stmts, stmt, Role, HostDecl, SwitchDecl, Design}
use Rattle.cocoon_num.specs.Lists.{first_of}
use Rattle.cocoon_types.specs.Design.{functions, role_at, last_level}
use Rattle.cocoon_types.specs.Parts.{parts, parts_of, list_of}
use Rattle.cocoon_types.specs.RuleParts.{unless, stmt_at}
use Rattle.cocoon_types.specs.Typing.{Scope, with_var}
use Rattle.cocoon_types.specs.Sites.{StmtSite, stmts_at, after_stmt, stmt_ends, exprs_of_stmt, parts_at}
use Rattle.cocoon_types.specs.Sites as sites
use Rattle.cocoon_types.specs.LastLevel.{last_stmts}
use Rattle.cocoon_types.specs.FormRules.{is_own_out, field_read, wire_send, wire_stmt, is_choice, fork_condition}
use Rattle.cocoon_types.specs.FormRules as forms
use Rattle.form_rules.specs.Stmts.{stmts_of, stmts_in, is_fork, holds_fork, field_at, fields_in, fields_of, fields_at, may_have, sends_own, forks_well}
use Rattle.form_rules.specs.Tested.{choice_fails}
use Rattle.form_rules.specs.Walked.{last_body}
use Rattle.form_rules.proofs.Membership.{flat-map, flat-same, any-map, any-same}

-- the statement of a site
abbrev pub at_site : StmtSite → Stmt
at_site y = y.s

mutual
  stmts_at_site : (s : Scope) (ended : Bool) (a : Stmt) → map at_site (stmts_at s ended a) ≡ stmts_of a
  stmts_at_site s ended (if_ at e a b) =
      ap (λ l. if_ at e a b ∷ l) (map-append at_site (sites.stmts_in s false a) (sites.stmts_in s false b) ∙ (λ i. stmts_in_site s false a i ++ stmts_in_site s false b i))
  stmts_at_site s ended (fork at x w e b) = ap (λ l. fork at x w e b ∷ l) (stmts_in_site (with_var x w s) false b)
  stmts_at_site s ended a = refl

  pub stmts_in_site : (s : Scope) (ended : Bool) (b : Block) → map at_site (sites.stmts_in s ended b) ≡ stmts_in b
  stmts_in_site s ended no_stmts = refl
  stmts_in_site s ended (stmt a b) =
      map-append at_site (stmts_at s ended a) (sites.stmts_in (after_stmt a s) (ended || stmt_ends a) b)
      ∙ (λ i. stmts_at_site s ended a i ++ stmts_in_site (after_stmt a s) (ended || stmt_ends a) b i)

-- ---- expressions

-- the fields of an expression, with the scope and without
fields-parts : (s : Scope) (e : Expr) → flat_map field_read (parts_at s e) ≡ fields_in e
fields-parts s e = flat-map field_read (λ a. record { scope = s; e = a }) (parts e)

fields-all : (s : Scope) (es : Exprs) → flat_map field_read (flat_map (parts_at s) (list_of es)) ≡ fields_of es
fields-all s no_exprs = refl
fields-all s (expr e es) =
    flat_map-append field_read (parts_at s e) (flat_map (parts_at s) (list_of es))
    ∙ (λ i. fields-parts s e i ++ fields-all s es i)
    ∙ sym (flat_map-append field_at (parts e) (parts_of es))

fields-stmt : (s : Scope) (ended : Bool) (a : Stmt) → flat_map field_read (exprs_of_stmt (record { scope = s; ended = ended; s = a })) ≡ fields_at a
fields-stmt s ended (let_ at x w e) = fields-parts s e
fields-stmt s ended (set_field at h f e) = fields-parts s e
fields-stmt s ended (if_ at e a b) = fields-parts s e
fields-stmt s ended (filter at e) = fields-parts s e
fields-stmt s ended (havoc_var at x w) = refl
fields-stmt s ended (havoc_field at h f) = refl
fields-stmt s ended (assume at e) = fields-parts s e
fields-stmt s ended (fork at x w e b) = fields-parts (with_var x w s) e
fields-stmt s ended (send at r es) = fields-all s es

-- ---- statements

-- what a wire may not have or read
abbrev pub wire_gives : HostDecl → SwitchDecl → Name → Stmt → List ℕ
wire_gives h s r a = unless (may_have h s r a) (stmt_at a) ++ fields_at a

with-fields : (h : HostDecl) (s : SwitchDecl) (r : Name) (sc : Scope) (ended : Bool) (a : Stmt)
    → unless (may_have h s r a) (stmt_at a) ++ flat_map field_read (exprs_of_stmt (record { scope = sc; ended = ended; s = a })) ≡ wire_gives h s r a
with-fields h s r sc ended a = ap (λ l. unless (may_have h s r a) (stmt_at a) ++ l) (fields-stmt sc ended a)

wire-at : (h : HostDecl) (s : SwitchDecl) (r : Name) (sc : Scope) (ended : Bool) (a : Stmt) → wire_stmt h s r (record { scope = sc; ended = ended; s = a }) ≡ wire_gives h s r a
wire-at h s r sc ended (if_ at e a b) = with-fields h s r sc ended (if_ at e a b)
wire-at h s r sc ended (send at q es) = with-fields h s r sc ended (send at q es)
wire-at h s r sc ended a = with-fields h s r sc ended a

-- a `send` of the first switch role
abbrev pub send_given : List ℕ → Option Role → StmtSite → List ℕ
send_given out role y = elim y.s [
  | send at r es ↦ unless (is_own_out out (option_and_then (λ (x : Role). first_of x.params) role) r es) at
  | _ ↦ []
]

abbrev pub send_gives : List ℕ → Option Role → Stmt → List ℕ
send_gives out role a = unless (sends_own out (option_and_then (λ (x : Role). first_of x.params) role) a) (stmt_at a)

send-own : (out : List ℕ) (role : Option Role) (s : Scope) (ended : Bool) (a : Stmt) → send_given out role (record { scope = s; ended = ended; s = a }) ≡ send_gives out role a
send-own out role s ended (send at q es) = refl
send-own out role s ended a = refl

-- a fork in a block, with the scope and without
fork-site : (y : StmtSite) → forms.is_fork y ≡ is_fork y.s
fork-site y = refl

fork-block : (s : Scope) (b : Block) → list_any forms.is_fork (sites.stmts_in s false b) ≡ holds_fork b
fork-block s b =
    any-same forms.is_fork (λ y. is_fork (at_site y)) fork-site (sites.stmts_in s false b)
    ∙ sym (any-map is_fork at_site (sites.stmts_in s false b))
    ∙ ap (list_any is_fork) (stmts_in_site s false b)

-- a fork that is not of its form
abbrev pub fork_given : Design → StmtSite → List ℕ
fork_given d y = elim y.s [
  | fork at x w e b ↦ unless (fork_condition d x.text e && not (list_any forms.is_fork (sites.stmts_in (with_var x w y.scope) false b))) at
  | _ ↦ []
]

abbrev pub fork_gives : Design → Stmt → List ℕ
fork_gives d a = unless (forks_well d a) (stmt_at a)

fork-own : (d : Design) (s : Scope) (ended : Bool) (a : Stmt) → fork_given d (record { scope = s; ended = ended; s = a }) ≡ fork_gives d a
fork-own d s ended (fork at x w e b) = ap (λ h. unless (fork_condition d x.text e && not h) at) (fork-block (with_var x w s) b)
fork-own d s ended a = refl

-- ---- bodies

-- the statements of the body of a role
last-stmts : (d : Design) (x : List ℕ) → map at_site (last_stmts d x) ≡ last_body d x
last-stmts d x = by (role_at (last_level d) d x)
  where
    in_body : (r : Role) (o : Option Block)
        → map at_site (elim o [ None ↦ [] | Some b ↦ sites.stmts_in (record { design = d; vars = r.params; before = functions d; level = last_level d; packet = true }) false b ])
        ≡ (elim o [ None ↦ [] | Some b ↦ stmts_in b ])
    in_body r None = refl
    in_body r (Some b) = stmts_in_site (record { design = d; vars = r.params; before = functions d; level = last_level d; packet = true }) false b

    by : (o : Option Role)
        → map at_site (elim o [ None ↦ [] | Some r ↦ elim r.body [ None ↦ [] | Some b ↦ sites.stmts_in (record { design = d; vars = r.params; before = functions d; level = last_level d; packet = true }) false b ] ])
        ≡ (elim o [ None ↦ [] | Some r ↦ elim r.body [ None ↦ [] | Some b ↦ stmts_in b ] ])
    by None = refl
    by (Some r) = in_body r r.body

-- what a rule gives of them
of-body : (d : Design) (x : List ℕ) (g : StmtSite → List ℕ) (h : Stmt → List ℕ) → ((y : StmtSite) → g y ≡ h y.s) → flat_map g (last_stmts d x) ≡ flat_map h (last_body d x)
of-body d x g h e =
    flat-same g (λ y. h (at_site y)) e (last_stmts d x)
    ∙ sym (flat-map h at_site (last_stmts d x))
    ∙ ap (flat_map h) (last-stmts d x)

pub choices-body : (d : Design) (x : List ℕ) → flat_map (λ (y : StmtSite). unless (not (is_choice y.s)) (stmt_at y.s)) (last_stmts d x) ≡ flat_map choice_fails (last_body d x)
choices-body d x = of-body d x (λ (y : StmtSite). unless (not (is_choice y.s)) (stmt_at y.s)) choice_fails (λ y. refl)

pub wires-body : (d : Design) (x : List ℕ) (h : HostDecl) (s : SwitchDecl) (r : Name) → flat_map (wire_stmt h s r) (last_stmts d x) ≡ flat_map (wire_gives h s r) (last_body d x)
wires-body d x h s r = of-body d x (wire_stmt h s r) (wire_gives h s r) (λ y. wire-at h s r y.scope y.ended y.s)

pub sends-body : (d : Design) (x out : List ℕ) (role : Option Role) → flat_map (send_given out role) (last_stmts d x) ≡ flat_map (send_gives out role) (last_body d x)
sends-body d x out role = of-body d x (send_given out role) (send_gives out role) (λ y. send-own out role y.scope y.ended y.s)

pub forks-body : (d : Design) (x : List ℕ) → flat_map (fork_given d) (last_stmts d x) ≡ flat_map (fork_gives d) (last_body d x)
forks-body d x = of-body d x (fork_given d) (fork_gives d) (λ y. fork-own d y.scope y.ended y.s)
