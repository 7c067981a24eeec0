-- The faults of a statement with its expressions and blocks: those of its parts, and its own.
use Rattle.std.proofs.Common.{◌≡◌, ℕ, ◌+◌, ◌<◌, ◌||◌, Bool, true, false, List, [], ◌∷◌, ◌++◌, map, drop, length, get_or, Option, refl, sym, ap, subst, ◌∙◌}
use Rattle.std.proofs.Math.Bool.{or-false}
use Rattle.std.proofs.lemmas.List.{append_assoc, drop_more}
use Rattle.std.specs.List.{list_any, flat_map}
use Rattle.cocoon_num.specs.Tree.{Name, Param, Design, Expr, Stmt, Block, stmt, let_, set_field, if_, filter, havoc_var, havoc_field, assume, fork, send}
use Rattle.cocoon_types.specs.Parts.{list_of}
use Rattle.cocoon_types.specs.Typing.{Scope, with_var}
use Rattle.cocoon_types.specs.Sites.{StmtSite, parts_at, after_stmt, stmt_ends, block_ends, stmts_at, stmts_in}
use Rattle.cocoon_types.specs.FirstFault.{Fault}
use Rattle.cocoon_types.specs.Noting.{Notes, NotingLaws}
use Rattle.cocoon_syntax.specs.TreeOf.{block_of, exprs_of, stmt_of}
use Rattle.cocoon_syntax.specs.declared.stmt.Stmt.{Stmt as Statement}
use Rattle.type_rules.specs.Typed.{Around, scope_of}
use Rattle.type_rules.specs.Tests.{at_expr, in_expr, in_exprs, at_stmt, with_exprs, in_stmt, in_block}
use Rattle.type_rules.proofs.Membership.{or_assoc, any-append, any-flat_map}
use Rattle.type_rules.proofs.ExprTests.{or_turn}

-- a statement with its scope
abbrev pub stmt_site : Scope → Bool → Stmt → StmtSite
stmt_site s ended a = record { scope = s; ended = ended; s = a }

list_back : (es : List Expr) → list_of (exprs_of es) ≡ es
list_back [] = refl
list_back (e ∷ es) = ap (λ xs. e ∷ xs) (list_back es)

-- the values of a `send`
sent_values : (s : Scope) (es : List Expr) (f : Fault) → list_any (λ x. at_expr x f) (flat_map (parts_at s) (list_of (exprs_of es))) ≡ in_exprs s es f
sent_values s es f =
    ap (λ xs. list_any (λ x. at_expr x f) (flat_map (parts_at s) xs)) (list_back es) ∙ any-flat_map (λ x. at_expr x f) (parts_at s) es

-- the parts in the order in which they are noted
in_order : (a b c : Bool) → ((a || b) || c) ≡ ((b || a) || c)
in_order a b c = ap (λ x. x || c) (or_turn a b)

module _ (laws : NotingLaws) (s : Scope) (ended : Bool) where
  -- a statement without a block, whose expressions were noted before
  plain_in : (a : Stmt) (q : Fault → Bool) {o p r : Option Fault} → ((f : Fault) → in_stmt s ended a f ≡ ((at_stmt (stmt_site s ended a) f || q f) || false))
      → Notes q o p → Notes (at_stmt (stmt_site s ended a)) p r → Notes (in_stmt s ended a) o r
  plain_in a q {o} {p} {r} same m n =
      laws.alike _ (in_stmt s ended a) o r
      (λ f. or_turn (q f) (at_stmt (stmt_site s ended a) f) ∙ sym (or-false (at_stmt (stmt_site s ended a) f || q f)) ∙ sym (same f))
      (laws.in_turn _ _ o p r m n)

  -- and one without expressions
  alone_in : (a : Stmt) {o p : Option Fault} → ((f : Fault) → in_stmt s ended a f ≡ ((at_stmt (stmt_site s ended a) f || false) || false))
      → Notes (at_stmt (stmt_site s ended a)) o p → Notes (in_stmt s ended a) o p
  alone_in a {o} {p} same n =
      laws.alike _ (in_stmt s ended a) o p
      (λ f. sym (or-false (at_stmt (stmt_site s ended a) f)) ∙ sym (or-false (at_stmt (stmt_site s ended a) f || false)) ∙ sym (same f)) n

  pub let_in : (at : ℕ) (x : Name) (w : ℕ) (e : Expr) {o p r : Option Fault} → Notes (in_expr s e) o p → Notes (at_stmt (stmt_site s ended (let_ at x w e))) p r → Notes (in_stmt s ended (let_ at x w e)) o r
  let_in at x w e m n = plain_in (let_ at x w e) (in_expr s e) (λ f. refl) m n

  pub set_in : (at : ℕ) (h g : Name) (e : Expr) {o p r : Option Fault} → Notes (in_expr s e) o p → Notes (at_stmt (stmt_site s ended (set_field at h g e))) p r → Notes (in_stmt s ended (set_field at h g e)) o r
  set_in at h g e m n = plain_in (set_field at h g e) (in_expr s e) (λ f. refl) m n

  pub filter_in : (at : ℕ) (e : Expr) {o p r : Option Fault} → Notes (in_expr s e) o p → Notes (at_stmt (stmt_site s ended (filter at e))) p r → Notes (in_stmt s ended (filter at e)) o r
  filter_in at e m n = plain_in (filter at e) (in_expr s e) (λ f. refl) m n

  pub assume_in : (at : ℕ) (e : Expr) {o p r : Option Fault} → Notes (in_expr s e) o p → Notes (at_stmt (stmt_site s ended (assume at e))) p r → Notes (in_stmt s ended (assume at e)) o r
  assume_in at e m n = plain_in (assume at e) (in_expr s e) (λ f. refl) m n

  pub havoc_in : (at : ℕ) (x : Name) (w : ℕ) {o p : Option Fault} → Notes (at_stmt (stmt_site s ended (havoc_var at x w))) o p → Notes (in_stmt s ended (havoc_var at x w)) o p
  havoc_in at x w n = alone_in (havoc_var at x w) (λ f. refl) n

  pub havoc_field_in : (at : ℕ) (h g : Name) {o p : Option Fault} → Notes (at_stmt (stmt_site s ended (havoc_field at h g))) o p → Notes (in_stmt s ended (havoc_field at h g)) o p
  havoc_field_in at h g n = alone_in (havoc_field at h g) (λ f. refl) n

  pub send_in : (at : ℕ) (r : Name) (es : List Expr) {o p q : Option Fault} → Notes (in_exprs s es) o p → Notes (at_stmt (stmt_site s ended (send at r (exprs_of es)))) p q → Notes (in_stmt s ended (send at r (exprs_of es))) o q
  send_in at r es m n =
      plain_in (send at r (exprs_of es)) (in_exprs s es)
      (λ f. ap (λ b. (at_stmt (stmt_site s ended (send at r (exprs_of es))) f || b) || false) (sent_values s es f)) m n

  pub if_in : (at : ℕ) (e : Expr) (a b : Block) {o p q r t : Option Fault} → Notes (in_expr s e) o p → Notes (at_stmt (stmt_site s ended (if_ at e a b))) p q
      → Notes (in_block s false a) q r → Notes (in_block s false b) r t → Notes (in_stmt s ended (if_ at e a b)) o t
  if_in at e a b {o} {p} {q} {r} {t} m n j k =
      laws.alike _ (in_stmt s ended (if_ at e a b)) o t
      (λ f. ap (λ x. (x || in_block s false a f) || in_block s false b f) (or_turn (in_expr s e f) (at_stmt (stmt_site s ended (if_ at e a b)) f))
      ∙ sym (or_assoc (at_stmt (stmt_site s ended (if_ at e a b)) f || in_expr s e f) (in_block s false a f) (in_block s false b f))
      ∙ ap (λ x. (at_stmt (stmt_site s ended (if_ at e a b)) f || in_expr s e f) || x) (sym (any-append (λ y. with_exprs y f) (stmts_in s false a) (stmts_in s false b))))
      (laws.in_turn _ _ o r t (laws.in_turn _ _ o q r (laws.in_turn _ _ o p q m n) j) k)

  pub fork_in : (at : ℕ) (x : Name) (w : ℕ) (e : Expr) (b : Block) {o p q r : Option Fault} → Notes (in_expr (with_var x w s) e) o p → Notes (at_stmt (stmt_site s ended (fork at x w e b))) p q
      → Notes (in_block (with_var x w s) false b) q r → Notes (in_stmt s ended (fork at x w e b)) o r
  fork_in at x w e b {o} {p} {q} {r} m n j =
      laws.alike _ (in_stmt s ended (fork at x w e b)) o r
      (λ f. in_order (in_expr (with_var x w s) e f) (at_stmt (stmt_site s ended (fork at x w e b)) f) (in_block (with_var x w s) false b f))
      (laws.in_turn _ _ o q r (laws.in_turn _ _ o p q m n) j)

  -- the first statement of a block, and the rest of it
  pub block_step : (a : Stmt) (b : Block) {o p q : Option Fault} → Notes (in_stmt s ended a) o p → Notes (in_block (after_stmt a s) (ended || stmt_ends a) b) p q
      → Notes (in_block s ended (stmt a b)) o q
  block_step a b {o} {p} {q} m n =
      laws.alike _ (in_block s ended (stmt a b)) o q
      (λ f. sym (any-append (λ y. with_exprs y f) (stmts_at s ended a) (stmts_in (after_stmt a s) (ended || stmt_ends a) b)))
      (laws.in_turn _ _ o p q m n)

-- ---- a block, statement by statement

-- the next statement, and the rest
pub rest_step : (ss : List Statement) (i : ℕ) (a : Statement) → i < length ss → a ≡ get_or ss i a
    → block_of (map stmt_of (drop i ss)) ≡ stmt (stmt_of a) (block_of (map stmt_of (drop (i + 1) ss)))
rest_step ss i a l h = ap (λ (xs : List Statement). block_of (map stmt_of xs)) (drop_more ss i a l ∙ ap (λ (y : Statement). y ∷ drop (i + 1) ss) (sym h))

-- a statement adds variables to the scope
pub adds : (a : Stmt) (s : Scope) → (qs : List Param) × ((after_stmt a s).vars ≡ qs ++ s.vars)
adds (let_ at x w e) s = (record { name = x; width = w } ∷ [], refl)
adds (set_field at h f e) s = ([], refl)
adds (if_ at e a b) s = ([], refl)
adds (filter at e) s = ([], refl)
adds (havoc_var at x w) s = (record { name = x; width = w } ∷ [], refl)
adds (havoc_field at h f) s = ([], refl)
adds (assume at e) s = ([], refl)
adds (fork at x w e b) s = ([], refl)
adds (send at r es) s = ([], refl)

-- and changes nothing else of it
after_scope : (a : Stmt) (around : Around) (d : Design) (vars : List Param) → after_stmt a (scope_of around d vars true) ≡ scope_of around d ((after_stmt a (scope_of around d vars true)).vars) true
after_scope (let_ at x w e) around d vars = refl
after_scope (set_field at h f e) around d vars = refl
after_scope (if_ at e a b) around d vars = refl
after_scope (filter at e) around d vars = refl
after_scope (havoc_var at x w) around d vars = refl
after_scope (havoc_field at h f) around d vars = refl
after_scope (assume at e) around d vars = refl
after_scope (fork at x w e b) around d vars = refl
after_scope (send at r es) around d vars = refl

-- the variables of a block, after one statement more
pub bound_more : (a : Stmt) (s : Scope) (vars old : List Param) → vars ≡ (after_stmt a s).vars → (ps : List Param) × (s.vars ≡ ps ++ old) → (qs : List Param) × (vars ≡ qs ++ old)
bound_more a s vars old h b =
    let new = adds a s in
    (new.0 ++ b.0, h ∙ new.1 ∙ ap (λ (l : List Param). new.0 ++ l) b.1 ∙ sym (append_assoc new.0 b.0 old))

-- whether it ends
pub ends_more : (ended ends so whole : Bool) (a : Stmt) (b rest : Block) → so ≡ (ended || ends) → ends ≡ stmt_ends a → b ≡ stmt a rest → (ended || block_ends b) ≡ whole → (so || block_ends rest) ≡ whole
ends_more ended ends so whole a b rest hs he hb h =
    (λ i. (hs ∙ ap (λ x. ended || x) he) i || block_ends rest)
    ∙ sym (or_assoc ended (stmt_ends a) (block_ends rest))
    ∙ ap (λ (x : Block). ended || block_ends x) (sym hb) ∙ h

-- and what is noted
pub noted_more : NotingLaws → (around : Around) (d : Design) (vars new : List Param) (ended ends so : Bool) (a : Stmt) (b rest : Block) {o p q : Option Fault}
    → so ≡ (ended || ends) → ends ≡ stmt_ends a → b ≡ stmt a rest → new ≡ (after_stmt a (scope_of around d vars true)).vars
    → Notes (in_stmt (scope_of around d vars true) ended a) o p → Notes (in_block (scope_of around d new true) so rest) p q → Notes (in_block (scope_of around d vars true) ended b) o q
noted_more laws around d vars new ended ends so a b rest {o} {p} {q} hs he hb hv m n =
    subst (λ (x : Block). Notes (in_block (scope_of around d vars true) ended x) o q) (sym hb)
    (block_step laws (scope_of around d vars true) ended a rest m
    (subst (λ (z : Bool). Notes (in_block (after_stmt a (scope_of around d vars true)) z rest) p q) (hs ∙ ap (λ x. ended || x) he)
    (subst (λ (s : Scope). Notes (in_block s so rest) p q) (ap (λ (v : List Param). scope_of around d v true) hv ∙ sym (after_scope a around d vars)) n)))
