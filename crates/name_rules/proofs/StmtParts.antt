-- The faults of a statement with its expressions and blocks: its own, and those of its parts.
use Rattle.std.proofs.Common.{◌≡◌, ℕ, ◌+◌, ◌<◌, ◌||◌, Bool, true, false, List, [], ◌∷◌, ◌++◌, map, drop, length, get_or, Option, is_none, refl, sym, ap, subst, ◌∙◌}
use Rattle.std.proofs.lemmas.List.{append-nil, append_assoc, drop_more}
use Rattle.std.specs.List.{list_any, flat_map}
use Rattle.cocoon_num.specs.Tree.{Name, Param, Design, Expr, Stmt, Block, stmt, let_, set_field, if_, filter, havoc_var, havoc_field, assume, fork, send}
use Rattle.cocoon_types.specs.Parts.{list_of}
use Rattle.cocoon_types.specs.Rules.{twice, unknown_name, unknown_role}
use Rattle.cocoon_types.specs.RuleParts.{unless_named}
use Rattle.cocoon_types.specs.NameRules.{unknown_field, unknown_role_at}
use Rattle.cocoon_types.specs.Typing.{Scope, with_var, var_width}
use Rattle.cocoon_types.specs.Sites.{StmtSite, parts_at, after_stmt, stmt_ends, stmts_at, stmts_in}
use Rattle.cocoon_types.specs.FirstFault.{Fault}
use Rattle.cocoon_types.specs.Noting.{Notes, NotingLaws}
use Rattle.cocoon_syntax.specs.TreeOf.{block_of, exprs_of, stmt_of}
use Rattle.cocoon_syntax.specs.declared.stmt.Stmt.{Stmt as Statement}
use Rattle.cocoon_types.specs.Among.{among}
use Rattle.name_rules.specs.declared.point.Point.{Point}
use Rattle.name_rules.specs.Tests.{scope_at, at_expr, in_expr, in_exprs, at_stmt, with_exprs, in_stmt, in_block}
use Rattle.name_rules.proofs.Membership.{or_assoc, or_false, any-append, any-flat_map, among-none}

-- a statement with its scope
abbrev pub stmt_site : Scope → Bool → Stmt → StmtSite
stmt_site s ended a = record { scope = s; ended = ended; s = a }

list_back : (es : List Expr) → list_of (exprs_of es) ≡ es
list_back [] = refl
list_back (e ∷ es) = ap (λ xs. e ∷ xs) (list_back es)

-- the values of a `send`
sent_values : (s : Scope) (es : List Expr) (f : Fault) → list_any (λ x. at_expr x f) (flat_map (parts_at s) (list_of (exprs_of es))) ≡ in_exprs s es f
sent_values s es f =
    ap (λ xs. list_any (λ x. at_expr x f) (flat_map (parts_at s) xs)) (list_back es) ∙ any-flat_map (λ x. at_expr x f) (parts_at s) es

-- ---- a statement itself

-- a statement that breaks no rule itself
none_at : (f : Fault) → ((among twice [] f || among unknown_name [] f) || among unknown_role [] f) ≡ false
none_at f = λ i. (among-none twice f i || among-none unknown_name f i) || among-none unknown_role f i

-- one that may bind a variable again, name an unknown field, or an unknown role
only_twice : (xs : List ℕ) (f : Fault) → among twice xs f ≡ ((among twice (xs ++ []) f || among unknown_name [] f) || among unknown_role [] f)
only_twice xs f =
    sym ((λ i. (among twice (append-nil xs i) f || among-none unknown_name f i) || among-none unknown_role f i)
    ∙ or_false (among twice xs f || false) ∙ or_false (among twice xs f))

only_unknown : (xs : List ℕ) (f : Fault) → among unknown_name xs f ≡ ((among twice [] f || among unknown_name xs f) || among unknown_role [] f)
only_unknown xs f = sym ((λ i. (among-none twice f i || among unknown_name xs f) || among-none unknown_role f i) ∙ or_false (among unknown_name xs f))

only_role : (xs : List ℕ) (f : Fault) → among unknown_role xs f ≡ ((among twice [] f || among unknown_name [] f) || among unknown_role xs f)
only_role xs f = sym (λ i. (among-none twice f i || among-none unknown_name f i) || among unknown_role xs f)

-- ---- a statement with its parts

module _ (laws : NotingLaws) (s : Scope) (ended : Bool) where
  abbrev bound_again_at : Name → Fault → Bool
  bound_again_at x = among twice (unless_named (is_none (var_width s x.text)) x)

  -- a statement without a block, and what is noted of its expressions
  plain_in : (a : Stmt) (t q : Fault → Bool) {o p r : Option Fault} → ((f : Fault) → t f ≡ at_stmt (stmt_site s ended a) f) → ((f : Fault) → in_stmt s ended a f ≡ ((at_stmt (stmt_site s ended a) f || q f) || false))
      → Notes t o p → Notes q p r → Notes (in_stmt s ended a) o r
  plain_in a t q {o} {p} {r} is same m n =
      laws.alike (λ f. t f || q f) (in_stmt s ended a) o r
      (λ f. ap (λ b. b || q f) (is f) ∙ sym (or_false (at_stmt (stmt_site s ended a) f || q f)) ∙ sym (same f))
      (laws.in_turn t q o p r m n)

  -- one that breaks no rule itself
  quiet_in : (a : Stmt) (q : Fault → Bool) {o p : Option Fault} → ((f : Fault) → at_stmt (stmt_site s ended a) f ≡ false) → ((f : Fault) → in_stmt s ended a f ≡ ((at_stmt (stmt_site s ended a) f || q f) || false))
      → Notes q o p → Notes (in_stmt s ended a) o p
  quiet_in a q {o} {p} none same m =
      laws.alike q (in_stmt s ended a) o p
      (λ f. ap (λ b. b || q f) (sym (none f)) ∙ sym (or_false (at_stmt (stmt_site s ended a) f || q f)) ∙ sym (same f)) m

  -- one without expressions
  alone_in : (a : Stmt) (t : Fault → Bool) {o p : Option Fault} → ((f : Fault) → t f ≡ at_stmt (stmt_site s ended a) f) → ((f : Fault) → in_stmt s ended a f ≡ ((at_stmt (stmt_site s ended a) f || false) || false))
      → Notes t o p → Notes (in_stmt s ended a) o p
  alone_in a t {o} {p} is same m =
      laws.alike t (in_stmt s ended a) o p
      (λ f. is f ∙ sym (or_false (at_stmt (stmt_site s ended a) f)) ∙ sym (or_false (at_stmt (stmt_site s ended a) f || false)) ∙ sym (same f)) m

  pub let_in : (at : ℕ) (x : Name) (w : ℕ) (e : Expr) {o p r : Option Fault} → Notes (bound_again_at x) o p → Notes (in_expr s e) p r → Notes (in_stmt s ended (let_ at x w e)) o r
  let_in at x w e m n = plain_in (let_ at x w e) (bound_again_at x) (in_expr s e) (λ f. only_twice (unless_named (is_none (var_width s x.text)) x) f) (λ f. refl) m n

  pub set_in : (at : ℕ) (h g : Name) (e : Expr) {o p r : Option Fault} → Notes (among unknown_name (unknown_field s h g)) o p → Notes (in_expr s e) p r → Notes (in_stmt s ended (set_field at h g e)) o r
  set_in at h g e m n = plain_in (set_field at h g e) (among unknown_name (unknown_field s h g)) (in_expr s e) (λ f. only_unknown (unknown_field s h g) f) (λ f. refl) m n

  pub filter_in : (at : ℕ) (e : Expr) {o p : Option Fault} → Notes (in_expr s e) o p → Notes (in_stmt s ended (filter at e)) o p
  filter_in at e m = quiet_in (filter at e) (in_expr s e) none_at (λ f. refl) m

  pub assume_in : (at : ℕ) (e : Expr) {o p : Option Fault} → Notes (in_expr s e) o p → Notes (in_stmt s ended (assume at e)) o p
  assume_in at e m = quiet_in (assume at e) (in_expr s e) none_at (λ f. refl) m

  pub havoc_field_in : (at : ℕ) (h g : Name) {o p : Option Fault} → Notes (among unknown_name (unknown_field s h g)) o p → Notes (in_stmt s ended (havoc_field at h g)) o p
  havoc_field_in at h g m = alone_in (havoc_field at h g) (among unknown_name (unknown_field s h g)) (λ f. only_unknown (unknown_field s h g) f) (λ f. refl) m

  pub send_in : (at : ℕ) (r : Name) (es : List Expr) {o p q : Option Fault} → Notes (among unknown_role (unknown_role_at s r)) o p → Notes (in_exprs s es) p q → Notes (in_stmt s ended (send at r (exprs_of es))) o q
  send_in at r es m n =
      plain_in (send at r (exprs_of es)) (among unknown_role (unknown_role_at s r)) (in_exprs s es) (λ f. only_role (unknown_role_at s r) f)
      (λ f. ap (λ b. (at_stmt (stmt_site s ended (send at r (exprs_of es))) f || b) || false) (sent_values s es f)) m n

  pub if_in : (at : ℕ) (e : Expr) (a b : Block) {o p q r : Option Fault} → Notes (in_expr s e) o p → Notes (in_block s false a) p q → Notes (in_block s false b) q r
      → Notes (in_stmt s ended (if_ at e a b)) o r
  if_in at e a b {o} {p} {q} {r} m j k =
      laws.alike _ (in_stmt s ended (if_ at e a b)) o r
      (λ f. sym (or_assoc (in_expr s e f) (in_block s false a f) (in_block s false b f))
      ∙ (λ i. (sym (none_at f) i || in_expr s e f) || sym (any-append (λ y. with_exprs y f) (stmts_in s false a) (stmts_in s false b)) i))
      (laws.in_turn _ _ o q r (laws.in_turn _ _ o p q m j) k)

  pub fork_in : (at : ℕ) (x : Name) (w : ℕ) (e : Expr) (b : Block) {o p q r : Option Fault} → Notes (bound_again_at x) o p → Notes (in_expr (with_var x w s) e) p q
      → Notes (in_block (with_var x w s) false b) q r → Notes (in_stmt s ended (fork at x w e b)) o r
  fork_in at x w e b {o} {p} {q} {r} m n j =
      laws.alike _ (in_stmt s ended (fork at x w e b)) o r
      (λ f. ap (λ t. (t || in_expr (with_var x w s) e f) || in_block (with_var x w s) false b f) (only_twice (unless_named (is_none (var_width s x.text)) x) f))
      (laws.in_turn _ _ o q r (laws.in_turn (bound_again_at x) _ o p q m n) j)

  -- the first statement of a block, and the rest of it
  pub block_step : (a : Stmt) (b : Block) {o p q : Option Fault} → Notes (in_stmt s ended a) o p → Notes (in_block (after_stmt a s) (ended || stmt_ends a) b) p q
      → Notes (in_block s ended (stmt a b)) o q
  block_step a b {o} {p} {q} m n =
      laws.alike _ (in_block s ended (stmt a b)) o q
      (λ f. sym (any-append (λ y. with_exprs y f) (stmts_at s ended a) (stmts_in (after_stmt a s) (ended || stmt_ends a) b)))
      (laws.in_turn _ _ o p q m n)

-- ---- a block, statement by statement

-- the next statement, and the rest
pub rest_step : (ss : List Statement) (i : ℕ) (a : Statement) → i < length ss → a ≡ get_or ss i a
    → block_of (map stmt_of (drop i ss)) ≡ stmt (stmt_of a) (block_of (map stmt_of (drop (i + 1) ss)))
rest_step ss i a l h = ap (λ (xs : List Statement). block_of (map stmt_of xs)) (drop_more ss i a l ∙ ap (λ (y : Statement). y ∷ drop (i + 1) ss) (sym h))

-- a statement adds variables to the scope
adds : (a : Stmt) (s : Scope) → (qs : List Param) × ((after_stmt a s).vars ≡ qs ++ s.vars)
adds (let_ at x w e) s = (record { name = x; width = w } ∷ [], refl)
adds (set_field at h f e) s = ([], refl)
adds (if_ at e a b) s = ([], refl)
adds (filter at e) s = ([], refl)
adds (havoc_var at x w) s = (record { name = x; width = w } ∷ [], refl)
adds (havoc_field at h f) s = ([], refl)
adds (assume at e) s = ([], refl)
adds (fork at x w e b) s = ([], refl)
adds (send at r es) s = ([], refl)

-- and changes nothing else of it
after_scope : (a : Stmt) (d : Design) (p : Point) (vars : List Param) → after_stmt a (scope_at d p vars true) ≡ scope_at d p ((after_stmt a (scope_at d p vars true)).vars) true
after_scope (let_ at x w e) d p vars = refl
after_scope (set_field at h f e) d p vars = refl
after_scope (if_ at e a b) d p vars = refl
after_scope (filter at e) d p vars = refl
after_scope (havoc_var at x w) d p vars = refl
after_scope (havoc_field at h f) d p vars = refl
after_scope (assume at e) d p vars = refl
after_scope (fork at x w e b) d p vars = refl
after_scope (send at r es) d p vars = refl

-- the variables of a block, after one statement more
pub bound_more : (a : Stmt) (s : Scope) (vars old : List Param) → vars ≡ (after_stmt a s).vars → (ps : List Param) × (s.vars ≡ ps ++ old) → (qs : List Param) × (vars ≡ qs ++ old)
bound_more a s vars old h b =
    let new = adds a s in
    (new.0 ++ b.0, h ∙ new.1 ∙ ap (λ (l : List Param). new.0 ++ l) b.1 ∙ sym (append_assoc new.0 b.0 old))

-- and what is noted
pub noted_more : NotingLaws → (d : Design) (at : Point) (vars new : List Param) (ended : Bool) (a : Stmt) (b rest : Block) {o p q : Option Fault}
    → b ≡ stmt a rest → new ≡ (after_stmt a (scope_at d at vars true)).vars
    → Notes (in_stmt (scope_at d at vars true) ended a) o p → Notes (in_block (scope_at d at new true) (ended || stmt_ends a) rest) p q → Notes (in_block (scope_at d at vars true) ended b) o q
noted_more laws d at vars new ended a b rest {o} {p} {q} hb hv m n =
    subst (λ (x : Block). Notes (in_block (scope_at d at vars true) ended x) o q) (sym hb)
    (block_step laws (scope_at d at vars true) ended a rest m
    (subst (λ (s : Scope). Notes (in_block s (ended || stmt_ends a) rest) p q) (ap (λ (v : List Param). scope_at d at v true) hv ∙ sym (after_scope a d at vars)) n))
