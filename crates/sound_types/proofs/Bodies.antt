-- Roles of a design that keeps the rules are well typed.
use Rattle.std.proofs.Common.{◌≡◌, inl, inr, ℕ, ◌≤◌, ◌==◌, ◌||◌, List, [], ◌∷◌, ◌++◌, length, Bool, true, false, Option, Some, None, is_some, option_and_then, refl, sym, ap, subst, ◌∙◌, arith}
use Rattle.std.specs.Prelude.{flat_map}
use Rattle.std.proofs.lemmas.List.{length-map}
use Rattle.cocoon_num.specs.Names.{named}
use Rattle.cocoon_num.specs.Sorts.{Sort, bits_sort, truth_sort, is_declared_width, unary_sort, binary_sort, slice_sort, pick_sort}
use Rattle.cocoon_num.specs.Tree.{Name, Expr, name, field, lit, true_or_false, call, unary, binary, slice, pick, Exprs, no_exprs, expr, Stmt, let_, set_field, if_, filter, havoc_var, havoc_field, assume, fork, send, Block, no_stmts, stmt, Param, Role, HeaderDecl}
use Rattle.cocoon_num.specs.Values.{with_both, with_all}
use Rattle.cocoon_types.specs.Design.{field_width, role_at, widths_of}
use Rattle.cocoon_types.specs.Parts.{parts, list_of, count_of}
use Rattle.cocoon_types.specs.RuleParts.{unless, unless_named, roles_of}
use Rattle.cocoon_types.specs.Sites.{ExprSite, StmtSite, after_stmt, stmt_ends, stmts_at, stmts_in, parts_at}
use Rattle.cocoon_types.specs.TypeRules.{first_role, role_widths, unless_is, wrong_args, where_}
use Rattle.cocoon_types.specs.Typing.{Scope, with_var, function_named, call_sort, sort_of, sorts_of}
use Rattle.sound_types.specs.Literals.{literal_fits}
use Rattle.sound_types.specs.WellTyped.{HasType, HaveWidths, IsTyped, IsTypedStmt, scope_at}
use Rattle.sound_types.proofs.Faultless.{IsFaultlessStmt}
use Rattle.sound_types.proofs.Levels.{KeepsRoles, role_in, role_name, role_there, roles_all, roles_grow, widths_kept}
use Rattle.sound_types.proofs.Members.{In, in_left, in_right, in_map, at_all, named_there, named_some}
use Rattle.sound_types.proofs.Options.{nil_left, nil_right, passes, some_there}
use Rattle.sound_types.proofs.Typing.{AreFaultless, IsFaultless, field_there, typed_as, where_there}

-- ---- types do not look at levels

mutual
  pub sort_same : (s : Scope) (i : ℕ) (e : Expr) → sort_of (scope_at s.design i s.vars s.packet) e ≡ sort_of s e
  sort_same s i (name at x) = refl
  sort_same s i (field at h f) = refl
  sort_same s i (lit at w n) = refl
  sort_same s i (true_or_false at b) = refl
  sort_same s i (call at f es) = ap (call_sort (function_named s f.text)) (sorts_same s i es)
  sort_same s i (unary at op a) = ap (option_and_then (unary_sort op)) (sort_same s i a)
  sort_same s i (binary at op a b) = λ k. with_both (binary_sort op) (sort_same s i a k) (sort_same s i b k)
  sort_same s i (slice at a high low) = ap (option_and_then (λ t. slice_sort t high low)) (sort_same s i a)
  sort_same s i (pick at c a b) = λ k. with_all pick_sort (sort_same s i c k) (sort_same s i a k) (sort_same s i b k)

  sorts_same : (s : Scope) (i : ℕ) (es : Exprs) → sorts_of (scope_at s.design i s.vars s.packet) es ≡ sorts_of s es
  sorts_same s i no_exprs = refl
  sorts_same s i (expr e es) = λ k. sort_same s i e k ∷ sorts_same s i es k

-- the parts of an expression, as they stand at a site
pub at_parts : (s : Scope) (e : Expr) → ((x : ExprSite) → In x (parts_at s e) → IsFaultless x) → AreFaultless s (parts e)
at_parts s e h a i = h (record { scope = s; e = a }) (in_map (λ b. record { scope = s; e = b }) a (parts e) i)

pub has_type : (s : Scope) (i : ℕ) (t : Sort) (e : Expr) → AreFaultless s (parts e) → unless_is s t e ≡ [] → HasType (scope_at s.design i s.vars s.packet) t e
has_type s i t e h k = (sort_same s i e ∙ typed_as s t e h k, at_all literal_fits (parts e) (λ a j. (h a j).literal))

-- ---- what is sent

have_widths : (s : Scope) (i : ℕ) (ws : List ℕ) (es : Exprs) → ((x : ExprSite) → In x (flat_map (parts_at s) (list_of es)) → IsFaultless x) → (length ws == count_of es) ≡ true → wrong_args s ws es ≡ []
    → HaveWidths (scope_at s.design i s.vars s.packet) ws es
have_widths s i [] no_exprs h c k = tt
have_widths s i [] (expr e es) h c k = absurd (grind (arith, c))
have_widths s i (w ∷ ws) no_exprs h c k = absurd (grind (arith, c))
have_widths s i (w ∷ ws) (expr e es) h c k =
    let count : (length ws == count_of es) ≡ true = grind (arith, c) in
    let rest = flat_map (parts_at s) (list_of es) in (
      has_type s i (bits_sort w) e (at_parts s e (λ x j. h x (in_left x (parts_at s e) rest j))) (nil_left (unless_is s (bits_sort w) e) (wrong_args s ws es) k),
      have_widths s i ws es (λ x j. h x (in_right x (parts_at s e) rest j)) count (nil_right (unless_is s (bits_sort w) e) (wrong_args s ws es) k),
    )

sent_args : (s : Scope) (es : Exprs) (at : ℕ) (o : Option Role) (q : Role) → o ≡ Some q → (elim o as (λ x. List ℕ) [ None ↦ [] | Some x ↦ unless (length x.params == count_of es) at ]) ≡ []
    → where_ (length (role_widths o) == count_of es) (wrong_args s (role_widths o) es) ≡ [] → ((length (widths_of q.params) == count_of es) ≡ true) × (wrong_args s (widths_of q.params) es ≡ [])
sent_args s es at None q e h k = absurd (cc)
sent_args s es at (Some x) q e h k =
    let same : x ≡ q = cc in
    let count : (length (widths_of x.params) == count_of es) ≡ true = ap (λ n. n == count_of es) (length-map x.params (λ (p : Param). p.width)) ∙ passes (length x.params == count_of es) at h in
    subst (λ (y : Role). ((length (widths_of y.params) == count_of es) ≡ true) × (wrong_args s (widths_of y.params) es ≡ [])) same
    (count, where_there (length (widths_of x.params) == count_of es) (wrong_args s (widths_of x.params) es) count k)

sends_typed : (s : Scope) (i at : ℕ) (r : Name) (es : Exprs) → s.level ≤ i → KeepsRoles s.design → (ended : Bool) → IsFaultlessStmt (record { scope = s; ended = ended; s = send at r es })
    → IsTypedStmt (scope_at s.design i s.vars s.packet) (send at r es)
sends_typed s i at r es l k ended c =
    let d = s.design in
    let old = some_there (role_at s.level d r.text) (passes (is_some (role_at s.level d r.text)) r.at c.role) in
    let was = role_in s.level d r.text old.0 old.1 in
    let now = role_there i d r.text old.0 (roles_grow s.level i d old.0 l was.0) was.1 in
    let is = role_in i d r.text now.0 now.1 in
    let first = named_some role_name r.text (roles_of d) old.0 (roles_all s.level d old.0 was.0) was.1 in
    let named = named_there role_name r.text (roles_of d) first.0 first.1 in
    let args = sent_args s es at (first_role d r.text) first.0 first.1 c.count c.values in
    let widths = widths_kept d k (length d.refines) first.0 now.0 named.0 (roles_all i d now.0 is.0) (sym named.1 ∙ is.1) in
    (now.0, now.1, subst (λ ws. HaveWidths (scope_at d i s.vars s.packet) ws es) widths (have_widths s i (widths_of first.0.params) es c.exprs args.0 args.1))

-- ---- blocks

-- the variables after a statement
abbrev pub after_vars : Stmt → List Param → List Param
after_vars (let_ at x w e) ps = record { name = x; width = w } ∷ ps
after_vars (havoc_var at x w) ps = record { name = x; width = w } ∷ ps
after_vars s ps = ps

pub after_scope : (st : Stmt) (s : Scope) → after_stmt st s ≡ record s { vars = after_vars st s.vars }
after_scope (let_ at x w e) s = refl
after_scope (set_field at h f e) s = refl
after_scope (if_ at e a b) s = refl
after_scope (filter at e) s = refl
after_scope (havoc_var at x w) s = refl
after_scope (havoc_field at h f) s = refl
after_scope (assume at e) s = refl
after_scope (fork at x w e b) s = refl
after_scope (send at r es) s = refl

set_value : (s : Scope) (o : Option ℕ) (w : ℕ) (e : Expr) → o ≡ Some w → (elim o as (λ x. List ℕ) [ None ↦ [] | Some v ↦ unless_is s (bits_sort v) e ]) ≡ [] → unless_is s (bits_sort w) e ≡ []
set_value s None w e h k = absurd (cc)
set_value s (Some v) w e h k = let same : v ≡ w = cc in subst (λ z. unless_is s (bits_sort z) e ≡ []) same k

declared : (w : ℕ) (x : Name) → unless_named (is_declared_width w) x ++ [] ≡ [] → is_declared_width w ≡ true
declared w x h = passes (is_declared_width w) x.at (nil_left (unless_named (is_declared_width w) x) [] h)

abbrev pub Faultless : List StmtSite → Type 0
Faultless sites = (x : StmtSite) → In x sites → IsFaultlessStmt x

mutual
  stmt_typed : (st : Stmt) (s : Scope) (i : ℕ) (ended : Bool) → s.level ≤ i → KeepsRoles s.design → Faultless (stmts_at s ended st) → IsTypedStmt (scope_at s.design i s.vars s.packet) st
  stmt_typed (let_ at x w e) s i ended l k h =
      let c = h (record { scope = s; ended = ended; s = let_ at x w e }) (inl refl) in
      (declared w x c.narrow, has_type s i (bits_sort w) e (at_parts s e c.exprs) c.values)
  stmt_typed (set_field at x f e) s i ended l k h =
      let c = h (record { scope = s; ended = ended; s = set_field at x f e }) (inl refl) in
      let w = field_there f (named (λ (d : HeaderDecl). d.name) x.text s.design.headers) x.at c.known in
      (w.0, w.1, has_type s i (bits_sort w.0) e (at_parts s e c.exprs) (set_value s (field_width s.design.headers x.text f.text) w.0 e w.1 c.values))
  stmt_typed (if_ at e a b) s i ended l k h =
      let c = h (record { scope = s; ended = ended; s = if_ at e a b }) (inl refl) in (
        has_type s i truth_sort e (at_parts s e c.exprs) c.truths,
        block_typed a s i false l k (λ x j. h x (inr (in_left x (stmts_in s false a) (stmts_in s false b) j))),
        block_typed b s i false l k (λ x j. h x (inr (in_right x (stmts_in s false a) (stmts_in s false b) j))),
      )
  stmt_typed (filter at e) s i ended l k h =
      let c = h (record { scope = s; ended = ended; s = filter at e }) (inl refl) in has_type s i truth_sort e (at_parts s e c.exprs) c.truths
  stmt_typed (havoc_var at x w) s i ended l k h = declared w x (h (record { scope = s; ended = ended; s = havoc_var at x w }) (inl refl)).narrow
  stmt_typed (havoc_field at x f) s i ended l k h =
      field_there f (named (λ (d : HeaderDecl). d.name) x.text s.design.headers) x.at (h (record { scope = s; ended = ended; s = havoc_field at x f }) (inl refl)).known
  stmt_typed (assume at e) s i ended l k h =
      let c = h (record { scope = s; ended = ended; s = assume at e }) (inl refl) in has_type s i truth_sort e (at_parts s e c.exprs) c.truths
  stmt_typed (fork at x w e b) s i ended l k h =
      let c = h (record { scope = s; ended = ended; s = fork at x w e b }) (inl refl) in
      (declared w x c.narrow, has_type (with_var x w s) i truth_sort e (at_parts (with_var x w s) e c.exprs) c.truths, block_typed b (with_var x w s) i false l k (λ y j. h y (inr j)))
  stmt_typed (send at r es) s i ended l k h = sends_typed s i at r es l k ended (h (record { scope = s; ended = ended; s = send at r es }) (inl refl))

  pub block_typed : (b : Block) (s : Scope) (i : ℕ) (ended : Bool) → s.level ≤ i → KeepsRoles s.design → Faultless (stmts_in s ended b) → IsTyped (scope_at s.design i s.vars s.packet) b
  block_typed no_stmts s i ended l k h = tt
  block_typed (stmt first rest) s i ended l k h =
      let more = ended || stmt_ends first in
      let next = record s { vars = after_vars first s.vars } in
      let later : Faultless (stmts_in (after_stmt first s) more rest) = λ x j. h x (in_right x (stmts_at s ended first) (stmts_in (after_stmt first s) more rest) j) in (
        stmt_typed first s i ended l k (λ x j. h x (in_left x (stmts_at s ended first) (stmts_in (after_stmt first s) more rest) j)),
        subst (λ t. IsTyped t rest) (sym (after_scope first (scope_at s.design i s.vars s.packet)))
            (block_typed rest next i more l k (subst (λ t. Faultless (stmts_in t more rest)) (after_scope first s) later)),
      )
