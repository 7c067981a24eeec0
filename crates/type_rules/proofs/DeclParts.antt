-- The faults of declarations, as the walk notes them: those of their widths, of their expressions, of their bodies.
use Rattle.std.proofs.Common.{◌≡◌, ℕ, ◌==◌, ◌&&◌, ◌||◌, Bool, true, false, not, List, [], ◌++◌, Option, Some, None, refl, sym, ap, subst, ◌∙◌}
use Rattle.std.proofs.Math.Bool.{or-false}
use Rattle.std.specs.List.{list_any}
use Rattle.std.proofs.lemmas.List.{append-nil}
use Rattle.cocoon_num.specs.Tree.{Name, Param, Expr, ResultKind, of_width, HostDecl, SwitchDecl, Decl, a_function, an_assumption, a_role, a_host, a_switch, Block, Design, token_index}
use Rattle.cocoon_num.specs.Lists.{has_number}
use Rattle.cocoon_num.specs.Sorts.{Sort, truth_sort, is_declared_width}
use Rattle.cocoon_types.specs.Rules.{Rule, zero_count, too_wide, wrong_width, not_bool}
use Rattle.cocoon_types.specs.RuleParts.{unless}
use Rattle.cocoon_types.specs.Typing.{Scope, with_vars, sort_of, result_sort}
use Rattle.cocoon_types.specs.TypeRules.{wide_params, is_other}
use Rattle.cocoon_types.specs.Sites.{DeclSite, parts_at}
use Rattle.cocoon_types.specs.FirstFault.{Fault, rank}
use Rattle.cocoon_types.specs.Noting.{Notes, NotingLaws}
use Rattle.type_rules.specs.Tests.{fails_if, fails_among, at_expr, in_expr, in_block, at_decl, in_decl, expr_or_other, wide_kind}
use Rattle.type_rules.specs.Typed.{Around, scope_of}
use Rattle.type_rules.proofs.Membership.{or_assoc, number-append, number-unless, number-unless_not}
use Rattle.type_rules.proofs.ExprTests.{or_turn}

-- a declaration with its scope
abbrev pub decl_site : Around → Design → Decl → DeclSite
decl_site w d x = record { scope = scope_of w d [] false; decl = x }

-- ---- the tests of each kind

function_test : (rule : Rule) (n : ℕ) (s : Scope) (x : Name) (ps : List Param) (k : ResultKind) (e : Expr)
    → ((fails_among too_wide (wide_params ps) (record { rule = rule; at = n }) || fails_among too_wide (wide_kind x k) (record { rule = rule; at = n }))
    || fails_if wrong_width (is_other (result_sort k) (sort_of (with_vars ps s) e)) (token_index e) (record { rule = rule; at = n }))
    ≡ at_decl (record { scope = s; decl = a_function (record { name = x; params = ps; result = k; body = Some e }) }) (record { rule = rule; at = n })
function_test too_wide n s x ps k e = or-false (has_number n (wide_params ps) || has_number n (wide_kind x k)) ∙ sym (number-append n (wide_params ps) (wide_kind x k))
function_test wrong_width n s x ps k e = sym (number-unless n (is_other (result_sort k) (sort_of (with_vars ps s) e)) (token_index e))
function_test rule n s x ps k e = refl

runtime_test : (rule : Rule) (n : ℕ) (s : Scope) (x : Name) (ps : List Param) (k : ResultKind)
    → (fails_among too_wide (wide_params ps) (record { rule = rule; at = n }) || fails_among too_wide (wide_kind x k) (record { rule = rule; at = n }))
    ≡ at_decl (record { scope = s; decl = a_function (record { name = x; params = ps; result = k; body = None }) }) (record { rule = rule; at = n })
runtime_test too_wide n s x ps k = sym (number-append n (wide_params ps) (wide_kind x k))
runtime_test rule n s x ps k = refl

assume_test : (rule : Rule) (n at : ℕ) (s : Scope) (ps : List Param) (e : Expr)
    → (fails_among too_wide (wide_params ps) (record { rule = rule; at = n }) || fails_if not_bool (is_other truth_sort (sort_of (with_vars ps s) e)) (token_index e) (record { rule = rule; at = n }))
    ≡ at_decl (record { scope = s; decl = an_assumption (record { at = at; params = ps; body = e }) }) (record { rule = rule; at = n })
assume_test too_wide n at s ps e = or-false (has_number n (wide_params ps)) ∙ sym (ap (has_number n) (append-nil (wide_params ps)))
assume_test not_bool n at s ps e = sym (number-unless n (is_other truth_sort (sort_of (with_vars ps s) e)) (token_index e))
assume_test rule n at s ps e = refl

role_test : (rule : Rule) (n : ℕ) (s : Scope) (x : Name) (ps : List Param) (e : Expr) (b : Option Block)
    → (fails_among too_wide (wide_params ps) (record { rule = rule; at = n }) || fails_if not_bool (is_other truth_sort (sort_of (with_vars ps s) e)) (token_index e) (record { rule = rule; at = n }))
    ≡ at_decl (record { scope = s; decl = a_role (record { name = x; params = ps; guard = e; body = b }) }) (record { rule = rule; at = n })
role_test too_wide n s x ps e b = or-false (has_number n (wide_params ps)) ∙ sym (ap (has_number n) (append-nil (wide_params ps)))
role_test not_bool n s x ps e b = sym (number-unless n (is_other truth_sort (sort_of (with_vars ps s) e)) (token_index e))
role_test rule n s x ps e b = refl

switch_test : (rule : Rule) (n : ℕ) (s : Scope) (x : SwitchDecl) → fails_if zero_count (x.ports == 0) x.at (record { rule = rule; at = n }) ≡ at_decl (record { scope = s; decl = a_switch x }) (record { rule = rule; at = n })
switch_test zero_count n s x = sym (ap (has_number n) (append-nil (unless (not (x.ports == 0)) x.at)) ∙ number-unless n (x.ports == 0) x.at)
switch_test rule n s x = refl

host_test : (rule : Rule) (n : ℕ) (s : Scope) (x : HostDecl) → at_decl (record { scope = s; decl = a_host x }) (record { rule = rule; at = n }) ≡ false
host_test too_wide n s x = refl
host_test rule n s x = refl

-- ---- what is noted of a declaration

-- an expression, and its fault, in the order of the walk
with_other : (a i c : Bool) → (a || (i || c)) ≡ ((a || c) || i)
with_other a i c = ap (λ x. a || x) (or_turn i c) ∙ or_assoc a c i

module _ (laws : NotingLaws) (w : Around) (d : Design) where
  pub function_in : (x : Name) (ps : List Param) (k : ResultKind) (e : Expr) {o p q r : Option Fault}
      → Notes (fails_among too_wide (wide_params ps)) o p → Notes (fails_among too_wide (wide_kind x k)) p q
      → Notes (expr_or_other (scope_of w d (ps ++ []) false) wrong_width (result_sort k) e) q r
      → Notes (in_decl (decl_site w d (a_function (record { name = x; params = ps; result = k; body = Some e })))) o r
  function_in x ps k e {o} {p} {q} {r} u v z =
      laws.alike _ _ o r
      (λ f. with_other (fails_among too_wide (wide_params ps) f || fails_among too_wide (wide_kind x k) f) (in_expr (scope_of w d (ps ++ []) false) e f)
      (fails_if wrong_width (is_other (result_sort k) (sort_of (scope_of w d (ps ++ []) false) e)) (token_index e) f)
      ∙ ap (λ b. b || in_expr (scope_of w d (ps ++ []) false) e f) (function_test f.rule f.at (scope_of w d [] false) x ps k e)
      ∙ ap (λ l. at_decl (decl_site w d (a_function (record { name = x; params = ps; result = k; body = Some e }))) f || list_any (λ y. at_expr y f) l) (sym (append-nil (parts_at (scope_of w d (ps ++ []) false) e)))
      ∙ sym (or-false _))
      (laws.in_turn _ _ o q r (laws.in_turn _ _ o p q u v) z)

  pub runtime_in : (x : Name) (ps : List Param) (k : ResultKind) {o p q : Option Fault}
      → Notes (fails_among too_wide (wide_params ps)) o p → Notes (fails_among too_wide (wide_kind x k)) p q
      → Notes (in_decl (decl_site w d (a_function (record { name = x; params = ps; result = k; body = None })))) o q
  runtime_in x ps k {o} {p} {q} u v =
      laws.alike _ _ o q
      (λ f. runtime_test f.rule f.at (scope_of w d [] false) x ps k ∙ sym (or-false _) ∙ sym (or-false _))
      (laws.in_turn _ _ o p q u v)

  pub assume_in : (at : ℕ) (ps : List Param) (e : Expr) {o p q : Option Fault}
      → Notes (fails_among too_wide (wide_params ps)) o p → Notes (expr_or_other (scope_of w d (ps ++ []) false) not_bool truth_sort e) p q
      → Notes (in_decl (decl_site w d (an_assumption (record { at = at; params = ps; body = e })))) o q
  assume_in at ps e {o} {p} {q} u z =
      laws.alike _ _ o q
      (λ f. with_other (fails_among too_wide (wide_params ps) f) (in_expr (scope_of w d (ps ++ []) false) e f) (fails_if not_bool (is_other truth_sort (sort_of (scope_of w d (ps ++ []) false) e)) (token_index e) f)
      ∙ ap (λ b. b || in_expr (scope_of w d (ps ++ []) false) e f) (assume_test f.rule f.at at (scope_of w d [] false) ps e)
      ∙ sym (or-false _))
      (laws.in_turn _ _ o p q u z)

  pub guard_in : (x : Name) (ps : List Param) (e : Expr) {o p q : Option Fault}
      → Notes (fails_among too_wide (wide_params ps)) o p → Notes (expr_or_other (scope_of w d (ps ++ []) false) not_bool truth_sort e) p q
      → Notes (in_decl (decl_site w d (a_role (record { name = x; params = ps; guard = e; body = None })))) o q
  guard_in x ps e {o} {p} {q} u z =
      laws.alike _ _ o q
      (λ f. with_other (fails_among too_wide (wide_params ps) f) (in_expr (scope_of w d (ps ++ []) false) e f) (fails_if not_bool (is_other truth_sort (sort_of (scope_of w d (ps ++ []) false) e)) (token_index e) f)
      ∙ ap (λ b. b || in_expr (scope_of w d (ps ++ []) false) e f) (role_test f.rule f.at (scope_of w d [] false) x ps e None)
      ∙ sym (or-false _))
      (laws.in_turn _ _ o p q u z)

  pub role_in : (x : Name) (ps : List Param) (e : Expr) (b : Block) {o p q r : Option Fault}
      → Notes (fails_among too_wide (wide_params ps)) o p → Notes (expr_or_other (scope_of w d (ps ++ []) false) not_bool truth_sort e) p q
      → Notes (in_block (scope_of w d (ps ++ []) true) false b) q r
      → Notes (in_decl (decl_site w d (a_role (record { name = x; params = ps; guard = e; body = Some b })))) o r
  role_in x ps e b {o} {p} {q} {r} u z y =
      laws.alike _ _ o r
      (λ f. ap (λ t. t || in_block (scope_of w d (ps ++ []) true) false b f)
      (with_other (fails_among too_wide (wide_params ps) f) (in_expr (scope_of w d (ps ++ []) false) e f) (fails_if not_bool (is_other truth_sort (sort_of (scope_of w d (ps ++ []) false) e)) (token_index e) f)
      ∙ ap (λ t. t || in_expr (scope_of w d (ps ++ []) false) e f) (role_test f.rule f.at (scope_of w d [] false) x ps e (Some b))))
      (laws.in_turn _ _ o q r (laws.in_turn _ _ o p q u z) y)

  pub switch_in : (x : SwitchDecl) {o p : Option Fault} → Notes (fails_if zero_count (x.ports == 0) x.at) o p → Notes (in_decl (decl_site w d (a_switch x))) o p
  switch_in x {o} {p} u = laws.alike _ _ o p (λ f. switch_test f.rule f.at (scope_of w d [] false) x ∙ sym (or-false _) ∙ sym (or-false _)) u

  pub host_in : (x : HostDecl) (o : Option Fault) → Notes (in_decl (decl_site w d (a_host x))) o o
  host_in x o = laws.nothing _ o (λ f. or-false _ ∙ or-false _ ∙ host_test f.rule f.at (scope_of w d [] false) x)

  -- ---- the same of what the code has

  pub typed_has : (s : Scope) (rule : Rule) (t : Sort) (e : Expr) {n : ℕ} {a : Option Sort} {b : Bool} {o p q : Option Fault}
      → n ≡ token_index e → a ≡ sort_of s e → b ≡ is_other t a → Notes (in_expr s e) o p → Notes (fails_if rule b n) p q → Notes (expr_or_other s rule t e) o q
  typed_has s rule t e {n} {a} {b} {o} {p} {q} hn ha hb m k =
      laws.in_turn _ _ o p q m (laws.alike _ (fails_if rule (is_other t (sort_of s e)) (token_index e)) p q (λ f. (λ i. fails_if rule ((hb ∙ ap (is_other t) ha) i) (hn i) f)) k)

  pub function_has : (x : Name) (ps : List Param) (k : ResultKind) (e : Expr) (body : Option Expr) {qs vars : List Param} {t : Sort} {o p q r : Option Fault}
      → qs ≡ ps → vars ≡ ps ++ [] → t ≡ result_sort k → body ≡ Some e
      → Notes (fails_among too_wide (wide_params qs)) o p → Notes (fails_among too_wide (wide_kind x k)) p q
      → Notes (expr_or_other (scope_of w d vars false) wrong_width t e) q r
      → Notes (in_decl (decl_site w d (a_function (record { name = x; params = ps; result = k; body = body })))) o r
  function_has x ps k e body {qs} {vars} {t} {o} {p} {q} {r} hq hv ht hb u v z =
      subst (λ (b : Option Expr). Notes (in_decl (decl_site w d (a_function (record { name = x; params = ps; result = k; body = b })))) o r) (sym hb)
      (function_in x ps k e (subst (λ (l : List Param). Notes (fails_among too_wide (wide_params l)) o p) hq u) v
      (subst (λ (l : List Param). Notes (expr_or_other (scope_of w d l false) wrong_width (result_sort k) e) q r) hv
      (subst (λ (a : Sort). Notes (expr_or_other (scope_of w d vars false) wrong_width a e) q r) ht z)))

  pub runtime_has : (x : Name) (ps : List Param) (k : ResultKind) (body : Option Expr) {qs : List Param} {o p q : Option Fault} → qs ≡ ps → body ≡ None
      → Notes (fails_among too_wide (wide_params qs)) o p → Notes (fails_among too_wide (wide_kind x k)) p q
      → Notes (in_decl (decl_site w d (a_function (record { name = x; params = ps; result = k; body = body })))) o q
  runtime_has x ps k body {qs} {o} {p} {q} hq hb u v =
      subst (λ (b : Option Expr). Notes (in_decl (decl_site w d (a_function (record { name = x; params = ps; result = k; body = b })))) o q) (sym hb)
      (runtime_in x ps k (subst (λ (l : List Param). Notes (fails_among too_wide (wide_params l)) o p) hq u) v)

  pub assume_has : (at : ℕ) (ps : List Param) (e : Expr) {qs vars : List Param} {o p q : Option Fault} → qs ≡ ps → vars ≡ ps ++ []
      → Notes (fails_among too_wide (wide_params qs)) o p → Notes (expr_or_other (scope_of w d vars false) not_bool truth_sort e) p q
      → Notes (in_decl (decl_site w d (an_assumption (record { at = at; params = ps; body = e })))) o q
  assume_has at ps e {qs} {vars} {o} {p} {q} hq hv u z =
      assume_in at ps e (subst (λ (l : List Param). Notes (fails_among too_wide (wide_params l)) o p) hq u)
      (subst (λ (l : List Param). Notes (expr_or_other (scope_of w d l false) not_bool truth_sort e) p q) hv z)

  pub guard_has : (x : Name) (ps : List Param) (e : Expr) (body : Option Block) {qs vars : List Param} {o p q : Option Fault} → qs ≡ ps → vars ≡ ps ++ [] → body ≡ None
      → Notes (fails_among too_wide (wide_params qs)) o p → Notes (expr_or_other (scope_of w d vars false) not_bool truth_sort e) p q
      → Notes (in_decl (decl_site w d (a_role (record { name = x; params = ps; guard = e; body = body })))) o q
  guard_has x ps e body {qs} {vars} {o} {p} {q} hq hv hb u z =
      subst (λ (b : Option Block). Notes (in_decl (decl_site w d (a_role (record { name = x; params = ps; guard = e; body = b })))) o q) (sym hb)
      (guard_in x ps e (subst (λ (l : List Param). Notes (fails_among too_wide (wide_params l)) o p) hq u)
      (subst (λ (l : List Param). Notes (expr_or_other (scope_of w d l false) not_bool truth_sort e) p q) hv z))

  pub role_has : (x : Name) (ps : List Param) (e : Expr) (body : Option Block) (b : Block) {qs vars : List Param} {o p q r : Option Fault} → qs ≡ ps → vars ≡ ps ++ [] → body ≡ Some b
      → Notes (fails_among too_wide (wide_params qs)) o p → Notes (expr_or_other (scope_of w d vars false) not_bool truth_sort e) p q
      → Notes (in_block (scope_of w d vars true) false b) q r
      → Notes (in_decl (decl_site w d (a_role (record { name = x; params = ps; guard = e; body = body })))) o r
  role_has x ps e body b {qs} {vars} {o} {p} {q} {r} hq hv hb u z y =
      subst (λ (c : Option Block). Notes (in_decl (decl_site w d (a_role (record { name = x; params = ps; guard = e; body = c })))) o r) (sym hb)
      (role_in x ps e b (subst (λ (l : List Param). Notes (fails_among too_wide (wide_params l)) o p) hq u)
      (subst (λ (l : List Param). Notes (expr_or_other (scope_of w d l false) not_bool truth_sort e) p q) hv z)
      (subst (λ (l : List Param). Notes (in_block (scope_of w d l true) false b) q r) hv y))

-- a width that may not be declared
pub width_noted : NotingLaws → (x : Name) (w : ℕ) {o p : Option Fault} → Notes (fails_if too_wide (not (is_declared_width w)) x.at) o p → Notes (fails_among too_wide (wide_kind x (of_width w))) o p
width_noted laws x w {o} {p} m =
    laws.alike _ (fails_among too_wide (wide_kind x (of_width w))) o p (λ f. ap (λ (b : Bool). (rank f.rule == rank too_wide) && b) (sym (number-unless_not f.at (is_declared_width w) x.at))) m
