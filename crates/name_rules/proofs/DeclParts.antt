-- The faults of declarations: those of their expressions and of their bodies.
use Rattle.std.proofs.Common.{◌≡◌, ℕ, ◌||◌, true, false, List, [], ◌++◌, Option, Some, None, refl, sym, ap, subst, ◌∙◌}
use Rattle.std.specs.List.{list_any}
use Rattle.std.proofs.lemmas.List.{append-nil}
use Rattle.cocoon_num.specs.Tree.{Name, Param, Expr, ResultKind, Decl, a_function, an_assumption, a_role, Block, Design}
use Rattle.cocoon_types.specs.Sites.{DeclSite, parts_at}
use Rattle.cocoon_types.specs.FirstFault.{Fault}
use Rattle.cocoon_types.specs.Noting.{Notes, NotingLaws}
use Rattle.name_rules.specs.declared.point.Point.{Point}
use Rattle.name_rules.specs.Tests.{scope_at, at_expr, in_expr, in_block, in_decl}
use Rattle.name_rules.proofs.Membership.{or_false}

-- a declaration with its scope
abbrev pub decl_site : Design → Point → Decl → DeclSite
decl_site d at x = record { scope = scope_at d at [] false; decl = x }

module _ (laws : NotingLaws) (d : Design) (at : Point) where
  pub function_in : (x : Name) (ps : List Param) (k : ResultKind) (e : Expr) (body : Option Expr) {vars : List Param} {o p : Option Fault}
      → vars ≡ ps ++ [] → body ≡ Some e → Notes (in_expr (scope_at d at vars false) e) o p
      → Notes (in_decl (decl_site d at (a_function (record { name = x; params = ps; result = k; body = body })))) o p
  function_in x ps k e body {vars} {o} {p} hv hb m =
      subst (λ (b : Option Expr). Notes (in_decl (decl_site d at (a_function (record { name = x; params = ps; result = k; body = b })))) o p) (sym hb)
      (laws.alike (in_expr (scope_at d at vars false) e) (in_decl (decl_site d at (a_function (record { name = x; params = ps; result = k; body = Some e })))) o p
      (λ f. ap (λ (l : List Param). in_expr (scope_at d at l false) e f) hv
      ∙ ap (list_any (λ y. at_expr y f)) (sym (append-nil (parts_at (scope_at d at (ps ++ []) false) e))) ∙ sym (or_false _)) m)

  pub runtime_in : (x : Name) (ps : List Param) (k : ResultKind) (body : Option Expr) (o : Option Fault) → body ≡ None
      → Notes (in_decl (decl_site d at (a_function (record { name = x; params = ps; result = k; body = body })))) o o
  runtime_in x ps k body o hb =
      subst (λ (b : Option Expr). Notes (in_decl (decl_site d at (a_function (record { name = x; params = ps; result = k; body = b })))) o o) (sym hb)
      (laws.nothing _ o (λ f. refl))

  pub assume_in : (n : ℕ) (ps : List Param) (e : Expr) {vars : List Param} {o p : Option Fault} → vars ≡ ps ++ [] → Notes (in_expr (scope_at d at vars false) e) o p
      → Notes (in_decl (decl_site d at (an_assumption (record { at = n; params = ps; body = e })))) o p
  assume_in n ps e {vars} {o} {p} hv m =
      laws.alike (in_expr (scope_at d at vars false) e) (in_decl (decl_site d at (an_assumption (record { at = n; params = ps; body = e })))) o p
      (λ f. ap (λ (l : List Param). in_expr (scope_at d at l false) e f) hv ∙ sym (or_false _)) m

  pub guard_in : (x : Name) (ps : List Param) (e : Expr) (body : Option Block) {vars : List Param} {o p : Option Fault} → vars ≡ ps ++ [] → body ≡ None
      → Notes (in_expr (scope_at d at vars false) e) o p
      → Notes (in_decl (decl_site d at (a_role (record { name = x; params = ps; guard = e; body = body })))) o p
  guard_in x ps e body {vars} {o} {p} hv hb m =
      subst (λ (b : Option Block). Notes (in_decl (decl_site d at (a_role (record { name = x; params = ps; guard = e; body = b })))) o p) (sym hb)
      (laws.alike (in_expr (scope_at d at vars false) e) (in_decl (decl_site d at (a_role (record { name = x; params = ps; guard = e; body = None })))) o p
      (λ f. ap (λ (l : List Param). in_expr (scope_at d at l false) e f) hv ∙ sym (or_false _)) m)

  pub role_in : (x : Name) (ps : List Param) (e : Expr) (body : Option Block) (b : Block) {vars : List Param} {o p q : Option Fault} → vars ≡ ps ++ [] → body ≡ Some b
      → Notes (in_expr (scope_at d at vars false) e) o p → Notes (in_block (scope_at d at vars true) false b) p q
      → Notes (in_decl (decl_site d at (a_role (record { name = x; params = ps; guard = e; body = body })))) o q
  role_in x ps e body b {vars} {o} {p} {q} hv hb m n =
      subst (λ (c : Option Block). Notes (in_decl (decl_site d at (a_role (record { name = x; params = ps; guard = e; body = c })))) o q) (sym hb)
      (subst (λ (l : List Param). Notes (λ f. in_expr (scope_at d at l false) e f || in_block (scope_at d at l true) false b f) o q) hv
      (laws.in_turn _ _ o p q m n))
