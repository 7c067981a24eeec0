-- Of which form the body of the ingress role is: no choices, forks by a call, sends to the egress role at the own switch, and
-- no variable twice. And why it is: the rules of designs say so of each statement.
use Rattle.std.proofs.Common.{◌≡◌, ◌⊎◌, inl, inr, ℕ, suc, ◌<◌, ◌==◌, ◌&&◌, ◌||◌, not, List, [], ◌∷◌, ◌++◌, length, reverse, Bool, true, false, cond, Option, Some, None, is_none, if◌then◌else◌, option_map, refl, sym, ap, subst, ◌∙◌, arith}
use Rattle.std.specs.List.{list_any, list_all}
use Rattle.std.proofs.lemmas.List.{reverse-reverse, reverse-append, length-reverse}
use Rattle.cocoon_num.specs.Names.{same_name, named}
use Rattle.cocoon_num.specs.Sorts.{bits_sort, truth_sort, has_sort}
use Rattle.cocoon_num.specs.Tree.{Name, Param, Expr, name, field, lit, true_or_false, call, unary, binary, slice, pick, Exprs, no_exprs, expr, FunctionDecl, ResultKind, of_width, of_truth, Stmt, let_, set_field, if_, filter, havoc_var, havoc_field, assume, fork, send, Block, no_stmts, stmt, Design}
use Rattle.cocoon_types.specs.Design.{functions, widths_of}
use Rattle.cocoon_types.specs.FormRules.{is_choice, is_fork, is_own_out, is_runtime, fork_condition, ends_with, mentions}
use Rattle.cocoon_types.specs.NameRules.{bound_again}
use Rattle.cocoon_types.specs.Parts.{parts, parts_of, list_of, count_of}
use Rattle.cocoon_types.specs.RuleParts.{unless_named}
use Rattle.cocoon_types.specs.SameTrees.{same_expr}
use Rattle.cocoon_types.specs.Sites.{StmtSite, after_stmt, stmts_at, stmts_in, stmt_ends}
use Rattle.cocoon_types.specs.Typing.{Scope, args_fit, function_named, result_sort, sort_of, sorts_of, var_width, with_var}
use Rattle.lowering.specs.Lower.{before_last_from, params_before_last}
use Rattle.lowering.specs.LowerBlock.{in_expr, in_exprs}
use Rattle.lowering.specs.Forks.{AllForks, OfFork, StmtForks}
use Rattle.lowering_correct.proofs.ForkCalls.{EndsWith, IsForkCall, is_variable}
use Rattle.sound_types.specs.WellTyped.{IsDeclared, IsTyped, IsTypedStmt, scope_at}
use Rattle.sound_types.proofs.Bodies.{after_scope, after_vars}
use Rattle.sound_types.proofs.Functions.{NamesDiffer}
use Rattle.sound_types.proofs.Members.{In, all_at, in_left, in_right, in_reverse, reverse_in, named_some, named_there}
use Rattle.sound_types.proofs.Options.{both_true, if_there, nil_left, passes, same_text, text_self, then_there}
use Rattle.sound_types.proofs.Values.{has_sort_there}
use Rattle.lowering_correct.proofs.Taking.{left_in, right_in, some_same}

-- ---- the forms

-- no variable of the name is in scope
abbrev pub IsNew : Name → List Param → Type 0
IsNew x vars = option_map (λ (p : Param). p.width) (named (λ (p : Param). p.name) x.text vars) ≡ None

-- a send to the egress role, whose first value is the own switch
pub record IsOwnSend (own out : List ℕ) (r : Name) (es : Exprs) : Type 0 where
  pub switch : Expr
  pub port : Expr
  pub role_is : r.text ≡ out
  pub values_are : es ≡ expr switch (expr port no_exprs)
  pub is_own : is_variable own switch ≡ true

abbrev pub one_more : Name → ℕ → List Param → List Param
one_more x w vars = record { name = x; width = w } ∷ vars

abbrev mutual
  pub FormedStmt : List FunctionDecl → (own out : List ℕ) → (inside : Bool) → List Param → Stmt → Type 0
  FormedStmt fs own out inside vars (let_ at x w e) = IsNew x vars
  FormedStmt fs own out inside vars (set_field at h f e) = Unit {0}
  FormedStmt fs own out inside vars (if_ at e a b) = Formed fs own out inside vars a × Formed fs own out inside vars b
  FormedStmt fs own out inside vars (filter at e) = Unit {0}
  FormedStmt fs own out inside vars (havoc_var at x w) = ⊥
  FormedStmt fs own out inside vars (havoc_field at h f) = ⊥
  FormedStmt fs own out inside vars (assume at e) = ⊥
  FormedStmt fs own out inside vars (fork at x w e b) = (inside ≡ false) × IsNew x vars × IsForkCall fs x.text w e × Formed fs own out true (one_more x w vars) b
  FormedStmt fs own out inside vars (send at r es) = IsOwnSend own out r es

  -- the block is of the form, inside of a fork or not, after these variables
  pub Formed : List FunctionDecl → (own out : List ℕ) → (inside : Bool) → List Param → Block → Type 0
  Formed fs own out inside vars no_stmts = Unit {0}
  Formed fs own out inside vars (stmt first rest) = FormedStmt fs own out inside vars first × Formed fs own out inside (after_vars first vars) rest

mutual
  forks_in : (P : OfFork) (d : Design) (i : ℕ) (own out : List ℕ) (inside : Bool) (s : Stmt) (vars : List Param) → ((x : List ℕ) (w : ℕ) (e : Expr) → IsDeclared w → IsForkCall (reverse (functions d)) x w e → P x w e)
      → IsTypedStmt (scope_at d i vars true) s → FormedStmt (reverse (functions d)) own out inside vars s → StmtForks P s
  forks_in P d i own out inside (let_ at x w e) vars f t h = tt
  forks_in P d i own out inside (set_field at x g e) vars f t h = tt
  forks_in P d i own out inside (if_ at e a b) vars f t h = (all_forks P d i own out inside a vars f t.1 h.0, all_forks P d i own out inside b vars f t.2 h.1)
  forks_in P d i own out inside (filter at e) vars f t h = tt
  forks_in P d i own out inside (havoc_var at x w) vars f t h = tt
  forks_in P d i own out inside (havoc_field at x g) vars f t h = tt
  forks_in P d i own out inside (assume at e) vars f t h = tt
  forks_in P d i own out inside (fork at x w e b) vars f t h = f x.text w e t.0 h.2
  forks_in P d i own out inside (send at r es) vars f t h = tt

  -- what holds of the conditions of forks of their form holds of all forks
  pub all_forks : (P : OfFork) (d : Design) (i : ℕ) (own out : List ℕ) (inside : Bool) (b : Block) (vars : List Param) → ((x : List ℕ) (w : ℕ) (e : Expr) → IsDeclared w → IsForkCall (reverse (functions d)) x w e → P x w e)
      → IsTyped (scope_at d i vars true) b → Formed (reverse (functions d)) own out inside vars b → AllForks P b
  all_forks P d i own out inside no_stmts vars f t h = tt
  all_forks P d i own out inside (stmt first rest) vars f t h =
      (forks_in P d i own out inside first vars f t.0 h.0, all_forks P d i own out inside rest (after_vars first vars) f (subst (λ s. IsTyped s rest) (after_scope first (scope_at d i vars true)) t.1) h.1)

-- ---- names in expressions

pub either : (a b : Bool) → (a || b) ≡ true → (a ≡ true) ⊎ (b ≡ true)
either true b h = inl refl
either false b h = inr h

-- a name that stands in an expression is one of its parts
abbrev Part : List ℕ → List Expr → Type 0
Part x es = (a : Expr) × In a es × (same_expr a (name 0 x) ≡ true)

part_left : (x : List ℕ) (xs ys : List Expr) → Part x xs → Part x (xs ++ ys)
part_left x xs ys h = (h.0, in_left h.0 xs ys h.1, h.2)

part_right : (x : List ℕ) (xs ys : List Expr) → Part x ys → Part x (xs ++ ys)
part_right x xs ys h = (h.0, in_right h.0 xs ys h.1, h.2)

part_later : (x : List ℕ) (a : Expr) (xs : List Expr) → Part x xs → Part x (a ∷ xs)
part_later x a xs h = (h.0, inr h.1, h.2)

turned : (x y : List ℕ) → same_name x y ≡ true → same_name y x ≡ true
turned x y h = ap (λ z. same_name z x) (sym (same_text x y h)) ∙ text_self x

mutual
  name_part : (x : List ℕ) (e : Expr) → in_expr x e ≡ true → Part x (parts e)
  name_part x (name at y) h = (name at y, inl refl, turned x y h)
  name_part x (field at y f) h = absurd (cc)
  name_part x (lit at w n) h = absurd (cc)
  name_part x (true_or_false at b) h = absurd (cc)
  name_part x (call at f es) h = part_later x (call at f es) (parts_of es) (name_parts x es h)
  name_part x (unary at op a) h = part_later x (unary at op a) (parts a) (name_part x a h)
  name_part x (binary at op a b) h = part_later x (binary at op a b) (parts a ++ parts b) (elim (either (in_expr x a) (in_expr x b) h) [
    | inl k ↦ part_left x (parts a) (parts b) (name_part x a k)
    | inr k ↦ part_right x (parts a) (parts b) (name_part x b k)
  ])
  name_part x (slice at a high low) h = part_later x (slice at a high low) (parts a) (name_part x a h)
  name_part x (pick at c a b) h = part_later x (pick at c a b) ((parts c ++ parts a) ++ parts b) (elim (either (in_expr x c || in_expr x a) (in_expr x b) h) [
    | inl k ↦ part_left x (parts c ++ parts a) (parts b) (elim (either (in_expr x c) (in_expr x a) k) [
      | inl l ↦ part_left x (parts c) (parts a) (name_part x c l)
      | inr l ↦ part_right x (parts c) (parts a) (name_part x a l)
    ])
    | inr k ↦ part_right x (parts c ++ parts a) (parts b) (name_part x b k)
  ])

  name_parts : (x : List ℕ) (es : Exprs) → in_exprs x es ≡ true → Part x (parts_of es)
  name_parts x no_exprs h = absurd (cc)
  name_parts x (expr e es) h = elim (either (in_expr x e) (in_exprs x es) h) [
    | inl k ↦ part_left x (parts e) (parts_of es) (name_part x e k)
    | inr k ↦ part_right x (parts e) (parts_of es) (name_parts x es k)
  ]

pub any_in : {A : Type 0} (f : A → Bool) (xs : List A) (x : A) → In x xs → f x ≡ true → list_any f xs ≡ true
any_in f [] x i h = absurd i
any_in f (y ∷ xs) x i h = elim i [
  | inl e ↦ left_in (f y) (list_any f xs) (ap f (sym e) ∙ h)
  | inr k ↦ right_in (f y) (list_any f xs) (any_in f xs x k h)
]

any_none : {A : Type 0} (f : A → Bool) (xs : List A) → not (list_any f xs) ≡ true → (x : A) → In x xs → f x ≡ false
any_none f xs h x i = by_test (f x) refl
  where
    by_test : (b : Bool) → f x ≡ b → b ≡ false
    by_test true is = let k : not true ≡ true = ap not (sym (any_in f xs x i is)) ∙ h in absurd (cc)
    by_test false is = refl

unmentioned : (x : List ℕ) (e : Expr) → not (mentions x e) ≡ true → in_expr x e ≡ false
unmentioned x e h = by_test (in_expr x e) refl
  where
    by_test : (b : Bool) → in_expr x e ≡ b → b ≡ false
    by_test true is =
        let p = name_part x e is in
        let k : same_expr p.0 (name 0 x) ≡ false = any_none (λ a. same_expr a (name 0 x)) (parts e) h p.0 p.1 in
        let c : true ≡ false = sym p.2 ∙ k in absurd (cc)
    by_test false is = refl

variable_of : (x : List ℕ) (e : Expr) → same_expr e (name 0 x) ≡ true → is_variable x e ≡ true
variable_of x (name at y) h = turned y x h
variable_of x (field at y f) h = absurd (cc)
variable_of x (lit at w n) h = absurd (cc)
variable_of x (true_or_false at b) h = absurd (cc)
variable_of x (call at f es) h = absurd (cc)
variable_of x (unary at op a) h = absurd (cc)
variable_of x (binary at op a b) h = absurd (cc)
variable_of x (slice at a high low) h = absurd (cc)
variable_of x (pick at c a b) h = absurd (cc)

-- ---- the condition of a fork

-- the last of some values and those before
ends_as : (x : List ℕ) (es : Exprs) (os : List Expr) (l : Expr) → list_of es ≡ os ++ (l ∷ []) → same_expr l (name 0 x) ≡ true → ((e : Expr) → In e os → in_expr x e ≡ false) → EndsWith x es
ends_as x no_exprs [] l h last none = absurd (cc)
ends_as x no_exprs (o ∷ os) l h last none = absurd (cc)
ends_as x (expr e no_exprs) [] l h last none = let same : e ≡ l = cc in variable_of x e (ap (λ y. same_expr y (name 0 x)) same ∙ last)
ends_as x (expr e no_exprs) (o ∷ []) l h last none = absurd (cc)
ends_as x (expr e no_exprs) (o ∷ p ∷ os) l h last none = absurd (cc)
ends_as x (expr e (expr a es)) [] l h last none = absurd (cc)
ends_as x (expr e (expr a es)) (o ∷ os) l h last none =
    let first : e ≡ o = cc in
    let later : list_of (expr a es) ≡ os ++ (l ∷ []) = cc in
    (ap (in_expr x) first ∙ none o (inl refl), ends_as x (expr a es) os l later last (λ y i. none y (inr i)))

record Ended (x : List ℕ) (es : Exprs) : Type 0 where
  ends : EndsWith x es
  two : 1 < length (list_of es)

ended : (x : List ℕ) (es : Exprs) (rs : List Expr) → reverse (list_of es) ≡ rs → ends_with x rs ≡ true → Ended x es
ended x es [] is h = absurd (cc)
ended x es (l ∷ os) is h =
    let outer = both_true (same_expr l (name 0 x) && not (length os == 0)) (list_all (λ e. not (mentions x e)) os) h in
    let inner = both_true (same_expr l (name 0 x)) (not (length os == 0)) outer.0 in
    let back : list_of es ≡ reverse os ++ (l ∷ []) = sym (reverse-reverse (list_of es)) ∙ ap reverse is ∙ reverse-append (l ∷ []) os in
    let count : length (list_of es) ≡ suc (length os) = sym (length-reverse (list_of es)) ∙ ap length is in
    record {
      ends = ends_as x es (reverse os) l back inner.0 (λ e i. unmentioned x e (all_at (λ y. not (mentions x y)) os outer.1 e (in_reverse e os i)));
      two = rw count (more os inner.1);
    }
  where
    more : (ys : List Expr) → not (length ys == 0) ≡ true → 1 < suc (length ys)
    more [] k = absurd (cc)
    more (y ∷ ys) k = omega arith

-- the last parameter has the variable's width
record LastOf (first : Param) (rest : List Param) (w : ℕ) : Type 0 where
  last : Param
  params_are : first ∷ rest ≡ before_last_from first rest ++ (last ∷ [])
  width_is : last.width ≡ w

bits_same : (v w : ℕ) → bits_sort v ≡ bits_sort w → v ≡ w
bits_same v w h = cc

own_width : (x : Name) (w : ℕ) (s : Scope) (e : Expr) → is_variable x.text e ≡ true → sort_of (with_var x w s) e ≡ Some (bits_sort w)
own_width x w s (name at y) h =
    ap (λ b. option_map bits_sort (option_map (λ (p : Param). p.width) (cond b (Some (record { name = x; width = w })) (named (λ (p : Param). p.name) y s.vars)))) (turned x.text y h)
own_width x w s (field at y f) h = absurd (cc)
own_width x w s (lit at v n) h = absurd (cc)
own_width x w s (true_or_false at b) h = absurd (cc)
own_width x w s (call at f es) h = absurd (cc)
own_width x w s (unary at op a) h = absurd (cc)
own_width x w s (binary at op a b) h = absurd (cc)
own_width x w s (slice at a high low) h = absurd (cc)
own_width x w s (pick at c a b) h = absurd (cc)

last_of : (x : Name) (w : ℕ) (s : Scope) (p : Param) (ps : List Param) (e : Expr) (es : Exprs) → EndsWith x.text (expr e es) → args_fit (widths_of (p ∷ ps)) (sorts_of (with_var x w s) (expr e es)) ≡ true → LastOf p ps w
last_of x w s p [] e no_exprs ends h =
    let both = both_true (has_sort (bits_sort p.width) (sort_of (with_var x w s) e)) true h in
    record {
      last = p;
      params_are = refl;
      width_is = bits_same p.width w (some_same (bits_sort p.width) (bits_sort w) (sym (has_sort_there (bits_sort p.width) (sort_of (with_var x w s) e) both.0) ∙ own_width x w s e ends));
    }
last_of x w s p (q ∷ ps) e no_exprs ends h = let both = both_true (has_sort (bits_sort p.width) (sort_of (with_var x w s) e)) false h in absurd (cc)
last_of x w s p [] e (expr a es) ends h = let both = both_true (has_sort (bits_sort p.width) (sort_of (with_var x w s) e)) false h in absurd (cc)
last_of x w s p (q ∷ ps) e (expr a es) ends h =
    let both = both_true (has_sort (bits_sort p.width) (sort_of (with_var x w s) e)) (args_fit (widths_of (q ∷ ps)) (sorts_of (with_var x w s) (expr a es))) h in
    let more = last_of x w s q ps a es ends.1 both.1 in
    record { last = more.last; params_are = ap (λ xs. p ∷ xs) more.params_are; width_is = more.width_is }

before_last_some : (s : Scope) (p : Param) (ps : List Param) (es : Exprs) → 1 < length (list_of es) → args_fit (widths_of (p ∷ ps)) (sorts_of s es) ≡ true → 0 < length (before_last_from p ps)
before_last_some s p ps no_exprs l h = absurd (omega (arith, l))
before_last_some s p ps (expr e no_exprs) l h = absurd (omega (arith, l))
before_last_some s p [] (expr e (expr a es)) l h = let both = both_true (has_sort (bits_sort p.width) (sort_of s e)) false h in absurd (cc)
before_last_some s p (q ∷ ps) (expr e (expr a es)) l h = omega arith

truth_kind : (k : ResultKind) → result_sort k ≡ truth_sort → k ≡ of_truth
truth_kind (of_width w) h = absurd (cc)
truth_kind of_truth h = refl

none_there : {A : Type 0} (o : Option A) → is_none o ≡ true → o ≡ None
none_there None h = refl
none_there (Some a) h = absurd (cc)

runtime_there : (o : Option FunctionDecl) (g : FunctionDecl) → (elim o as (λ x. Bool) [ None ↦ false | Some x ↦ is_none x.body ]) ≡ true → o ≡ Some g → g.body ≡ None
runtime_there None g h e = absurd (cc)
runtime_there (Some x) g h e = let same : x ≡ g = cc in none_there g.body (ap (λ (y : FunctionDecl). is_none y.body) (sym same) ∙ h)

called_fork : (d : Design) → NamesDiffer d → (i : ℕ) (vars : List Param) (x : Name) (w : ℕ) (at : ℕ) (f : Name) (es : Exprs) → sort_of (with_var x w (scope_at d i vars true)) (call at f es) ≡ Some truth_sort
    → is_runtime d f.text ≡ true → ends_with x.text (reverse (list_of es)) ≡ true → IsForkCall (reverse (functions d)) x.text w (call at f es)
called_fork d differ i vars x w at f es typed runtime ends =
    let s = scope_at d i vars true in
    let t = with_var x w s in
    let found = then_there (λ (g : FunctionDecl). if args_fit (widths_of g.params) (sorts_of t es) then Some (result_sort g.result) else None) (function_named t f.text) truth_sort typed in
    let g = found.0 in
    let fit = if_there (args_fit (widths_of g.params) (sorts_of t es)) (result_sort g.result) truth_sort found.2 in
    let end = ended x.text es (reverse (list_of es)) refl ends in
    let there = named_there (λ (y : FunctionDecl). y.name) f.text (functions d) g found.1 in
    let back = named_some (λ (y : FunctionDecl). y.name) f.text (reverse (functions d)) g (reverse_in g (functions d) there.0) there.1 in
    let again = named_there (λ (y : FunctionDecl). y.name) f.text (reverse (functions d)) back.0 back.1 in
    let same : back.0 ≡ g = differ back.0 g (in_reverse back.0 (functions d) again.0) there.0 (sym again.1 ∙ there.1) in
    let named_is : named (λ (y : FunctionDecl). y.name) f.text (reverse (functions d)) ≡ Some g = back.1 ∙ ap Some same in
    let none : g.body ≡ None = runtime_there (named (λ (y : FunctionDecl). y.name) f.text (functions d)) g runtime found.1 in
    by_params g g.params refl es fit.0 end.ends end.two (λ last are width before_last. record {
      at = at;
      callee = f;
      values = es;
      function = g;
      last = last;
      call_is = refl;
      function_is = named_is;
      is_runtime = none;
      is_truth = truth_kind g.result fit.1;
      params_are = are;
      last_width = width;
      has_before_last = before_last;
      values_end = end.ends;
    })
  where
    by_params : {R : Type 0} (g : FunctionDecl) (ps : List Param) → g.params ≡ ps → (vs : Exprs) → args_fit (widths_of g.params) (sorts_of (with_var x w (scope_at d i vars true)) vs) ≡ true
        → EndsWith x.text vs → 1 < length (list_of vs)
        → ((last : Param) → g.params ≡ params_before_last g.params ++ (last ∷ []) → last.width ≡ w → 0 < length (params_before_last g.params) → R) → R
    by_params g ps is no_exprs fit end two k = absurd end
    by_params g [] is (expr e vs) fit end two k =
        let h : args_fit [] (sorts_of (with_var x w (scope_at d i vars true)) (expr e vs)) ≡ true = ap (λ qs. args_fit (widths_of qs) (sorts_of (with_var x w (scope_at d i vars true)) (expr e vs))) (sym is) ∙ fit in absurd (cc)
    by_params g (p ∷ ps) is (expr e vs) fit end two k =
        let s = scope_at d i vars true in
        let h : args_fit (widths_of (p ∷ ps)) (sorts_of (with_var x w s) (expr e vs)) ≡ true = ap (λ qs. args_fit (widths_of qs) (sorts_of (with_var x w s) (expr e vs))) (sym is) ∙ fit in
        let l = last_of x w s p ps e vs end h in
        k l.last (subst (λ qs. qs ≡ params_before_last qs ++ (l.last ∷ [])) (sym is) l.params_are) l.width_is
        (subst (λ qs. 0 < length (params_before_last qs)) (sym is) (before_last_some (with_var x w s) p ps (expr e vs) two h))

fork_call : (d : Design) → NamesDiffer d → (i : ℕ) (vars : List Param) (x : Name) (w : ℕ) (e : Expr) → sort_of (with_var x w (scope_at d i vars true)) e ≡ Some truth_sort → fork_condition d x.text e ≡ true
    → IsForkCall (reverse (functions d)) x.text w e
fork_call d differ i vars x w (call at f es) typed h =
    let both = both_true (is_runtime d f.text) (ends_with x.text (reverse (list_of es))) h in called_fork d differ i vars x w at f es typed both.0 both.1
fork_call d differ i vars x w (name at y) typed h = absurd (cc)
fork_call d differ i vars x w (field at y f) typed h = absurd (cc)
fork_call d differ i vars x w (lit at v n) typed h = absurd (cc)
fork_call d differ i vars x w (true_or_false at b) typed h = absurd (cc)
fork_call d differ i vars x w (unary at op a) typed h = absurd (cc)
fork_call d differ i vars x w (binary at op a b) typed h = absurd (cc)
fork_call d differ i vars x w (slice at a high low) typed h = absurd (cc)
fork_call d differ i vars x w (pick at c a b) typed h = absurd (cc)

-- ---- what the rules say of a statement

-- the test of the rule on forks
abbrev pub fork_fits : Design → StmtSite → Bool
fork_fits d site = elim site.s [
  | fork at x w e b ↦ fork_condition d x.text e && not (list_any is_fork (stmts_in (with_var x w site.scope) false b))
  | _ ↦ true
]

-- and of the one on sends, for this switch's parameter
abbrev pub send_fits : (out : List ℕ) → Option Param → StmtSite → Bool
send_fits out own site = elim site.s [ send at r es ↦ is_own_out out own r es | _ ↦ true ]

pub record Ruled (d : Design) (out : List ℕ) (own : Option Param) (inside : Bool) (site : StmtSite) : Type 0 where
  pub no_choice : is_choice site.s ≡ false
  pub forks : fork_fits d site ≡ true
  pub sends : send_fits out own site ≡ true
  pub alone : inside ≡ true → is_fork site ≡ false

abbrev pub AllRuled : Design → (out : List ℕ) → Option Param → (inside : Bool) → List StmtSite → Type 0
AllRuled d out own inside sites = (x : StmtSite) → In x sites → Ruled d out own inside x

-- no variable is bound again
abbrev pub BoundOnce : List StmtSite → Type 0
BoundOnce sites = (x : StmtSite) → In x sites → bound_again x ≡ []

new_var : (s : Scope) (vars : List Param) (x : Name) (w : ℕ) → s.vars ≡ vars → unless_named (is_none (var_width s x.text)) x ++ [] ≡ [] → IsNew x vars
new_var s vars x w is h =
    ap (λ ps. option_map (λ (p : Param). p.width) (named (λ (p : Param). p.name) x.text ps)) (sym is)
    ∙ none_there (var_width s x.text) (passes (is_none (var_width s x.text)) x.at (nil_left (unless_named (is_none (var_width s x.text)) x) [] h))

own_send : (out own : List ℕ) (o : Option Param) (r : Name) (es : Exprs) (p : Param) → o ≡ Some p → p.name.text ≡ own → is_own_out out o r es ≡ true → IsOwnSend own out r es
own_send out own None r es p e is h = absurd (cc)
own_send out own (Some q) r no_exprs p e is h = absurd (cc)
own_send out own (Some q) r (expr a no_exprs) p e is h =
    let both = both_true (same_name r.text out && same_expr a (name 0 q.name.text)) (count_of no_exprs == 1) h in absurd (cc)
own_send out own (Some q) r (expr a (expr b no_exprs)) p e is h =
    let same : q ≡ p = cc in
    let both = both_true (same_name r.text out && same_expr a (name 0 q.name.text)) (1 == 1) h in
    let first = both_true (same_name r.text out) (same_expr a (name 0 q.name.text)) both.0 in
    record { switch = a; port = b; role_is = same_text r.text out first.0; values_are = refl; is_own = subst (λ y. is_variable y a ≡ true) (ap (λ (y : Param). y.name.text) same ∙ is) (variable_of q.name.text a first.1) }
own_send out own (Some q) r (expr a (expr b (expr c es))) p e is h =
    let both = both_true (same_name r.text out && same_expr a (name 0 q.name.text)) (count_of (expr b (expr c es)) == 1) h in
    let none : (suc (suc (count_of es)) == 1) ≡ true = both.1 in absurd (grind (arith, none))

-- ---- the body is of the form

after_same : (s : Stmt) (a : Scope) (vars : List Param) → a.vars ≡ vars → (after_stmt s a).vars ≡ after_vars s vars
after_same s a vars is = ap (λ (t : Scope). t.vars) (after_scope s a) ∙ ap (after_vars s) is

pub record Rules (d : Design) (i : ℕ) (own out : List ℕ) (o : Option Param) : Type 0 where
  pub differ : NamesDiffer d
  pub first : Param
  pub first_is : o ≡ Some first
  pub own_is : first.name.text ≡ own

mutual
  formed_stmt : (d : Design) (i : ℕ) (own out : List ℕ) (o : Option Param) → Rules d i own out o → (s : Stmt) (a b : Scope) (vars : List Param) → a.vars ≡ vars → b.vars ≡ vars → (inside ended again : Bool)
      → IsTypedStmt (scope_at d i vars true) s → AllRuled d out o inside (stmts_at a ended s) → BoundOnce (stmts_at b again s) → FormedStmt (reverse (functions d)) own out inside vars s
  formed_stmt d i own out o g (let_ at x w e) a b vars p q inside ended again typed ruled once = new_var b vars x w q (once (record { scope = b; ended = again; s = let_ at x w e }) (inl refl))
  formed_stmt d i own out o g (set_field at x f e) a b vars p q inside ended again typed ruled once = tt
  formed_stmt d i own out o g (if_ at e x y) a b vars p q inside ended again typed ruled once = (
    formed d i own out o g x a b vars p q inside false false typed.1 (λ z j. ruled z (inr (in_left z (stmts_in a false x) (stmts_in a false y) j))) (λ z j. once z (inr (in_left z (stmts_in b false x) (stmts_in b false y) j))),
    formed d i own out o g y a b vars p q inside false false typed.2 (λ z j. ruled z (inr (in_right z (stmts_in a false x) (stmts_in a false y) j))) (λ z j. once z (inr (in_right z (stmts_in b false x) (stmts_in b false y) j))),
  )
  formed_stmt d i own out o g (filter at e) a b vars p q inside ended again typed ruled once = tt
  formed_stmt d i own out o g (havoc_var at x w) a b vars p q inside ended again typed ruled once =
      let r = (ruled (record { scope = a; ended = ended; s = havoc_var at x w }) (inl refl)).no_choice in absurd (cc)
  formed_stmt d i own out o g (havoc_field at x f) a b vars p q inside ended again typed ruled once =
      let r = (ruled (record { scope = a; ended = ended; s = havoc_field at x f }) (inl refl)).no_choice in absurd (cc)
  formed_stmt d i own out o g (assume at e) a b vars p q inside ended again typed ruled once =
      let r = (ruled (record { scope = a; ended = ended; s = assume at e }) (inl refl)).no_choice in absurd (cc)
  formed_stmt d i own out o g (fork at x w e y) a b vars p q inside ended again typed ruled once =
      let r = ruled (record { scope = a; ended = ended; s = fork at x w e y }) (inl refl) in
      let both = both_true (fork_condition d x.text e) (not (list_any is_fork (stmts_in (with_var x w a) false y))) r.forks in (
        outside inside r.alone,
        new_var b vars x w q (once (record { scope = b; ended = again; s = fork at x w e y }) (inl refl)),
        fork_call d g.differ i vars x w e typed.1.0 both.0,
        formed d i own out o g y (with_var x w a) (with_var x w b) (one_more x w vars) (ap (one_more x w) p) (ap (one_more x w) q) true false false typed.2
            (λ z j. let k = ruled z (inr j) in record { no_choice = k.no_choice; forks = k.forks; sends = k.sends; alone = λ t. any_none is_fork (stmts_in (with_var x w a) false y) both.1 z j })
            (λ z j. once z (inr j)),
      )
    where
      outside : (k : Bool) → (k ≡ true → true ≡ false) → k ≡ false
      outside true f = let c : true ≡ false = f refl in absurd (cc)
      outside false f = refl
  formed_stmt d i own out o g (send at r es) a b vars p q inside ended again typed ruled once =
      own_send out own o r es g.first g.first_is g.own_is (ruled (record { scope = a; ended = ended; s = send at r es }) (inl refl)).sends

  pub formed : (d : Design) (i : ℕ) (own out : List ℕ) (o : Option Param) → Rules d i own out o → (block : Block) (a b : Scope) (vars : List Param) → a.vars ≡ vars → b.vars ≡ vars → (inside ended again : Bool)
      → IsTyped (scope_at d i vars true) block → AllRuled d out o inside (stmts_in a ended block) → BoundOnce (stmts_in b again block) → Formed (reverse (functions d)) own out inside vars block
  formed d i own out o g no_stmts a b vars p q inside ended again typed ruled once = tt
  formed d i own out o g (stmt first rest) a b vars p q inside ended again typed ruled once =
      let ends = ended || stmt_ends first in
      let also = again || stmt_ends first in (
        formed_stmt d i own out o g first a b vars p q inside ended again typed.0 (λ z j. ruled z (in_left z (stmts_at a ended first) (stmts_in (after_stmt first a) ends rest) j))
            (λ z j. once z (in_left z (stmts_at b again first) (stmts_in (after_stmt first b) also rest) j)),
        formed d i own out o g rest (after_stmt first a) (after_stmt first b) (after_vars first vars) (after_same first a vars p) (after_same first b vars q) inside ends also
            (subst (λ s. IsTyped s rest) (after_scope first (scope_at d i vars true)) typed.1)
            (λ z j. ruled z (in_right z (stmts_at a ended first) (stmts_in (after_stmt first a) ends rest) j)) (λ z j. once z (in_right z (stmts_at b again first) (stmts_in (after_stmt first b) also rest) j)),
      )
